-- What is noted of a definition, and of the fields of its struct.
use Prim.Native.Nat.{ℕ, ◌+◌, ◌<◌}
use mathlib.Core.Path.{◌≡◌, refl, sym}
use mathlib.Core.Bool.{Bool, false}
use mathlib.Core.List.{List, []}
use native.Mathlib.Omega.{arith}
use lib.ListN.{length}
use Rattle.meaning.specs.Lists.{holds}
use Rattle.meaning.specs.Lookup.{as_struct}
use Rattle.meaning.specs.Tree.{Ty, primitive, type_ref, struct, union, enum, array, size_union, Member}
use Rattle.bundle.specs.Definitions.{Table}
use Rattle.field_index.specs.Noted.{starts_at, struct_fields, FieldsNoted}

-- a test that no empty list passes, of the fields of a struct
pub holds_fields : (f : List Member → Bool) → f [] ≡ false → (t : Ty) → holds f (as_struct t) ≡ f (struct_fields t)
holds_fields f e (primitive k) = sym e
holds_fields f e (type_ref n) = sym e
holds_fields f e (struct a ms) = refl
holds_fields f e (union a ms) = sym e
holds_fields f e (enum a tag ms) = sym e
holds_fields f e (array a jagged size element) = sym e
holds_fields f e (size_union a ms) = sym e

-- the place of a definition among those noted
pub noted_there : {s places : List ℕ} {n i : ℕ} → Table s n places → FieldsNoted s places n → i < n → starts_at + i < length places
noted_there t o l = omega (arith, o.size, t.count, t.placed.room)
