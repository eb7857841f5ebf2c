-- A first definition that was found, with its place; the fields of a struct so found, and their order.
use Prim.Native.Nat.{ℕ, ◌≤◌, ◌<◌}
use native.Mathlib.Omega.{arith}
use mathlib.Core.Option.{none}
use mathlib.Core.Path.{◌≡◌, refl}
use mathlib.Core.List.{List}
use lib.ListN.{get_or}
use Rattle.meaning.specs.Lookup.{count, definition_of, find_type}
use Rattle.meaning.specs.Violations.{struct_of}
use Rattle.bundle.specs.Definitions.{bundle_of, Table}
use Rattle.bundle.proofs.LookupLaws.{placed_at, found_type, found_none}
use Rattle.fields.specs.Shapes.{DefinitionIs}

-- what a search for the first definition of a name found, with its place
pub defined : {s : List ℕ} {n : ℕ} {places : List ℕ} → Table s n places → {x i : ℕ} → (i ≡ definition_of (bundle_of s) x) × (i < count (bundle_of s)) → DefinitionIs s n x i (get_or places i 0)
defined t {x} {i} f = let h : i < _ = omega (arith, f.1, t.count) in record { number = f.0; below = h; reads = (placed_at t i h).reads; is = found_type t i x f.0 h }

-- what it shows where it found none
pub undefined : {s : List ℕ} {n : ℕ} {places : List ℕ} → Table s n places → (x : ℕ) → count (bundle_of s) ≤ definition_of (bundle_of s) x → find_type (bundle_of s) x ≡ none
undefined t x h = found_none t _ x refl (omega (arith, h, t.count))

-- the fields of the first definition of a name
pub struct_none : (s : List ℕ) (x : ℕ) → find_type (bundle_of s) x ≡ none → struct_of (bundle_of s) x ≡ none
unfolding struct_of
struct_none s x e = rw e
