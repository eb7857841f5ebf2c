-- The field to which a reference leads, by what is noted of the fields.
--     index_other, -nowhere, -found   the field part is no name, the type is not defined, it is
use Rattle.std.specs.Prelude as code
use Rattle.std.specs.Prelude.{Some, None, IfSome}
use Prim.Native.Nat.{ℕ}
use mathlib.Core.Path.{◌≡◌, refl, sym, ap, ◌∙◌}
use mathlib.Core.Option.{Option, none, some}
use mathlib.Core.List.{List, [], ◌∷◌}
use native.Mathlib.Omega.{arith}
use lib.ListN.{length}
use Rattle.meaning.specs.Lists.{first_index}
use Rattle.meaning.specs.Lookup.{list_of, names_field, member_name, as_struct, find_type}
use Rattle.meaning.specs.Tree.{Ty, primitive, type_ref, struct, union, enum, array, size_union, Member}
use Rattle.meaning.specs.Violations.{struct_of}
use Rattle.bundle.specs.Definitions.{type_at, bundle_of}
use Rattle.sizes.specs.Scan.{path_at}
use Rattle.fields.specs.Shapes.{DefinitionIs}
use Rattle.fields.specs.Sought.{named, shown}
use Rattle.fields.proofs.Lookups.{struct_none}
use Rattle.field_index.specs.Noted.{struct_fields, index_shown}
use Rattle.checks.specs.Checks.{target_at, type_part, PartOf}
use Rattle.checks.proofs.ForwardChecks.{no_field}
use Rattle.notes.specs.Notes.{first_shown, listed, index_for}

-- a field part that is not one name is no field of a struct
pub no_first : (field : List ℕ) → (length field ≡ 1 → ⊥) → (ms : List Member) → first_index (names_field field) ms ≡ none
no_first field ne [] = refl
no_first field ne (m ∷ ms) = rw (no_first field ne ms, no_field field ne (member_name m))

-- of one name, in the fields of a type
listed_shown : (o : Option ℕ) → listed (index_shown o) ≡ shown o
listed_shown none = refl
listed_shown (some i) = omega arith

shown_fields : (f : ℕ) (t : Ty) → first_shown (f ∷ []) (as_struct t) ≡ listed (index_shown (first_index (named f) (struct_fields t)))
shown_fields f (primitive k) = refl
shown_fields f (type_ref n) = refl
shown_fields f (struct a ms) = sym (listed_shown (first_index (named f) (list_of ms)))
shown_fields f (union a ms) = refl
shown_fields f (enum a tag ms) = refl
shown_fields f (array a jagged size element) = refl
shown_fields f (size_union a ms) = refl

module _ (s : List ℕ) (p : ℕ) where
  pub index_other : PartOf (path_at s p) None → 0 ≡ index_for (bundle_of s) (target_at s p)
  index_other g = go (struct_of (bundle_of s) (type_part s p))
    where
      go : (o : Option (List Member)) → 0 ≡ first_shown (target_at s p).field o
      go none = refl
      go (some ms) = rw (no_first (target_at s p).field (g (bundle_of s).current) ms) refl

  module _ {x : ℕ} (e : x ≡ type_part s p) where
    pub index_nowhere : find_type (bundle_of s) x ≡ none → 0 ≡ index_for (bundle_of s) (target_at s p)
    index_nowhere h = sym (ap (first_shown (target_at s p).field) (ap (struct_of (bundle_of s)) (sym e) ∙ struct_none s x h))

    pub index_found : {n i at f : ℕ} → DefinitionIs s n x i at → PartOf (path_at s p) (Some f) → {r : code.Option ℕ}
        → r ≡ index_shown (first_index (named f) (struct_fields (type_at 24 s at))) → listed r ≡ index_for (bundle_of s) (target_at s p)
    unfolding struct_of
    index_found {at = at} {f = f} d g q = ap listed q ∙ sym (shown_fields f (type_at 24 s at)) ∙ rw (g (bundle_of s).current, ← e, d.is) refl
