-- An enum before a field of the first struct of a name, by what is kept and noted.
use Rattle.std.specs.Prelude as code
use Prim.Native.Nat.{ℕ}
use mathlib.Core.Bool.{Bool, true, false, ◌&&◌}
use mathlib.Core.List.{List, [], ◌∷◌}
use mathlib.Core.Option.{Option, none, some}
use mathlib.Core.Path.{◌≡◌, refl, sym, ap, ◌∙◌}
use lib.Dec.{ltb}
use lib.ListN.{get_or}
use Rattle.meaning.specs.Lists.{last_index, holds, precedes}
use Rattle.meaning.specs.Lookup.{as_struct, find_type}
use Rattle.meaning.specs.Sizes.{is_enum_with_constant_size_variants}
use Rattle.meaning.specs.Tree.{Ty, primitive, type_ref, struct, union, enum, array, size_union, Member}
use Rattle.meaning.specs.Violations.{stands_before, struct_of}
use Rattle.bundle.specs.Definitions.{type_at, bundle_of}
use Rattle.fields.specs.Shapes.{DefinitionIs}
use Rattle.fields.specs.Sought.{refers, named}
use Rattle.field_index.specs.Noted.{struct_fields, fields_at, index_shown}
use Rattle.containers.specs.declared.Container.{Container}
use Rattle.containers.specs.declared.Container.TheVariants.{At}
use Rattle.containers.specs.Containers.{held_in, held_shown, is_before}

-- the fields of a struct
the_fields : (t : Ty) (ms : List Member) → as_struct t ≡ some ms → struct_fields t ≡ ms
the_fields (primitive k) ms e = cc
the_fields (type_ref n) ms e = cc
the_fields (struct a xs) ms e = cc
the_fields (union a xs) ms e = cc
the_fields (enum a tag xs) ms e = cc
the_fields (array a jagged size element) ms e = cc
the_fields (size_union a xs) ms e = cc

and_false : (t : Bool) → false ≡ (t && false)
and_false true = refl
and_false false = refl

and_true : (t : Bool) → t ≡ (t && true)
and_true true = refl
and_true false = refl

-- an index before another, as they are shown
precedes_none : (o p : Option ℕ) → code.None ≡ index_shown o → false ≡ precedes o p
precedes_none none p e = refl
precedes_none (some i) p e = cc

precedes_no : (o : Option ℕ) → false ≡ precedes o none
precedes_no none = refl
precedes_no (some i) = refl

precedes_shown : (o : Option ℕ) {i : ℕ} (j : ℕ) → code.Some i ≡ index_shown o → ltb i j ≡ precedes o (some j)
precedes_shown none j e = cc
precedes_shown (some i) j e = cc

-- the index in an answer
pub held_at : {k : ℕ} (o : code.Option ℕ) → At k ≡ held_shown o → code.Some k ≡ o
held_at code.None e = cc
held_at (code.Some i) e = cc

module _ (s : List ℕ) (e x f : ℕ) where
  -- no field is a TypeRef to the enum, or its variants are of constant size
  before_none : code.None ≡ held_in (bundle_of s) e x → false ≡ is_before (bundle_of s) e x f
  before_none p = go (holds is_enum_with_constant_size_variants (find_type (bundle_of s) e)) refl (struct_of (bundle_of s) x) refl
    where
      go : (c : Bool) → holds is_enum_with_constant_size_variants (find_type (bundle_of s) e) ≡ c → (o : Option (List Member)) → struct_of (bundle_of s) x ≡ o → false ≡ is_before (bundle_of s) e x f
      go true q o g = rw q (and_false (holds (stands_before e (f ∷ [])) (struct_of (bundle_of s) x)))
      go false q none g = rw (q, g) refl
      go false q (some ms) g =
          let z : code.None ≡ index_shown (last_index (refers e) ms) = p ∙ rw (q, g) refl in
          rw (q, g) (precedes_none (last_index (refers e) ms) (last_index (named f) ms) z ∙ and_true (stands_before e (f ∷ []) ms))

  pub before_other : (r : Container) → ((k : ℕ) → r ≡ At k → ⊥) → r ≡ held_shown (held_in (bundle_of s) e x) → false ≡ is_before (bundle_of s) e x f
  before_other r not p = go (held_in (bundle_of s) e x) refl
    where
      go : (o : code.Option ℕ) → held_in (bundle_of s) e x ≡ o → false ≡ is_before (bundle_of s) e x f
      go code.None q = before_none (sym q)
      go (code.Some k) q = absurd (not k (p ∙ ap held_shown q))

  -- there is no such struct
  pub before_no : struct_of (bundle_of s) x ≡ none → false ≡ is_before (bundle_of s) e x f
  before_no g = rw g refl

  -- the two indices are compared
  module _ {n : ℕ} (places : List ℕ) (i : ℕ) (d : DefinitionIs s n x i (get_or places i 0)) {held : ℕ} (p : code.Some held ≡ held_in (bundle_of s) e x) where
    the_struct : struct_of (bundle_of s) x ≡ as_struct (type_at 24 s (get_or places i 0))
    unfolding struct_of
    the_struct = rw d.is refl

    compared : {r : Bool} → ((ms : List Member) → code.Some held ≡ index_shown (last_index (refers e) ms) → fields_at s places i ≡ ms → r ≡ stands_before e (f ∷ []) ms) → r ≡ is_before (bundle_of s) e x f
    compared {r} h = go (holds is_enum_with_constant_size_variants (find_type (bundle_of s) e)) refl (as_struct (type_at 24 s (get_or places i 0))) refl
      where
        go : (c : Bool) → holds is_enum_with_constant_size_variants (find_type (bundle_of s) e) ≡ c → (o : Option (List Member)) → as_struct (type_at 24 s (get_or places i 0)) ≡ o
            → r ≡ is_before (bundle_of s) e x f
        go true k o g = let z : code.Some held ≡ code.None = p ∙ rw k refl in cc
        go false k none g = let z : code.Some held ≡ code.None = p ∙ rw (k, the_struct, g) refl in cc
        go false k (some ms) g =
            rw (k, the_struct, g)
            (h ms (p ∙ rw (k, the_struct, g) refl) (the_fields (type_at 24 s (get_or places i 0)) ms g) ∙ and_true (stands_before e (f ∷ []) ms))

    pub before_unnamed : last_index (named f) (fields_at s places i) ≡ none → false ≡ is_before (bundle_of s) e x f
    before_unnamed q = compared (λ ms h same. rw (← same, q) (precedes_no (last_index (refers e) (fields_at s places i))))

    pub before_shown : {last : ℕ} → last_index (named f) (fields_at s places i) ≡ some last → ltb held last ≡ is_before (bundle_of s) e x f
    before_shown q = compared (λ ms h same. rw (← same, q) (precedes_shown (last_index (refers e) (fields_at s places i)) _ (rw same h)))
