-- The last field of a struct that is a TypeRef to an enum.
use Rattle.std.specs.Prelude.{Option, Some, None, IfSome}
use Rattle.std.specs.Int.{from_bool}
use Prim.Native.Nat.{ℕ, ◌+◌, ◌*◌, ◌≤◌, ◌<◌}
use native.Mathlib.Omega.{arith}
use mathlib.Core.Bool.{Bool, true, false, cond}
use mathlib.Core.Option.{none}
use mathlib.Core.Path.{◌≡◌, refl, ap, ◌∙◌}
use mathlib.Core.List.{List}
use lib.Dec.{eqb}
use lib.ListN.{length, get_or}
use Rattle.meaning.specs.Lists.{last_index, holds}
use Rattle.meaning.specs.Lookup.{as_struct, find_type}
use Rattle.meaning.specs.Sizes.{is_enum_with_constant_size_variants}
use Rattle.meaning.specs.Tree.{Ty, primitive, type_ref, struct, union, enum, array, size_union}
use Rattle.meaning.specs.Violations.{is_enum_referencing_same_container_struct, struct_of}
use Rattle.bundle.specs.Definitions.{type_at, bundle_of, Table}
use Rattle.bundle.specs.View.{FirstOf}
use Rattle.fields.specs.Shapes.{DefinitionIs}
use Rattle.fields.specs.Sought.{refers}
use Rattle.fields.proofs.Lookups.{defined, undefined}
use Rattle.field_index.specs.Noted.{lead_is, struct_fields, fields_at, constants_at, index_shown, ConstantsNoted}
use Rattle.containers.specs.declared.Container.{Container}
use Rattle.containers.specs.declared.Container.TheVariants.{Nowhere}
use Rattle.containers.specs.Containers.{LeadFor, last_held, held_in, held_shown, container_shown}
use Rattle.containers.proofs.Containing.{last_held_lem}

module _ (s : List ℕ) (e x : ℕ) where
  module _ (c : false ≡ holds is_enum_with_constant_size_variants (find_type (bundle_of s) e)) where
    pub held_none : struct_of (bundle_of s) x ≡ none → None ≡ held_in (bundle_of s) e x
    held_none g = rw (← c, g) refl

    pub held_last : {n : ℕ} {places : List ℕ} → Table s n places → {i y : ℕ} {r : Option ℕ} → DefinitionIs s n x i (get_or places i 0) → LeadFor s e y
        → r ≡ index_shown (last_index (lead_is (bundle_of s) y) (fields_at s places i)) → r ≡ held_in (bundle_of s) e x
    unfolding struct_of
    held_last {places = places} t {i} {y = y} d l p =
        p ∙ ap index_shown (last_held_lem l (fields_at s places i)) ∙ rw (← c, d.is) (go (type_at 24 s (get_or places i 0)))
      where
        go : (t : Ty) → index_shown (last_index (refers e) (struct_fields t)) ≡ last_held e (as_struct t)
        go (primitive k) = refl
        go (type_ref n) = refl
        go (struct a ms) = refl
        go (union a ms) = refl
        go (enum a tag ms) = refl
        go (array a jagged size element) = refl
        go (size_union a ms) = refl

-- an index of a field of a struct in few bytes
pub held_small : (s : List ℕ) → length s ≤ 32768 → (r : Option ℕ) → IfSome r (λ k. 4 * (k + 1) ≤ length s) → IfSome r (λ k. k < 32768)
held_small s l (Some k) h = omega (arith, h)
held_small s l None h = tt

-- what an answer for a name says
module _ (s : List ℕ) (e x : ℕ) where
  pub shown_yes : {c : Container} → c ≡ container_shown (bundle_of s) e x → (c ≡ Nowhere → ⊥) → (true ≡ is_enum_referencing_same_container_struct (bundle_of s) e x) × (c ≡ held_shown (held_in (bundle_of s) e x))
  shown_yes {c} p n = go (is_enum_referencing_same_container_struct (bundle_of s) e x) p
    where
      go : (t : Bool) → c ≡ cond t (held_shown (held_in (bundle_of s) e x)) Nowhere → (true ≡ t) × (c ≡ held_shown (held_in (bundle_of s) e x))
      go true q = (refl, q)
      go false q = absurd (n q)

  pub shown_no : Nowhere ≡ container_shown (bundle_of s) e x → false ≡ is_enum_referencing_same_container_struct (bundle_of s) e x
  shown_no p = go (is_enum_referencing_same_container_struct (bundle_of s) e x) (held_in (bundle_of s) e x) p
    where
      go : (t : Bool) (o : Option ℕ) → Nowhere ≡ cond t (held_shown o) Nowhere → false ≡ t
      go true None q = cc
      go true (Some k) q = cc
      go false o q = refl

-- whether the variants of e are of constant size, by what is noted of its first definition
mark_is : (b : Bool) → eqb (from_bool b) 1 ≡ b
mark_is true = refl
mark_is false = refl

module _ {s : List ℕ} {n : ℕ} {places : List ℕ} (t : Table s n places) (e : ℕ) where
  pub constant_none : FirstOf (bundle_of s) e None → false ≡ holds is_enum_with_constant_size_variants (find_type (bundle_of s) e)
  constant_none f = rw (undefined t e f) refl

  pub constant_noted : {i : ℕ} → FirstOf (bundle_of s) e (Some i) → ConstantsNoted s places n → eqb (get_or places (constants_at + i) 0) 1 ≡ holds is_enum_with_constant_size_variants (find_type (bundle_of s) e)
  constant_noted {i} f o =
      let d = defined t f in
      rw (d.is, o.each i d.below) (mark_is (is_enum_with_constant_size_variants (type_at 24 s (get_or places i 0))))
