-- References to fields of one struct: type 1, and the references of a run one by one.
use Rattle.std.specs.Prelude.{Some, None}
use Prim.Native.Nat.{ℕ, ◌+◌, ◌*◌}
use native.Mathlib.Omega.{arith}
use mathlib.Core.Bool.{Bool, true, false, not, ◌&&◌}
use mathlib.Core.Option.{Option, none, some}
use mathlib.Core.Path.{◌≡◌, refl, sym, ap, subst, ◌∙◌}
use mathlib.Core.List.{List, [], ◌∷◌}
use lib.ListN.{length, drop}
use Rattle.meaning.specs.Lists.{holds, last_index, precedes}
use Rattle.meaning.specs.Lookup.{names_field, is_field, member_name, find_type}
use Rattle.meaning.specs.Tree.{Member}
use Rattle.meaning.specs.Sizes.{is_enum_with_constant_size_variants}
use Rattle.meaning.specs.Violations.{struct_of, stands_before, check_enum_forward_reference_in_same_struct}
use Rattle.bundle.specs.Definitions.{bundle_of}
use Rattle.sizes.specs.Scan.{path_at, references_from, Fits}
use Rattle.sizes.proofs.PathLaws.{Split, split_fit, split_fits}
use Rattle.checks.specs.declared.Finding.TheVariants.{EnumForward}
use Rattle.checks.specs.Checks.{target_at, type_part, PartOf, Checked, ReferenceIs}

-- a field part that is not one name equals no field's name
pub no_field : (field : List ℕ) → (length field ≡ 1 → ⊥) → (n : ℕ) → is_field field n ≡ false
no_field [] ne n = refl
no_field (f ∷ []) ne n = absurd (ne refl)
no_field (f ∷ g ∷ gs) ne n = refl

no_last : (field : List ℕ) → (length field ≡ 1 → ⊥) → (ms : List Member) → last_index (names_field field) ms ≡ none
no_last field ne [] = refl
no_last field ne (m ∷ ms) = rw (no_last field ne ms, no_field field ne (member_name m))

precedes_none : (o : Option ℕ) → precedes o none ≡ false
precedes_none none = refl
precedes_none (some i) = refl

pub holds_no : {A : Type 0} (test : A → Bool) → ((a : A) → test a ≡ false) → (o : Option A) → holds test o ≡ false
holds_no test h none = refl
holds_no test h (some a) = h a

-- type 1
module _ (s : List ℕ) (p n x : ℕ) (e : x ≡ type_part s p) where
  pub forward_part : PartOf (path_at s p) None → (i : ℕ) → check_enum_forward_reference_in_same_struct (bundle_of s) i n (target_at s p) ≡ none
  unfolding check_enum_forward_reference_in_same_struct
  forward_part g i =
      let field = (target_at s p).field in
      let no = holds_no (stands_before n field) (λ ms. ap (precedes (last_index _ ms)) (no_last field (g (bundle_of s).current) ms) ∙ precedes_none (last_index _ ms)) (struct_of (bundle_of s) (type_part s p)) in
      rw no

  module _ (f : ℕ) (g : PartOf (path_at s p) (Some f)) where
    -- what type 1 asks
    abbrev asked : Bool
    asked = holds (stands_before n (f ∷ [])) (struct_of (bundle_of s) x) && not (holds is_enum_with_constant_size_variants (find_type (bundle_of s) n))

    pub forward_not : false ≡ asked → (i : ℕ) → check_enum_forward_reference_in_same_struct (bundle_of s) i n (target_at s p) ≡ none
    unfolding check_enum_forward_reference_in_same_struct
    forward_not h i = rw (g (bundle_of s).current, ← e, ← h)

    pub forward_is : (list : List ℕ) {list' : List ℕ} → true ≡ asked → list' ≡ x ∷ n ∷ f ∷ drop 3 list
        → Checked s n list' (Some (EnumForward x f)) (λ i. check_enum_forward_reference_in_same_struct (bundle_of s) i n (target_at s p))
    unfolding check_enum_forward_reference_in_same_struct
    forward_is list h w = record {
      means = λ i. rw (w, g (bundle_of s).current, ← e, ← h);
      fits = omega (arith, ap length w);
    }

-- what was found, and what was not
pub referred : {s : List ℕ} {end at p n : ℕ} → Split s end at p → Fits s (references_from s at end) → n ≡ length (path_at s p) → ReferenceIs s at end p (p + 1 + 2 * n)
referred {s} {end} {at} {p} {n} g f e = record {
  rest = subst (λ k. references_from s at end ≡ p ∷ references_from s (p + 1 + 2 * k) end) (sym e) g.rest;
  forward = omega (arith, g.from);
  fit = split_fit s end p g f;
  fits = subst (λ k. Fits s (references_from s (p + 1 + 2 * k) end)) (sym e) (split_fits s end p g f);
}
