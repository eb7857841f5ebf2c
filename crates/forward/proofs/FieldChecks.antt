-- The fields of a struct: type 4.
use Rattle.std.specs.Prelude.{None, Ok, Some, Option as CodeOption}
use Prim.Native.Nat.{ℕ}
use native.Mathlib.Omega.{arith}
use mathlib.Core.Bool.{Bool, true, false, cond}
use mathlib.Core.Option.{Option, none, some}
use mathlib.Core.Path.{◌≡◌, refl, sym, ap, subst, ◌∙◌}
use mathlib.Core.List.{List, [], ◌∷◌, map}
use lib.ListN.{length, drop}
use Rattle.meaning.specs.Lists.{find_map, or_else, only_if}
use Rattle.meaning.specs.Lookup.{find_type, as_type_ref}
use Rattle.meaning.specs.Tree.{Ty, member}
use Rattle.meaning.specs.Violations.{Violation, violation, field_forward, check_forward_reference, check_field_layout_dependency}
use Rattle.bundle.specs.View.{step_of}
use Rattle.bundle.specs.Definitions.{type_at, bundle_of}
use Rattle.meaning.specs.ReadType.{read_ty}
use Rattle.fields.specs.declared.Shape.{Shape}
use Rattle.fields.specs.declared.Shape.TheVariants as shape
use Rattle.fields.specs.Shapes.{ShapeOf, ref_shown, DefinitionIs}
use Rattle.fields.proofs.ShapeLaws.{shape_ref, no_ref}
use Rattle.sizes.specs.Paths.{Fit}
use Rattle.sizes.specs.Scan.{path_at, references_from}
use Rattle.sizes.proofs.ReferenceLaws.{type_references}
use Rattle.checks.specs.declared.Finding.TheVariants.{FieldForward}
use Rattle.checks.specs.Checks.{target_at, PartOf, Checked}
use Rattle.forward.specs.Forward.{is_forward, find, position_shown, FitIn, Forwarded, forward_at, OneField, ForwardIn}
use Rattle.forward.proofs.LaterFields.{part_forward}

-- the position that was found passes the test
find_holds : (test : ℕ → Bool) (ps : List ℕ) (p : ℕ) → find test ps ≡ some p → test p ≡ true
find_holds test [] p e = let z : ◌≡◌ {A = ℕ} 0 1 = cc in absurd (omega arith)
find_holds test (x ∷ ps) p e = go (test x) refl e (find_holds test ps p)
  where
    go : (t : Bool) → test x ≡ t → cond t (some x) (find test ps) ≡ some p → (find test ps ≡ some p → test p ≡ true) → test p ≡ true
    go true q e ih = let z : x ≡ p = cc in subst (λ y. test y ≡ true) z q
    go false q e ih = ih e

module _ (s : List ℕ) (n j : ℕ) (t : Ty) where
  abbrev test : ℕ → Bool
  test p = is_forward (bundle_of s) n j t (path_at s p)

  find_first : (i f : ℕ) (ps : List ℕ) → find_map (check_forward_reference (bundle_of s) i n j f t) (map (path_at s) ps) ≡ forward_at s i n f (position_shown (find test ps))
  unfolding check_forward_reference
  find_first i f [] = refl
  find_first i f (p ∷ ps) = go (test p) (find_first i f ps)
    where
      go : (b : Bool) {o : Option Violation} → o ≡ forward_at s i n f (position_shown (find test ps))
          → or_else (only_if b (some (violation field_forward i n (path_at s p) (n ∷ f ∷ (target_at s p).field)))) o ≡ forward_at s i n f (position_shown (cond b (some p) (find test ps)))
      go true e = refl
      go false e = e

  one_field : (ps : List ℕ) (r : CodeOption ℕ) → r ≡ position_shown (find test ps) → OneField s r
  one_field ps None e = tt
  one_field ps (Some p) e = go (find test ps) refl e
    where
      go : (o : Option ℕ) → find test ps ≡ o → Some p ≡ position_shown o → length (target_at s p).field ≡ 1
      go none q e = let z : ◌≡◌ {A = ℕ} 0 1 = cc in absurd (omega arith)
      go (some x) q e = let z : x ≡ p = cc in part_forward s p n j t (find_holds test ps p (q ∙ ap some z))

-- the search through the whole of a definition
pub forward_in : (s : List ℕ) (n j at end : ℕ) {r : CodeOption ℕ} → Ok end ≡ step_of (read_ty 24 s at) → Forwarded s n j (type_at 24 s at) (references_from s at end) r → ForwardIn s n j (type_at 24 s at) r
forward_in s n j at end {r} e g = record {
  first = λ i f.
      ap (find_map (check_forward_reference (bundle_of s) i n j f (type_at 24 s at))) (sym (type_references 24 at end s (omega arith) e))
      ∙ find_first s n j (type_at 24 s at) i f (references_from s at end)
      ∙ ap (forward_at s i n f) (sym g.first);
  fit = g.fit;
  one = one_field s n j (type_at 24 s at) (references_from s at end) r g.first;
}

-- a forward reference that was found
module _ {s : List ℕ} {n j : ℕ} {t : Ty} {r : CodeOption ℕ} (w : ForwardIn s n j t r) {p : ℕ} (q : r ≡ Some p) where
  pub forward_fit : Fit s p
  forward_fit = subst (FitIn s) q w.fit

-- the field of a name f at index j, whose type stands at a position
module _ (s : List ℕ) (n j f at : ℕ) (r : Shape) (g : ShapeOf 23 s at r) (v : ℕ) where
  pub field_other : ((x : ℕ) → r ≡ shape.TypeRef x → ⊥) → (i : ℕ) → check_field_layout_dependency (bundle_of s) i n (j, member f v (type_at 23 s at)) ≡ none
  unfolding check_field_layout_dependency
  field_other o i = rw (no_ref 23 at s r o g)

  module _ {x : ℕ} (e : r ≡ shape.TypeRef x) where
    leads : as_type_ref (type_at 23 s at) ≡ some x
    leads = shape_ref 23 at s r g ∙ ap ref_shown e

    pub field_nowhere : find_type (bundle_of s) x ≡ none → (i : ℕ) → check_field_layout_dependency (bundle_of s) i n (j, member f v (type_at 23 s at)) ≡ none
    unfolding check_field_layout_dependency
    field_nowhere q i = rw (leads, q)

    module _ {m k p : ℕ} (d : DefinitionIs s m x k p) {h : CodeOption ℕ} (w : ForwardIn s n j (type_at 24 s p) h) where
      field_found : (i : ℕ) → check_field_layout_dependency (bundle_of s) i n (j, member f v (type_at 23 s at)) ≡ forward_at s i n f h
      unfolding check_field_layout_dependency
      field_found i = rw (leads, d.is) (w.first i f)

      pub field_fine : h ≡ None → (i : ℕ) → check_field_layout_dependency (bundle_of s) i n (j, member f v (type_at 23 s at)) ≡ none
      field_fine q i = field_found i ∙ ap (forward_at s i n f) q

      module _ {y : ℕ} (q : h ≡ Some y) where
        pub field_forward_lem : {z : ℕ} → PartOf (path_at s y) (Some z) → (list : List ℕ) {list' : List ℕ} → list' ≡ n ∷ f ∷ z ∷ drop 3 list
            → Checked s n list' (Some (FieldForward y)) (λ i. check_field_layout_dependency (bundle_of s) i n (j, member f v (type_at 23 s at)))
        field_forward_lem {z} o list l = record {
          means = λ i. rw l (sym (field_found i ∙ ap (forward_at s i n f) q ∙ ap (λ part. some (violation field_forward i n (path_at s y) (n ∷ f ∷ part))) (o (bundle_of s).current)));
          fits = record { fit = forward_fit w q; short = omega arith; room = omega (arith, ap length l) };
        }
