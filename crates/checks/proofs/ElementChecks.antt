-- The element of an array: types 5 to 8.
use Rattle.std.specs.Prelude.{Some, None, Option as CodeOption}
use Rattle.std.specs.Option.{is_some}
use Prim.Native.Nat.{ℕ}
use native.Mathlib.Omega.{arith}
use mathlib.Core.Bool.{true, false, not, false≢true, true≢false}
use mathlib.Core.Option.{Option, none, some}
use mathlib.Core.Path.{◌≡◌, refl, sym, ap, subst, ◌∙◌}
use mathlib.Core.List.{List, [], ◌∷◌}
use lib.ListN.{length, drop}
use borrow.Author.Tests.{eq-eqb, ne_eqb}
use Rattle.meaning.specs.Lists.{holds, or_else, only_if}
use Rattle.meaning.specs.Lookup.{find_type, is_struct}
use Rattle.meaning.specs.Sizes.{inline_size_depends, contains_jagged_array}
use Rattle.meaning.specs.Violations.{Violation, violation, variable_element, nested_jagged, check_jagged_element_kind, check_jagged_array_constraints, check_array_element_type_size}
use Rattle.bundle.specs.Definitions.{type_at, bundle_of}
use Rattle.fields.specs.declared.Shape.{Shape}
use Rattle.fields.specs.declared.Shape.TheVariants as shape
use Rattle.fields.specs.Shapes.{ShapeOf, DefinitionIs}
use Rattle.fields.proofs.ShapeLaws.{shape_other}
use Rattle.checks.specs.declared.Finding.{Finding}
use Rattle.checks.specs.declared.Finding.TheVariants.{VariableElement, NestedJagged}
use Rattle.checks.specs.Checks.{violation_of, Checked}

-- whether the first definition of a name is no struct
pub struct_nowhere : (s : List ℕ) (x : ℕ) → find_type (bundle_of s) x ≡ none → false ≡ holds (λ t. not (is_struct t)) (find_type (bundle_of s) x)
struct_nowhere s x e = rw e

module _ {s : List ℕ} {n x i at p : ℕ} (g : DefinitionIs s n x i at) (e : p ≡ at) (r : Shape) (h : ShapeOf 24 s p r) where
  shown : ShapeOf 24 s at r
  shown = subst (λ k. ShapeOf 24 s k r) e h

  pub struct_no : ((k : ℕ) → r ≡ shape.Struct k → ⊥) → true ≡ holds (λ t. not (is_struct t)) (find_type (bundle_of s) x)
  struct_no o = rw (g.is, shape_other 24 at s r o shown)

  pub struct_yes : {k : ℕ} → r ≡ shape.Struct k → false ≡ holds (λ t. not (is_struct t)) (find_type (bundle_of s) x)
  struct_yes q = let w = subst (ShapeOf 24 s at) q shown in rw (g.is, w.tree)

-- a chain of the array's name alone
module _ (s : List ℕ) (n : ℕ) (list : List ℕ) {list' : List ℕ} {b c : ℕ} (w : list' ≡ n ∷ b ∷ c ∷ drop 3 list) {o : ℕ → Option Violation} where
  pub nested_only : ((i : ℕ) → o i ≡ some (violation nested_jagged i n [] (n ∷ []))) → Checked s n list' (Some NestedJagged) o
  nested_only h = record { means = λ i. rw w (sym (h i)); fits = omega (arith, ap length w) }

  pub element_only : ((i : ℕ) → o i ≡ some (violation variable_element i n [] (n ∷ []))) → Checked s n list' (Some VariableElement) o
  element_only h = record { means = λ i. rw w (sym (h i)); fits = omega (arith, ap length w) }

-- what was found stands before what comes after it
found_first : (s : List ℕ) (i n : ℕ) (list : List ℕ) (r : CodeOption Finding) (p : Option Violation) → is_some r ≡ true → or_else (violation_of s i n list r) p ≡ violation_of s i n list r
found_first s i n list None p e = absurd (false≢true e)
found_first s i n list (Some f) p e = refl

none_found : (r : CodeOption Finding) → is_some r ≡ false → r ≡ None
none_found None e = refl
none_found (Some f) e = absurd (true≢false e)

-- a jagged array
module _ (s : List ℕ) (n at : ℕ) {list : List ℕ} {r : CodeOption Finding} (c : Checked s n list r (λ i. check_jagged_element_kind (bundle_of s) i n (type_at 23 s at))) where
  pub jagged_kind : is_some r ≡ true → Checked s n list r (λ i. check_jagged_array_constraints (bundle_of s) i n (type_at 23 s at))
  unfolding check_jagged_array_constraints
  jagged_kind o = record {
    means = λ i.
        let p = only_if (contains_jagged_array (bundle_of s) (type_at 23 s at)) (some (violation nested_jagged i n [] (n ∷ []))) in
        sym (found_first s i n list r p o) ∙ ap (λ q. or_else q p) (c.means i);
    fits = c.fits;
  }

  module _ (e : is_some r ≡ false) where
    passes : (i : ℕ) → check_jagged_element_kind (bundle_of s) i n (type_at 23 s at) ≡ none
    passes i = sym (c.means i) ∙ ap (violation_of s i n list) (none_found r e)

    pub jagged_fine : false ≡ contains_jagged_array (bundle_of s) (type_at 23 s at) → (i : ℕ) → check_jagged_array_constraints (bundle_of s) i n (type_at 23 s at) ≡ none
    unfolding check_jagged_array_constraints
    jagged_fine q i = rw (passes i, ← q)

    pub jagged_nested : true ≡ contains_jagged_array (bundle_of s) (type_at 23 s at) → (i : ℕ)
        → check_jagged_array_constraints (bundle_of s) i n (type_at 23 s at) ≡ some (violation nested_jagged i n [] (n ∷ []))
    unfolding check_jagged_array_constraints
    jagged_nested q i = rw (passes i, ← q)

-- an array, jagged or not
module _ (s : List ℕ) (n at jagged : ℕ) where
  pub element_jagged : jagged ≡ 1 → {list : List ℕ} {r : CodeOption Finding} → Checked s n list r (λ i. check_jagged_array_constraints (bundle_of s) i n (type_at 23 s at))
      → Checked s n list r (λ i. check_array_element_type_size (bundle_of s) i n jagged (type_at 23 s at))
  unfolding check_array_element_type_size
  element_jagged e c = record { means = λ i. c.means i ∙ rw (eq-eqb jagged 1 e); fits = c.fits }

  module _ (ne : jagged ≡ 1 → ⊥) where
    pub element_fine : false ≡ inline_size_depends (bundle_of s) (type_at 23 s at) → (i : ℕ) → check_array_element_type_size (bundle_of s) i n jagged (type_at 23 s at) ≡ none
    unfolding check_array_element_type_size
    element_fine q i = rw (ne_eqb jagged 1 ne, ← q)

    pub element_varies : true ≡ inline_size_depends (bundle_of s) (type_at 23 s at) → (i : ℕ)
        → check_array_element_type_size (bundle_of s) i n jagged (type_at 23 s at) ≡ some (violation variable_element i n [] (n ∷ []))
    unfolding check_array_element_type_size
    element_varies q i = rw (ne_eqb jagged 1 ne, ← q)
