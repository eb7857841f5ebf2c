-- The operations, and what each makes of two values.
use mathlib.Core.Bool.{Bool, true, false}
use mathlib.Core.Option.{some}
use mathlib.Core.Path.{◌≡◌, refl, sym, ap, ap₂, ◌∙◌}
use lib.Dec.{eqb}
use lib.IntN.{ℤ, pos, negsuc, pos-ne-negsuc}
use lib.Signed.{mag}
use mir.Syntax.{w64}
use mir.Val.{SFits, to_z, of_z}
use mir.ValLaws.{to_z-of_z}
use borrow.Author.Tests.{eqb-true, eqb-false, eq-eqb, ne_eqb}
use Rattle.std.specs.Prelude.{Ok}
use Rattle.std.specs.Int.{from_bool}
use Rattle.fixed_meaning.specs.Value.{Value, valued, eq_z, truth, operations, operation_of, applied, operated_by, operated}
use Rattle.values.specs.declared.Operation.{Operation}
use Rattle.values.specs.declared.Operation.TheVariants.{Add, Subtract, Multiply, Divide, Remainder, Equal, Unequal, Less, Greater, AtMost, AtLeast}
use Rattle.values.specs.Meant.{value_meant, operation_kind}
use Rattle.values.proofs.Arithmetic.{back}

-- both are the same number
eq_z_same : (x y : ℤ) → x ≡ y → eq_z x y ≡ true
unfolding eq_z
eq_z_same (pos a) (pos b) e = eq-eqb a b (ap mag e)
eq_z_same (pos a) (negsuc b) e = absurd (pos-ne-negsuc a b e)
eq_z_same (negsuc a) (pos b) e = absurd (pos-ne-negsuc b a (sym e))
eq_z_same (negsuc a) (negsuc b) e = eq-eqb a b (ap mag e)

eq_z_other : (x y : ℤ) → (x ≡ y → ⊥) → eq_z x y ≡ false
unfolding eq_z
eq_z_other (pos a) (pos b) d = ne_eqb a b (λ e. d (ap pos e))
eq_z_other (pos a) (negsuc b) d = refl
eq_z_other (negsuc a) (pos b) d = refl
eq_z_other (negsuc a) (negsuc b) d = ne_eqb a b (λ e. d (ap negsuc e))

-- 1 or 0
pub truth_is : (z : ℤ) (t : Bool) → z ≡ pos (from_bool t) → value_meant (Ok (back z)) ≡ truth t
unfolding value_meant
truth_is z true e = rw e refl
truth_is z false e = rw e refl

-- tests of numbers that have come back from their bits
module _ (l r : ℤ) (f : SFits w64 l) (g : SFits w64 r) where
  pub same_test : eqb (of_z w64 l) (of_z w64 r) ≡ eq_z l r
  same_test = go (eqb (of_z w64 l) (of_z w64 r)) refl
    where
      go : (t : Bool) → eqb (of_z w64 l) (of_z w64 r) ≡ t → t ≡ eq_z l r
      go true e = sym (eq_z_same l r (sym (to_z-of_z w64 l f) ∙ ap (to_z w64) (eqb-true (of_z w64 l) (of_z w64 r) e) ∙ to_z-of_z w64 r g))
      go false e = sym (eq_z_other l r (λ d. eqb-false (of_z w64 l) (of_z w64 r) e (ap (of_z w64) d)))

-- what an operation makes of two values
module _ {o : Operation} (p : Operation) (e : o ≡ p) (l r : ℤ) where
  pub by_kind : (f : ℤ → ℤ → Value) → operation_of operations (operation_kind p) ≡ some f → f l r ≡ operated (operation_kind o) (valued l) (valued r)
  unfolding operated operated_by applied
  by_kind f d = sym (rw (e, d))

  -- the same, where they have come back from their bits
  pub by_kind_back : SFits w64 l → SFits w64 r → (f : ℤ → ℤ → Value) → operation_of operations (operation_kind p) ≡ some f → f (back l) (back r) ≡ operated (operation_kind o) (valued l) (valued r)
  by_kind_back x y f d = ap₂ f (to_z-of_z w64 l x) (to_z-of_z w64 r y) ∙ by_kind f d

-- each operation has a meaning
pub operation_is : (o : Operation) → (f : ℤ → ℤ → Value) × (operation_of operations (operation_kind o) ≡ some f)
unfolding operation_of
operation_is Add = (_, refl)
operation_is Subtract = (_, refl)
operation_is Multiply = (_, refl)
operation_is Divide = (_, refl)
operation_is Remainder = (_, refl)
operation_is Equal = (_, refl)
operation_is Unequal = (_, refl)
operation_is Less = (_, refl)
operation_is Greater = (_, refl)
operation_is AtMost = (_, refl)
operation_is AtLeast = (_, refl)
