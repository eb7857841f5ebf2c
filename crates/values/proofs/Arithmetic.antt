-- What the checked methods give, as values, and the test of a divisor.
use Prim.Native.Nat.{ℕ, suc, zero, ◌<◌}
use native.Mathlib.Omega.{arith}
use mathlib.Core.Bool.{Bool, true, false, true≢false}
use mathlib.Core.Path.{◌≡◌, refl, sym, ap, ◌∙◌}
use lib.Dec.{leb}
use lib.IntN.{ℤ, pos, negsuc}
use lib.Signed.{mag, quot_z, rem_z}
use mir.Syntax.{w64}
use mir.Val.{SFits, to_z, of_z}
use mir.ValLaws.{to_z-of_z}
use borrow.Author.Tests.{leb-true, le-leb, ne_eqb}
use Rattle.std.specs.Int.{CanDivide}
use Rattle.std.specs.Option.{SomeIff, ok_or}
use Rattle.std.specs.Prelude.{Option, Some, None, Result, Ok, Err, IsErrAnd, is_ok}
use Rattle.std.specs.Result.{OkIff, result_or}
use Rattle.fixed_meaning.specs.Value.{valued, unvalued, ranged, eq_z, divided}
use Rattle.refusal.specs.declared.Refusal.{Refusal}
use Rattle.refusal.specs.declared.Refusal.TheVariants.{OutOfRange, ZeroDivisor, NotCovered}
use Rattle.values.specs.Meant.{value_meant}

-- what comes back from the bits of a number
abbrev pub back : ℤ → ℤ
back z = to_z w64 (of_z w64 z)

-- within signed 64 bits, or outside
pub fits_ranged : (z : ℤ) → SFits w64 z → valued z ≡ ranged z
unfolding ranged
fits_ranged (pos n) f = rw (le-leb n 9223372036854775807 (omega (arith, f.sfits)))
fits_ranged (negsuc n) f = rw (le-leb n 9223372036854775807 (omega (arith, f.sfits)))

out_ranged : (z : ℤ) → (SFits w64 z → ⊥) → unvalued 14 ≡ ranged z
unfolding ranged
out_ranged (pos n) h = go (leb n 9223372036854775807) refl
  where
    go : (t : Bool) → leb n 9223372036854775807 ≡ t → unvalued 14 ≡ ranged (pos n)
    go true e = absurd (h (record { sfits = omega (arith, leb-true n 9223372036854775807 e) }))
    go false e = rw e
out_ranged (negsuc n) h = go (leb n 9223372036854775807) refl
  where
    go : (t : Bool) → leb n 9223372036854775807 ≡ t → unvalued 14 ≡ ranged (negsuc n)
    go true e = absurd (h (record { sfits = omega (arith, leb-true n 9223372036854775807 e) }))
    go false e = rw e

-- what a checked method gives of z
pub in_range : (o : Option ℤ) (z : ℤ) → SomeIff o (SFits w64 z) z → value_meant (ok_or o OutOfRange) ≡ ranged z
unfolding value_meant
in_range (Some x) z s = ap valued s.1 ∙ fits_ranged z s.0
in_range None z s = out_ranged z s

-- what a conversion gives of z
pub converted : {E : Type 0} (r : Result ℤ E) (z : ℤ) → OkIff r (SFits w64 z) z → value_meant (result_or r (Err OutOfRange)) ≡ ranged z
unfolding value_meant
converted (Ok x) z s = ap valued s.1 ∙ fits_ranged z s.0
converted (Err e) z s = out_ranged z s

-- a kind that has none is refused with 15
pub uncovered : {A : Type 0} (o : Option A) (x : Result ℤ Refusal) (e : Refusal) → Err e ≡ ok_or o NotCovered → IsErrAnd x (λ d. d ≡ e) → (o ≡ None) × (value_meant x ≡ unvalued 15)
unfolding value_meant
uncovered None (Err d) e h i =
    let k : e ≡ NotCovered = cc in
    (refl, rw (i, k))
uncovered None (Ok x) e h i = absurd i
uncovered (Some a) x e h i = absurd (true≢false (sym (ap is_ok h)))

-- a divisor that is 0, and one that is not
bits_are : (z y : ℤ) (n : ℕ) → SFits w64 z → of_z w64 z ≡ n → to_z w64 n ≡ y → z ≡ y
bits_are z y n f e d = sym (to_z-of_z w64 z f) ∙ ap (to_z w64) e ∙ d

pub zero_divisor : (f : ℤ → ℤ → ℤ) (l r : ℤ) → SFits w64 r → of_z w64 r ≡ 0 → value_meant (Err ZeroDivisor) ≡ divided f l r
unfolding value_meant divided eq_z
zero_divisor f l r g e = rw (bits_are r (pos 0) 0 g e refl)

nonzero : (f : ℤ → ℤ → ℤ) (l r : ℤ) → (of_z w64 r ≡ 0 → ⊥) → ranged (f l r) ≡ divided f l r
unfolding divided eq_z
nonzero f l (pos zero) z = absurd (z refl)
nonzero f l (pos (suc b)) z = rw (ne_eqb (suc b) 0 (λ e. omega arith))
nonzero f l (negsuc b) z = refl

-- what a checked method gives where one of its two conditions holds
of_two : (o : Option ℤ) (P Q : Type 0) (v : ℤ) → P → SomeIff o (P × Q) v → SomeIff o Q v
of_two (Some x) P Q v p s = (s.0.1, s.1)
of_two None P Q v p s = λ q. s (p, q)

module _ (l r : ℤ) (f : SFits w64 l) (g : SFits w64 r) (z : of_z w64 r ≡ 0 → ⊥) where
  pub quotient : (o : Option ℤ) → SomeIff o (CanDivide w64 (back l) (back r)) (quot_z (back l) (back r)) → value_meant (ok_or o OutOfRange) ≡ divided quot_z l r
  quotient o s =
      let t : SomeIff o (CanDivide w64 l r) (quot_z l r) = rw (to_z-of_z w64 l f, to_z-of_z w64 r g) at s in
      in_range o (quot_z l r) (of_two o (0 < of_z w64 r) (SFits w64 (quot_z l r)) (quot_z l r) (omega (arith, z)) t) ∙ nonzero quot_z l r z

  pub remainder : (y : ℤ) → mag y < 9223372036854775808 → y ≡ rem_z (back l) (back r) → value_meant (Ok (back y)) ≡ divided rem_z l r
  unfolding value_meant
  remainder y m e =
      let d : y ≡ rem_z l r = rw (to_z-of_z w64 l f, to_z-of_z w64 r g) at e in
      ap valued (to_z-of_z w64 y (record { sfits = m })) ∙ fits_ranged y (record { sfits = m }) ∙ ap ranged d ∙ nonzero rem_z l r z
