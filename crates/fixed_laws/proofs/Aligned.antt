-- An aligned of 64 bits is allowed exactly where it is 0 or a power of two.
use Prim.Native.Nat.{ℕ, zero, suc, ◌^◌, ◌≤◌, ◌<◌}
use native.Mathlib.Nat.{pow-le-pow_right}
use native.Mathlib.Omega.{arith}
use mathlib.Core.Bool.{Bool, true, false, ◌||◌}
use mathlib.Core.Logic.{◌↔◌, ◌⊎◌, inl, inr}
use mathlib.Core.Path.{◌≡◌, refl, sym, ap, ◌∙◌}
use lib.Dec.{eqb, leb}
use borrow.Author.Tests.{eqb-true, eq-eqb, leb-true, leb-false}
use Rattle.meaning.specs.Lists.{any}
use Rattle.meaning.specs.Circle.{numbers_below}
use Rattle.fixed_meaning.specs.Extent.{is_alignment}

pub or_true : (t : Bool) {u : Bool} → u ≡ true → (t || u) ≡ true
or_true true p = refl
or_true false p = p

module _ (n : ℕ) where
  -- some of the first m powers is n
  pub some_power : (m : ℕ) → any (λ k. eqb n (2 ^ k)) (numbers_below m) ≡ true → (k : ℕ) × ((k < m) × (n ≡ 2 ^ k))
  some_power zero e = let z : ◌≡◌ {A = ℕ} 0 1 = cc in absurd (omega arith)
  some_power (suc m) e = go (eqb n (2 ^ m)) refl e (λ q. some_power m q)
    where
      go : (t : Bool) → eqb n (2 ^ m) ≡ t → (t || any (λ k. eqb n (2 ^ k)) (numbers_below m)) ≡ true
          → (any (λ k. eqb n (2 ^ k)) (numbers_below m) ≡ true → (k : ℕ) × ((k < m) × (n ≡ 2 ^ k))) → (k : ℕ) × ((k < suc m) × (n ≡ 2 ^ k))
      go true p q ih = (m, (omega arith, eqb-true n (2 ^ m) p))
      go false p q ih = let s = ih q in (s.0, (omega (arith, s.1.0), s.1.1))

  pub found_power : (m k : ℕ) → n ≡ 2 ^ k → k < m → any (λ k. eqb n (2 ^ k)) (numbers_below m) ≡ true
  found_power zero k e l = absurd (omega arith)
  found_power (suc m) k e l = go (leb m k) refl (λ h. found_power m k e h)
    where
      last : m ≡ k → eqb n (2 ^ m) ≡ true
      last p = eq-eqb n (2 ^ m) (e ∙ ap (λ x. 2 ^ x) (sym p))

      go : (t : Bool) → leb m k ≡ t → (k < m → any (λ k. eqb n (2 ^ k)) (numbers_below m) ≡ true) → (eqb n (2 ^ m) || any (λ k. eqb n (2 ^ k)) (numbers_below m)) ≡ true
      go true p ih = rw (last (omega (arith, leb-true m k p))) refl
      go false p ih = or_true (eqb n (2 ^ m)) (ih (omega (arith, leb-false m k p)))

pub aligned : (n : ℕ) → n < 2 ^ 64 → (is_alignment n ≡ true) ↔ ((n ≡ 0) ⊎ ((k : ℕ) × (n ≡ 2 ^ k)))
unfolding is_alignment
aligned n h = (only (eqb n 0) refl, all)
  where
    only : (t : Bool) → eqb n 0 ≡ t → (t || any (λ k. eqb n (2 ^ k)) (numbers_below 64)) ≡ true → (n ≡ 0) ⊎ ((k : ℕ) × (n ≡ 2 ^ k))
    only true p q = inl (eqb-true n 0 p)
    only false p q = let s = some_power n 64 q in inr (s.0, s.1.1)

    short : (k : ℕ) → n ≡ 2 ^ k → (t : Bool) → leb 64 k ≡ t → k < 64
    short k e true p = let l : 2 ^ 64 ≤ 2 ^ k = pow-le-pow_right {n = 2} (omega arith) {i = 64} {j = k} (leb-true 64 k p) in absurd (omega (arith, l, e))
    short k e false p = leb-false 64 k p

    all : (n ≡ 0) ⊎ ((k : ℕ) × (n ≡ 2 ^ k)) → (eqb n 0 || any (λ k. eqb n (2 ^ k)) (numbers_below 64)) ≡ true
    all (inl e) = rw e refl
    all (inr p) = or_true (eqb n 0) (found_power n 64 p.0 p.1 (short p.0 p.1 (leb 64 p.0) refl))
