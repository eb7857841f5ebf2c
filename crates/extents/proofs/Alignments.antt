-- Multiples, offsets and powers of two, in the form in which the code returns them.
use Prim.Native.Nat.{ℕ, zero, suc, ◌+◌, ◌-◌, ◌*◌, ◌/◌, ◌%◌, ◌^◌, ◌≤◌, ◌<◌}
use native.Mathlib.Nat.{pow-suc, pow-le-pow_right, mod_self, mod-eq_of_lt}
use native.Mathlib.Omega.{arith}
use mathlib.Core.Bool.{Bool, true, false, cond, ◌||◌}
use mathlib.Core.Path.{◌≡◌, refl, sym, ap, ◌∙◌}
use lib.Dec.{eqb, leb}
use lib.Count.{ones, ones_step}
use borrow.Author.Tests.{leb-true, leb-false, eqb-true, eqb-false, eq-eqb, ne_eqb}
use Rattle.std.specs.Int.{next_multiple_of, is_power_of_two}
use Rattle.std.proofs.lemmas.Nat.{zero_from_ones}
use Rattle.meaning.specs.Lists.{any}
use Rattle.meaning.specs.Circle.{numbers_below}
use Rattle.fixed_meaning.specs.Extent.{round_up, is_alignment}

-- the next multiple
pub next_is : (n a : ℕ) → 0 < a → next_multiple_of n a ≡ round_up n a
unfolding round_up
next_is n a h = go (eqb (n % a) 0) refl
  where
    go : (t : Bool) → eqb (n % a) 0 ≡ t → next_multiple_of n a ≡ cond (eqb (n % a) 0) n (n + (a - n % a))
    go true e = let z : n % a ≡ 0 = eqb-true (n % a) 0 e in let s : a - 0 ≡ a = omega arith in rw (e, z, s, mod_self a) (omega arith)
    go false e = rw e (ap (n +◌) (mod-eq_of_lt (omega (arith, eqb-false (n % a) 0 e, h))))

-- a test of the numbers below j
module _ (p : ℕ → Bool) where
  any_yes : (j k : ℕ) → k < j → p k ≡ true → any p (numbers_below j) ≡ true
  any_yes zero k h e = absurd (omega arith)
  any_yes (suc j) k h e = go (λ l. any_yes j k l e) (p j) refl (eqb k j) refl
    where
      go : (k < j → any p (numbers_below j) ≡ true) → (t : Bool) → p j ≡ t → (u : Bool) → eqb k j ≡ u → (p j || any p (numbers_below j)) ≡ true
      go ih true q u w = rw q
      go ih false q true w = let z : k ≡ j = eqb-true k j w in rw (ap p (sym z) ∙ e)
      go ih false q false w = rw q (ih (omega (arith, eqb-false k j w)))

  any_no : (j : ℕ) → ((k : ℕ) → k < j → p k ≡ false) → any p (numbers_below j) ≡ false
  any_no zero h = refl
  any_no (suc j) h = rw (h j (omega arith)) (any_no j (λ k l. h k (omega arith)))

  any_found : (j : ℕ) → any p (numbers_below j) ≡ true → (k : ℕ) × ((k < j) × (p k ≡ true))
  any_found zero e = let z : ◌≡◌ {A = ℕ} 0 1 = ap (λ t. cond t 1 0) e in absurd (omega arith)
  any_found (suc j) e = go (any_found j) (p j) refl
    where
      go : (any p (numbers_below j) ≡ true → (k : ℕ) × ((k < j) × (p k ≡ true))) → (t : Bool) → p j ≡ t → (k : ℕ) × ((k < suc j) × (p k ≡ true))
      go ih true q = (j, (omega arith, q))
      go ih false q = let f = ih (sym (ap (λ t. t || any p (numbers_below j)) q) ∙ e) in (f.0, (omega (arith, f.1.0), f.1.1))

-- a power of two has one bit that is set, and a number with one such bit is a power of two
no_bit : ones 0 ≡ 0
unfolding ones
no_bit = refl

unit_bit : ones 1 ≡ 1
unfolding ones
unit_bit = refl

one_bit : (k : ℕ) → ones (2 ^ k) ≡ 1
one_bit zero = unit_bit
one_bit (suc k) =
    let two : 2 ^ suc k ≡ 2 ^ k * 2 = pow-suc 2 k in
    let half : 2 ^ suc k / 2 ≡ 2 ^ k = omega arith in
    let even : 2 ^ suc k % 2 ≡ 0 = omega arith in
    omega (arith, ones_step (2 ^ suc k), even, ap ones half, one_bit k)

power_within : (d n : ℕ) → n ≤ d → ones n ≡ 1 → (k : ℕ) × (n ≡ 2 ^ k)
power_within zero n h e = let z : n ≡ 0 = omega arith in absurd (omega (arith, no_bit, ap ones z, e))
power_within (suc d) n h e = go (power_within d (n / 2)) (eqb (n % 2) 1) refl
  where
    go : (n / 2 ≤ d → ones (n / 2) ≡ 1 → (k : ℕ) × (n / 2 ≡ 2 ^ k)) → (t : Bool) → eqb (n % 2) 1 ≡ t → (k : ℕ) × (n ≡ 2 ^ k)
    go ih true q = (0, omega (arith, eqb-true (n % 2) 1 q, zero_from_ones (n / 2) (omega (arith, ones_step n, eqb-true (n % 2) 1 q))))
    go ih false q =
        let r : ones (n / 2) ≡ 1 = omega (arith, ones_step n, eqb-false (n % 2) 1 q) in
        let f = ih (omega arith) r in
        (suc f.0, omega (arith, f.1, pow-suc 2 f.0, eqb-false (n % 2) 1 q))

-- 0 and the powers of two
pub alignment_zero : (n : ℕ) → n ≡ 0 → eqb n 0 ≡ is_alignment n
unfolding is_alignment
alignment_zero n e = rw (eq-eqb n 0 e)

pub alignment_power : (n : ℕ) → n < 18446744073709551616 → (n ≡ 0 → ⊥) → is_power_of_two n ≡ is_alignment n
unfolding is_alignment
alignment_power n h z = rw (ne_eqb n 0 z) (go (eqb (ones n) 1) refl)
  where
    few : (k : ℕ) → n ≡ 2 ^ k → (t : Bool) → leb k 63 ≡ t → k < 64
    few k e true q = omega (arith, leb-true k 63 q)
    few k e false q = let p : 2 ^ 64 ≤ 2 ^ k = pow-le-pow_right {n = 2} (omega arith) {i = 64} {j = k} (omega (arith, leb-false k 63 q)) in absurd (omega arith)

    go : (t : Bool) → eqb (ones n) 1 ≡ t → eqb (ones n) 1 ≡ any (λ k. eqb n (2 ^ k)) (numbers_below 64)
    go true q =
        let f = power_within n n (omega arith) (eqb-true (ones n) 1 q) in
        q ∙ sym (any_yes (λ k. eqb n (2 ^ k)) 64 f.0 (few f.0 f.1 (leb f.0 63) refl) (eq-eqb n (2 ^ f.0) f.1))
    go false q = q ∙ sym (any_no (λ k. eqb n (2 ^ k)) 64 (λ k l. ne_eqb n (2 ^ k) (λ e. eqb-false (ones n) 1 q (ap ones e ∙ one_bit k))))

pub alignment_most : (n : ℕ) → true ≡ is_alignment n → n ≤ 9223372036854775808
unfolding is_alignment
alignment_most n e = go (eqb n 0) refl
  where
    go : (t : Bool) → eqb n 0 ≡ t → n ≤ 9223372036854775808
    go true q = omega (arith, eqb-true n 0 q)
    go false q =
        let f = any_found (λ k. eqb n (2 ^ k)) 64 (sym (ap (λ t. t || any (λ k. eqb n (2 ^ k)) (numbers_below 64)) q) ∙ sym e) in
        let p : 2 ^ f.0 ≤ 2 ^ 63 = pow-le-pow_right {n = 2} (omega arith) {i = f.0} {j = 63} (omega (arith, f.1.0)) in
        omega (arith, eqb-true n (2 ^ f.0) f.1.1, p)
