-- A division has one quotient and one remainder: those of the meaning.
use Prim.Native.Nat.{ℕ, zero, suc, ◌+◌, ◌-◌, ◌*◌, ◌/◌, ◌%◌, ◌≤◌, ◌<◌}
use native.Mathlib.Omega.{arith}
use native.Mathlib.Nat.{div-add-mod', mod-lt, zero-mul, mul-add-div_right, mul-add-mod_self_right, div-eq_of_lt, mod-eq_of_lt, mul-le-mul_right}
use mathlib.Core.Bool.{true, false}
use mathlib.Core.Logic.{◌⊎◌, inl, inr}
use mathlib.Core.Path.{◌≡◌, refl, sym, ap, ◌∙◌}
use borrow.Author.Tests.{lt-ltb, le-ltb}
use lib.IntN.{ℤ, pos, negsuc, neg_ℤ, nat_abs, pos-ne-negsuc, ◌+ℤ◌, ◌*ℤ◌}
use lib.Signed.{non_neg, mag, quot_z, rem_z}
use Rattle.fixed_laws.specs.Expressions.{Division}

-- There is one.

minus_times : (q b : ℕ) → neg_ℤ (pos q) *ℤ pos b ≡ neg_ℤ (pos (q * b))
minus_times zero b = ap pos (zero-mul b) ∙ sym (ap (λ x. neg_ℤ (pos x)) (zero-mul b))
minus_times (suc q) b = refl

minus_minus_times : (q b : ℕ) → neg_ℤ (pos q) *ℤ negsuc b ≡ pos (q * suc b)
minus_minus_times zero b = ap (λ x. neg_ℤ (pos x)) (zero-mul (suc b)) ∙ sym (ap pos (zero-mul (suc b)))
minus_minus_times (suc q) b = refl

minus_plus_minus : (x y : ℕ) → neg_ℤ (pos x) +ℤ neg_ℤ (pos y) ≡ neg_ℤ (pos (x + y))
minus_plus_minus zero zero = refl
minus_plus_minus zero (suc y) = let e : zero + suc y ≡ suc y = omega arith in rw (e, lt-ltb 0 (suc y) (omega arith)) (ap negsuc (omega arith))
minus_plus_minus (suc x) zero = let e : suc x + zero ≡ suc x = omega arith in rw (e, lt-ltb 0 (suc x) (omega arith)) (ap negsuc (omega arith))
minus_plus_minus (suc x) (suc y) = let e : suc x + suc y ≡ suc (suc (x + y)) = omega arith in rw e refl

quotient_law : (a b : ℤ) → (b ≡ pos 0 → ⊥) → a ≡ quot_z a b *ℤ b +ℤ rem_z a b
quotient_law (pos a) (pos b) h = ap pos (sym (div-add-mod' a b))
quotient_law (pos a) (negsuc b) h = sym (ap (◌+ℤ pos (a % suc b)) (minus_minus_times (a / suc b) b) ∙ ap pos (div-add-mod' a (suc b)))
quotient_law (negsuc a) (pos b) h =
    sym (ap (◌+ℤ neg_ℤ (pos (suc a % b))) (minus_times (suc a / b) b) ∙ minus_plus_minus (suc a / b * b) (suc a % b) ∙ ap (λ x. neg_ℤ (pos x)) (div-add-mod' (suc a) b))
quotient_law (negsuc a) (negsuc b) h =
    sym (minus_plus_minus (suc a / suc b * suc b) (suc a % suc b) ∙ ap (λ x. neg_ℤ (pos x)) (div-add-mod' (suc a) (suc b)))

abs_minus : (n : ℕ) → nat_abs (neg_ℤ (pos n)) ≡ n
abs_minus zero = refl
abs_minus (suc n) = refl

not_zero : (b : ℤ) → (b ≡ pos 0 → ⊥) → 0 < nat_abs b
not_zero (pos zero) h = absurd (h refl)
not_zero (pos (suc b)) h = omega arith
not_zero (negsuc b) h = omega arith

remainder_less : (a b : ℤ) → (b ≡ pos 0 → ⊥) → nat_abs (rem_z a b) < nat_abs b
remainder_less (pos a) b h = mod-lt a (not_zero b h)
remainder_less (negsuc a) b h = rw (abs_minus (suc a % nat_abs b)) (mod-lt (suc a) (not_zero b h))

remainder_sign : (a b : ℤ) → (rem_z a b ≡ pos 0) ⊎ (non_neg (rem_z a b) ≡ non_neg a)
remainder_sign (pos a) b = inr refl
remainder_sign (negsuc a) b = go (suc a % nat_abs b)
  where
    go : (n : ℕ) → (neg_ℤ (pos n) ≡ pos 0) ⊎ (non_neg (neg_ℤ (pos n)) ≡ false)
    go zero = inl refl
    go (suc n) = inr refl

pub division_is : (a b : ℤ) → (b ≡ pos 0 → ⊥) → Division a b (quot_z a b) (rem_z a b)
division_is a b h = record { whole = quotient_law a b h; nearer = remainder_less a b h; sign = remainder_sign a b }

pub divisor_is : {a b q m : ℤ} → Division a b q m → b ≡ pos 0 → ⊥
divisor_is {b} d e = let h : nat_abs b ≡ 0 = ap nat_abs e in omega (arith, d.nearer, h)

-- There is no other.

-- of natural numbers
unique : (a b q m : ℕ) → a ≡ q * b + m → m < b → (q ≡ a / b) × (m ≡ a % b)
unique a b q m e h = (
  sym (ap (◌/ b) e ∙ mul-add-div_right (omega arith) q m ∙ ap (q +◌) (div-eq_of_lt h) ∙ omega arith),
  sym (ap (◌% b) e ∙ mul-add-mod_self_right q b m ∙ mod-eq_of_lt h),
)

-- a product of a number that is not 0
at_least : (q b : ℕ) → b ≤ suc q * b
at_least q b = omega (arith, mul-le-mul_right {m = 1} {n = suc q} b (omega arith))

-- the sum of a product and a remainder has the remainder's sign only where they agree
plus_crossed : (a x m : ℕ) → pos a ≡ neg_ℤ (pos x) +ℤ pos m → m < x → ⊥
plus_crossed a zero m e h = omega arith
plus_crossed a (suc x) m e h = pos-ne-negsuc a (suc x - suc m) (e ∙ rw (lt-ltb m (suc x) h) refl)

minus_crossed : (a x m : ℕ) → negsuc a ≡ pos x +ℤ negsuc m → suc m ≤ x → ⊥
minus_crossed a x m e h = pos-ne-negsuc (x - suc m) a (sym (e ∙ rw (le-ltb x (suc m) h) refl))

minus_sum : (a x m : ℕ) → negsuc a ≡ neg_ℤ (pos x) +ℤ negsuc m → suc a ≡ x + suc m
minus_sum a zero m e = let z : negsuc a ≡ negsuc m = e ∙ rw (lt-ltb 0 (suc m) (omega arith)) (ap negsuc (omega arith)) in omega (arith, ap mag z)
minus_sum a (suc x) m e = omega (arith, ap mag e)

minus_whole : (a x : ℕ) → negsuc a ≡ neg_ℤ (pos x) +ℤ pos 0 → suc a ≡ x + 0
minus_whole a zero e = absurd (pos-ne-negsuc 0 a (sym e))
minus_whole a (suc x) e = let z : negsuc a ≡ negsuc x = e ∙ rw (lt-ltb 0 (suc x) (omega arith)) (ap negsuc (omega arith)) in omega (arith, ap mag z)

-- the remainder has the sign of a, or is 0
same_sign : (m a : ℤ) → (m ≡ pos 0) ⊎ (non_neg m ≡ non_neg a) → non_neg m ≡ false → non_neg a ≡ true → ⊥
same_sign m a (inl e) f g = let z : true ≡ false = sym (ap non_neg e) ∙ f in let y : ◌≡◌ {A = ℕ} 0 1 = cc in omega arith
same_sign m a (inr e) f g = let z : true ≡ false = sym g ∙ sym e ∙ f in let y : ◌≡◌ {A = ℕ} 0 1 = cc in omega arith

more_than_zero : (n : ℕ) → (pos (suc n) ≡ pos 0) ⊎ (true ≡ false) → ⊥
more_than_zero n (inl e) = omega (arith, ap mag e)
more_than_zero n (inr e) = let y : ◌≡◌ {A = ℕ} 0 1 = cc in omega arith

abbrev One : ℤ → ℤ → ℤ → ℤ → Type 0
One a b q m = (q ≡ quot_z a b) × (m ≡ rem_z a b)

-- the dividend is not negative
plus_one : (a m : ℕ) (b q : ℤ) → pos a ≡ q *ℤ b +ℤ pos m → m < nat_abs b → One (pos a) b q (pos m)
plus_one a m (pos b) (pos q) e h = let u = unique a b q m (ap mag e) h in (ap pos u.0, ap pos u.1)
plus_one a m (pos b) (negsuc q) e h = absurd (plus_crossed a (suc q * b) m e (omega (arith, at_least q b)))
plus_one a m (negsuc b) (pos zero) e h =
    let z : a ≡ zero * suc b + m = ap mag (e ∙ ap (λ x. neg_ℤ (pos x) +ℤ pos m) (zero-mul (suc b))) ∙ omega (arith, zero-mul (suc b)) in
    let u = unique a (suc b) zero m z h in
    (ap (λ n. neg_ℤ (pos n)) u.0, ap pos u.1)
plus_one a m (negsuc b) (pos (suc q)) e h = absurd (plus_crossed a (suc q * suc b) m e (omega (arith, at_least q (suc b))))
plus_one a m (negsuc b) (negsuc q) e h = let u = unique a (suc b) (suc q) m (ap mag e) h in (ap (λ n. neg_ℤ (pos n)) u.0, ap pos u.1)

-- the dividend is negative and the remainder is m below 0
minus_one : (a m : ℕ) (b q : ℤ) → negsuc a ≡ q *ℤ b +ℤ negsuc m → suc m < nat_abs b → One (negsuc a) b q (negsuc m)
minus_one a m (pos b) (pos zero) e h =
    let z : suc a ≡ zero * b + suc m = minus_sum a zero m (e ∙ ap (λ x. pos x +ℤ negsuc m) (zero-mul b)) ∙ omega (arith, zero-mul b) in
    let u = unique (suc a) b zero (suc m) z h in
    (ap (λ n. neg_ℤ (pos n)) u.0, ap (λ n. neg_ℤ (pos n)) u.1)
minus_one a m (pos b) (pos (suc q)) e h = absurd (minus_crossed a (suc q * b) m e (omega (arith, at_least q b)))
minus_one a m (pos b) (negsuc q) e h = let u = unique (suc a) b (suc q) (suc m) (minus_sum a (suc q * b) m e) h in (ap (λ n. neg_ℤ (pos n)) u.0, ap (λ n. neg_ℤ (pos n)) u.1)
minus_one a m (negsuc b) (pos q) e h = let u = unique (suc a) (suc b) q (suc m) (minus_sum a (q * suc b) m e) h in (ap pos u.0, ap (λ n. neg_ℤ (pos n)) u.1)
minus_one a m (negsuc b) (negsuc q) e h = absurd (minus_crossed a (suc q * suc b) m e (omega (arith, at_least q (suc b))))

-- the dividend is negative and nothing is left
minus_even : (a : ℕ) (b q : ℤ) → negsuc a ≡ q *ℤ b +ℤ pos 0 → 0 < nat_abs b → One (negsuc a) b q (pos 0)
minus_even a (pos b) (pos q) e h = absurd (pos-ne-negsuc (q * b + 0) a (sym e))
minus_even a (pos b) (negsuc q) e h = let u = unique (suc a) b (suc q) 0 (minus_whole a (suc q * b) e) h in (ap (λ n. neg_ℤ (pos n)) u.0, ap (λ n. neg_ℤ (pos n)) u.1)
minus_even a (negsuc b) (pos q) e h = let u = unique (suc a) (suc b) q 0 (minus_whole a (q * suc b) e) h in (ap pos u.0, ap (λ n. neg_ℤ (pos n)) u.1)
minus_even a (negsuc b) (negsuc q) e h = absurd (pos-ne-negsuc (suc q * suc b + 0) a (sym e))

pub division_one : {a b q m : ℤ} → Division a b q m → One a b q m
division_one {a} {b} {q} {m} d = go a m d.whole d.nearer d.sign
  where
    go : (a m : ℤ) → a ≡ q *ℤ b +ℤ m → nat_abs m < nat_abs b → (m ≡ pos 0) ⊎ (non_neg m ≡ non_neg a) → One a b q m
    go (pos a) (pos m) e h s = plus_one a m b q e h
    go (pos a) (negsuc m) e h s = absurd (same_sign (negsuc m) (pos a) s refl refl)
    go (negsuc a) (pos zero) e h s = minus_even a b q e h
    go (negsuc a) (pos (suc m)) e h s = absurd (more_than_zero m s)
    go (negsuc a) (negsuc m) e h s = minus_one a m b q e h
