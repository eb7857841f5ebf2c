-- Ranges, literals and tests of the meaning, as the sentences say them.
use Prim.Native.Nat.{ℕ, suc, ◌*◌, ◌^◌, ◌≤◌, ◌<◌}
use native.Mathlib.Nat.{mul_comm, pow-suc}
use native.Mathlib.Omega.{arith}
use mathlib.Core.Bool.{Bool, true, false, cond, not}
use mathlib.Core.Path.{◌≡◌, refl, sym, ap, ◌∙◌}
use lib.Dec.{T, eqb, leb, ltb}
use lib.IntN.{ℤ, pos, negsuc, pos-ne-negsuc, ◌+ℤ◌, ◌-ℤ◌, +ℤ-neg_ℤ_cancel, -ℤ-+ℤ_cancel}
use lib.Signed.{mag, lt_z, le_z, ◌<ℤ◌, ◌≤ℤ◌}
use borrow.Author.Tests.{eqb-true, eqb-false, leb-true, leb-false, ltb-true, ltb-false, le-leb, lt-ltb, le-ltb}
use Rattle.fixed_meaning.specs.Value.{valued, unvalued, ranged, signed_limit, complement, literal_value, eq_z, truth}
use Rattle.fixed_laws.specs.Expressions.{InRange, Complement, plus, minus, Stands, unsigned, i64, i32, i16, i8, Truth, holds, fails}

-- Impossible equations.

pub no_number : {A : Type 0} {z : ℤ} {k : ℕ} → valued z ≡ unvalued k → A
no_number e = let y : ◌≡◌ {A = ℕ} 0 1 = cc in absurd (omega arith)

no_test : {A : Type 0} → true ≡ false → A
no_test e = let y : ◌≡◌ {A = ℕ} 0 1 = cc in absurd (omega arith)

passed : (b : Bool) → T b → b ≡ true
passed true t = refl
passed false t = absurd t

-- The range.

inside : (z : ℤ) → le_z (negsuc 9223372036854775807) z ≡ true → le_z z (pos 9223372036854775807) ≡ true → InRange z
inside (pos n) f g = record { from = record { le = tt }; below = record { lt = rw (lt-ltb n 9223372036854775808 (omega (arith, leb-true n 9223372036854775807 g))) tt } }
inside (negsuc n) f g = record { from = record { le = rw f tt }; below = record { lt = tt } }

in_both : (z : ℤ) → InRange z → (le_z (negsuc 9223372036854775807) z ≡ true) × (le_z z (pos 9223372036854775807) ≡ true)
in_both (pos n) r = (refl, le-leb n 9223372036854775807 (omega (arith, ltb-true n 9223372036854775808 (passed (ltb n 9223372036854775808) r.below.lt))))
in_both (negsuc n) r = (passed (leb n 9223372036854775807) r.from.le, refl)

-- within it, and what is then given; or outside
pub data Ranged (z : ℤ) : Type 0 where
  within : InRange z → ranged z ≡ valued z → Ranged z
  beyond : (InRange z → ⊥) → ranged z ≡ unvalued 14 → Ranged z

pub range_of : (z : ℤ) → Ranged z
unfolding ranged
range_of z = go (le_z (negsuc 9223372036854775807) z) refl (le_z z (pos 9223372036854775807)) refl
  where
    go : (t : Bool) → le_z (negsuc 9223372036854775807) z ≡ t → (u : Bool) → le_z z (pos 9223372036854775807) ≡ u → Ranged z
    go true p true q = within (inside z p q) (rw (p, q))
    go true p false q = beyond (λ r. no_test (sym (in_both z r).1 ∙ q)) (rw (p, q))
    go false p u q = beyond (λ r. no_test (sym (in_both z r).0 ∙ p)) (rw p)

pub in_ranged : {z : ℤ} → InRange z → ranged z ≡ valued z
in_ranged {z} r = go (range_of z)
  where
    go : Ranged z → ranged z ≡ valued z
    go (within i e) = e
    go (beyond n e) = absurd (n r)

pub out_ranged : {z : ℤ} → (InRange z → ⊥) → ranged z ≡ unvalued 14
out_ranged {z} n = go (range_of z)
  where
    go : Ranged z → ranged z ≡ unvalued 14
    go (within i e) = absurd (n i)
    go (beyond m e) = e

-- Literals.

twice : (n : ℕ) → 2 * 2 ^ n ≡ 2 ^ suc n
twice n = sym (pow-suc 2 n ∙ mul_comm (2 ^ n) 2)

complement_is : (n v : ℕ) → Complement n v (complement (2 ^ n) v)
unfolding complement
complement_is n v = go (ltb v (2 ^ n)) refl
  where
    go : (t : Bool) → ltb v (2 ^ n) ≡ t → Complement n v (cond t (pos v) (pos v -ℤ pos (2 * 2 ^ n)))
    go true p = plus (ltb-true v (2 ^ n) p) refl
    go false p = minus (ltb-false v (2 ^ n) p) (ap (λ m. pos v -ℤ pos (2 * 2 ^ n) +ℤ pos m) (sym (twice n)) ∙ -ℤ-+ℤ_cancel (pos v) (pos (2 * 2 ^ n)))

complement_one : (n v : ℕ) {z : ℤ} → Complement n v z → z ≡ complement (2 ^ n) v
unfolding complement
complement_one n v (plus h e) = rw (lt-ltb v (2 ^ n) h) e
complement_one n v {z} (minus h e) =
    rw (le-ltb v (2 ^ n) h) (sym (+ℤ-neg_ℤ_cancel z (pos (2 ^ suc n))) ∙ ap (λ x. x -ℤ pos (2 ^ suc n)) e ∙ ap (λ m. pos v -ℤ pos m) (sym (twice n)))

-- what a literal stands for is in the range or not; or its kind is no literal's
pub data Literal (k v : ℕ) : Type 0 where
  stands : (z : ℤ) → Stands k v z → literal_value k v ≡ ranged z → Literal k v
  other : 8 < k → literal_value k v ≡ unvalued 15 → Literal k v

pub literal_of : (k v : ℕ) → Literal k v
unfolding literal_value
literal_of k v = low (leb k 4) refl (leb k 8) refl
  where
    signed : 4 < k → k ≤ 8 → Stands k v (complement (signed_limit k) v)
    signed l h = five (eqb k 5) refl (eqb k 6) refl (eqb k 7) refl
      where
        five : (t : Bool) → eqb k 5 ≡ t → (u : Bool) → eqb k 6 ≡ u → (w : Bool) → eqb k 7 ≡ w → Stands k v (complement (signed_limit k) v)
        five true p u q w r = let e = eqb-true k 5 p in i64 e (rw e (complement_is 63 v))
        five false p true q w r = let e = eqb-true k 6 q in i32 e (rw e (complement_is 31 v))
        five false p false q true r = let e = eqb-true k 7 r in i16 e (rw e (complement_is 15 v))
        five false p false q false r =
            let e : k ≡ 8 = omega (arith, l, h, eqb-false k 5 p, eqb-false k 6 q, eqb-false k 7 r) in
            i8 e (rw e (complement_is 7 v))

    low : (t : Bool) → leb k 4 ≡ t → (u : Bool) → leb k 8 ≡ u → Literal k v
    low true p u q = stands (pos v) (unsigned (leb-true k 4 p) refl) (rw p)
    low false p true q = stands (complement (signed_limit k) v) (signed (leb-false k 4 p) (leb-true k 8 q)) (rw (p, q))
    low false p false q = other (leb-false k 8 q) (rw (p, q))

pub stands_one : (k v : ℕ) {z : ℤ} → Stands k v z → literal_value k v ≡ ranged z
unfolding literal_value
stands_one k v (unsigned h e) = rw (le-leb k 4 h) (ap ranged (sym e))
stands_one k v (i64 e c) = rw e (ap ranged (sym (complement_one 63 v c)))
stands_one k v (i32 e c) = rw e (ap ranged (sym (complement_one 31 v c)))
stands_one k v (i16 e c) = rw e (ap ranged (sym (complement_one 15 v c)))
stands_one k v (i8 e c) = rw e (ap ranged (sym (complement_one 7 v c)))

-- Tests.

-- the test says whether P holds
abbrev pub Says : Bool → Type 0 → Type 0
Says true P = P
Says false P = P → ⊥

pub truth_says : (t : Bool) (P : Type 0) → Says t P → Truth P (pos (cond t 1 0))
truth_says true P h = holds h refl
truth_says false P h = fails h refl

pub says_truth : (t : Bool) (P : Type 0) → Says t P → {z : ℤ} → Truth P z → truth t ≡ ranged z
says_truth t P s x = go t s x
  where
    one : (n : ℕ) {z : ℤ} → n < 2 → z ≡ pos n → valued (pos n) ≡ ranged z
    one n h e = sym (in_ranged (inside (pos n) refl (le-leb n 9223372036854775807 (omega arith)))) ∙ ap ranged (sym e)

    go : (t : Bool) → Says t P → {z : ℤ} → Truth P z → truth t ≡ ranged z
    go true s (holds h e) = one 1 (omega arith) e
    go true s (fails h e) = absurd (h s)
    go false s (holds h e) = absurd (s h)
    go false s (fails h e) = one 0 (omega arith) e

says_by : (t : Bool) {P : Type 0} → (t ≡ true → P) → (t ≡ false → P → ⊥) → Says t P
says_by true there gone = there refl
says_by false there gone = gone refl

pub says_eq : (l r : ℤ) → Says (eq_z l r) (l ≡ r)
unfolding eq_z
says_eq (pos a) (pos b) = says_by (eqb a b) (λ p. ap pos (eqb-true a b p)) (λ p e. eqb-false a b p (ap mag e))
says_eq (pos a) (negsuc b) = pos-ne-negsuc a b
says_eq (negsuc a) (pos b) = λ e. pos-ne-negsuc b a (sym e)
says_eq (negsuc a) (negsuc b) = says_by (eqb a b) (λ p. ap negsuc (eqb-true a b p)) (λ p e. eqb-false a b p (ap mag e))

pub says_not : (t : Bool) (P : Type 0) → Says t P → Says (not t) (P → ⊥)
says_not true P h = λ n. n h
says_not false P h = h

pub says_lt : (l r : ℤ) → Says (lt_z l r) (l <ℤ r)
says_lt l r = says_by (lt_z l r) (λ p. record { lt = rw p tt }) (λ p h. no_test (sym (passed (lt_z l r) h.lt) ∙ p))

pub says_le : (l r : ℤ) → Says (le_z l r) (l ≤ℤ r)
says_le l r = says_by (le_z l r) (λ p. record { le = rw p tt }) (λ p h. no_test (sym (passed (le_z l r) h.le) ∙ p))
