-- Laws of decimal text.
use Prim.Native.Nat.{ℕ, zero, suc, ◌+◌, ◌^◌, ◌/◌, ◌%◌, ◌≤◌, ◌<◌}
use native.Mathlib.Omega.{arith}
use mathlib.Core.Bool.{Bool, true, false, cond}
use mathlib.Core.List.{List, [], ◌∷◌, ◌++◌, append_assoc}
use mathlib.Core.Path.{◌≡◌, refl, sym, ap, ◌∙◌}
use lib.Dec.{ltb}
use native.Mathlib.Decide.{dec_lt}
use lib.IntN.{ℤ, pos, negsuc, nat_abs}
use lib.Signed.{le_z}
use mir.Syntax.{w64}
use mir.Val.{SFits, to_z, of_z}
use mir.ValLaws.{to_z-of_z}
use lib.ListN.{length, length-append}
use borrow.Author.Tests.{lt-ltb, le-ltb, ltb-false, le-leb}
use Rattle.decimal.specs.Decimal.{digits_of, decimal, lines, signed, signed_line}

-- more places for digits than there are change nothing
digits_same : (k l n : ℕ) → n < k → n < l → digits_of k n ≡ digits_of l n
unfolding digits_of
digits_same zero l n h m = absurd (omega arith)
digits_same (suc k) zero n h m = absurd (omega arith)
digits_same (suc k) (suc l) n h m = go (ltb n 10) refl (λ f g. digits_same k l (n / 10) f g)
  where
    go : (t : Bool) → ltb n 10 ≡ t → (n / 10 < k → n / 10 < l → digits_of k (n / 10) ≡ digits_of l (n / 10))
        → cond t ((48 + n) ∷ []) (digits_of k (n / 10) ++ (48 + n % 10) ∷ []) ≡ cond t ((48 + n) ∷ []) (digits_of l (n / 10) ++ (48 + n % 10) ∷ [])
    go true e same = refl
    go false e same = let more = ltb-false n 10 e in ap (λ ds. ds ++ (48 + n % 10) ∷ []) (same (omega arith) (omega arith))

-- below ten
pub decimal_one : (n : ℕ) → n < 10 → decimal n ≡ (48 + n) ∷ []
unfolding decimal digits_of
decimal_one n h = rw (lt-ltb n 10 h)

-- from ten on
pub decimal_more : (n : ℕ) → 10 ≤ n → decimal n ≡ decimal (n / 10) ++ (48 + n % 10) ∷ []
unfolding decimal digits_of
decimal_more n h = rw (le-ltb n 10 h) (ap (λ ds. ds ++ (48 + n % 10) ∷ []) (digits_same n (suc (n / 10)) (n / 10) (omega arith) (omega arith)))

-- places for as many digits as there are
pub decimal_few : (k n : ℕ) → n < 10 ^ suc k → decimal n ≡ digits_of (suc k) n
unfolding digits_of
decimal_few zero n h = rw (lt-ltb n 10 (omega arith)) (decimal_one n (omega arith))
decimal_few (suc k) n h = go (dec_lt n 10) (λ p. decimal_few k (n / 10) p)
  where
    go : Dec (n < 10) → (n / 10 < 10 ^ suc k → decimal (n / 10) ≡ digits_of (suc k) (n / 10)) → decimal n ≡ digits_of (suc (suc k)) n
    go (yes p) s = rw (lt-ltb n 10 p) (decimal_one n p)
    go (no p) s = rw (le-ltb n 10 (omega arith)) (decimal_more n (omega arith) ∙ ap (λ ds. ds ++ (48 + n % 10) ∷ []) (s (omega arith)))

pub decimal_last : (n : ℕ) → 10 ≤ n → length (decimal n) ≡ length (decimal (n / 10)) + 1
decimal_last n h = ap length (decimal_more n h) ∙ length-append (decimal (n / 10)) ((48 + n % 10) ∷ [])

-- a number below 10 ^ (k + 1) takes at most k + 1 digits
decimal_size : (k n : ℕ) → n < 10 ^ suc k → length (decimal n) ≤ suc k
decimal_size zero n h = omega (arith, ap length (decimal_one n (omega arith)))
decimal_size (suc k) n h = go (dec_lt n 10) (λ p. decimal_size k (n / 10) p)
  where
    go : Dec (n < 10) → (n / 10 < 10 ^ suc k → length (decimal (n / 10)) ≤ suc k) → length (decimal n) ≤ suc (suc k)
    go (yes p) s = omega (arith, ap length (decimal_one n p))
    go (no p) s = omega (arith, s (omega arith), decimal_last n (omega arith))

-- its line takes one byte more
pub line_length : (n : ℕ) → length (lines (n ∷ [])) ≡ length (decimal n) + 1
unfolding lines
line_length n = length-append (decimal n) (10 ∷ [])

pub line_size : (k n : ℕ) → n < 10 ^ suc k → length (lines (n ∷ [])) ≤ suc (suc k)
line_size k n h = omega (arith, decimal_size k n h, line_length n)

-- the same by the count of digits
pub line_within : (d n : ℕ) → 0 < d → n < 10 ^ d → length (lines (n ∷ [])) ≤ d + 1
line_within zero n some h = absurd (omega arith)
line_within (suc k) n some h = omega (arith, line_size k n h)

pub lines_append : (ns ms : List ℕ) → lines (ns ++ ms) ≡ lines ns ++ lines ms
unfolding lines
lines_append [] ms = refl
lines_append (n ∷ ns) ms = ap (λ l. decimal n ++ 10 ∷ l) (lines_append ns ms) ∙ sym (append_assoc (decimal n) (10 ∷ lines ns) (lines ms))

-- the line of a number that is not negative, and of one that is
plus : (z : ℤ) → le_z (pos 0) z ≡ true → lines (nat_abs z ∷ []) ≡ signed_line z
unfolding lines signed_line signed
plus (pos n) h = refl
plus (negsuc n) h = let z : ◌≡◌ {A = ℕ} 0 1 = cc in absurd (omega arith)

minus : (z : ℤ) → le_z (pos 0) z ≡ false → 45 ∷ lines (nat_abs z ∷ []) ≡ signed_line z
unfolding lines signed_line signed
minus (pos n) h = let t : true ≡ false = sym (le-leb 0 n (omega arith)) ∙ h in let z : ◌≡◌ {A = ℕ} 0 1 = cc in absurd (omega arith)
minus (negsuc n) h = refl

-- the same for a number that has come back from its bits, by how far it is from 0
module _ {z : ℤ} {d : ℕ} (f : SFits w64 z) (e : d ≡ nat_abs (to_z w64 (of_z w64 z))) where
  distance : d ≡ nat_abs z
  distance = e ∙ ap nat_abs (to_z-of_z w64 z f)

  pub line_plus : le_z (pos 0) (to_z w64 (of_z w64 z)) ≡ true → lines (d ∷ []) ≡ signed_line z
  line_plus h = ap (λ n. lines (n ∷ [])) distance ∙ plus z (rw (to_z-of_z w64 z f) at h)

  pub line_minus : le_z (pos 0) (to_z w64 (of_z w64 z)) ≡ false → 45 ∷ lines (d ∷ []) ≡ signed_line z
  line_minus h = ap (λ n. 45 ∷ lines (n ∷ [])) distance ∙ minus z (rw (to_z-of_z w64 z f) at h)

-- in 64 bits it takes at most 19 digits
pub signed_size : (z : ℤ) → SFits w64 z → length (signed_line z) ≤ 21
unfolding signed_line signed
signed_size (pos n) f = omega (arith, length-append (decimal n) (10 ∷ []), decimal_size 18 n (omega (arith, f.sfits)))
signed_size (negsuc n) f = omega (arith, length-append (decimal (suc n)) (10 ∷ []), decimal_size 18 (suc n) (omega (arith, f.sfits)))
