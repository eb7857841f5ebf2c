-- The digits of a number have its value; the decimal text of a name says the name, and starts with 0 only for 0.
use Prim.Native.Nat.{ℕ, zero, suc, ◌+◌, ◌/◌, ◌%◌, ◌≤◌, ◌<◌}
use native.Mathlib.Omega.{arith}
use native.Mathlib.Decide.{dec_lt}
use mathlib.Core.List.{List, [], ◌∷◌, ◌++◌}
use mathlib.Core.Path.{◌≡◌, ◌∙◌}
use lib.ListN.{length, get_or, length-append, get_or-append}
use lib.Seq.{get_or_at}
use Rattle.decimal.specs.Decimal.{decimal, value_from, IsDigit, Says}
use Rattle.decimal.proofs.DecimalLaws.{decimal_one, decimal_more}
use Rattle.decimal.proofs.Reading.{value_append}

value_by : (k n : ℕ) → n < k → value_from 0 (decimal n) ≡ n
unfolding value_from
value_by zero n h = absurd (omega arith)
value_by (suc k) n h = go (dec_lt n 10) (λ l. value_by k (n / 10) l)
  where
    go : Dec (n < 10) → (n / 10 < k → value_from 0 (decimal (n / 10)) ≡ n / 10) → value_from 0 (decimal n) ≡ n
    go (yes p) tenth = rw (decimal_one n p) (omega arith)
    go (no p) tenth = rw (decimal_more n (omega arith)) (value_append 0 (decimal (n / 10)) ((48 + n % 10) ∷ []) ∙ omega (arith, tenth (omega arith)))

pub decimal_value : (n : ℕ) → value_from 0 (decimal n) ≡ n
decimal_value n = value_by (suc n) n (omega arith)

says_one : (n : ℕ) → n < 10 → Says ((48 + n) ∷ []) n
unfolding value_from
says_one n h = record { some = omega arith; digits = λ i l. first i (omega arith); value = omega arith; small = omega arith }
  where
    first : (i : ℕ) → i ≡ 0 → IsDigit (get_or ((48 + n) ∷ []) i 0)
    first i e = rw e (omega arith, omega arith)

says_more : (ds : List ℕ) (n : ℕ) → n < 65536 → Says ds (n / 10) → Says (ds ++ (48 + n % 10) ∷ []) n
unfolding value_from
says_more ds n h s =
    let size = length-append ds ((48 + n % 10) ∷ []) in
    record {
      some = omega arith;
      digits = λ i l. digit i (dec_lt i (length ds)) (omega arith);
      value = value_append 0 ds ((48 + n % 10) ∷ []) ∙ omega (arith, s.value);
      small = h;
    }
  where
    digit : (i : ℕ) → Dec (i < length ds) → i ≤ length ds → IsDigit (get_or (ds ++ (48 + n % 10) ∷ []) i 0)
    digit i (yes p) l = rw (get_or-append ds ((48 + n % 10) ∷ []) 0 i p) (s.digits i p)
    digit i (no p) l = rw (get_or_at ds (48 + n % 10) [] 0 i (omega arith)) (omega arith, omega arith)

says_by : (k n : ℕ) → n < k → n < 65536 → Says (decimal n) n
says_by zero n h small = absurd (omega arith)
says_by (suc k) n h small = go (dec_lt n 10) (λ l. says_by k (n / 10) l (omega arith))
  where
    go : Dec (n < 10) → (n / 10 < k → Says (decimal (n / 10)) (n / 10)) → Says (decimal n) n
    go (yes p) tenth = rw (decimal_one n p) (says_one n p)
    go (no p) tenth = rw (decimal_more n (omega arith)) (says_more (decimal (n / 10)) n small (tenth (omega arith)))

pub decimal_says : (n : ℕ) → n < 65536 → Says (decimal n) n
decimal_says n small = says_by (suc n) n (omega arith) small

first_by : (k n : ℕ) → n < k → n < 65536 → 0 < n → 48 < get_or (decimal n) 0 0
first_by zero n h small some = absurd (omega arith)
first_by (suc k) n h small some = go (dec_lt n 10) (λ l. first_by k (n / 10) l (omega arith))
  where
    go : Dec (n < 10) → (n / 10 < k → 0 < n / 10 → 48 < get_or (decimal (n / 10)) 0 0) → 48 < get_or (decimal n) 0 0
    go (yes p) tenth = rw (decimal_one n p) (omega arith)
    go (no p) tenth = rw (decimal_more n (omega arith), get_or-append (decimal (n / 10)) ((48 + n % 10) ∷ []) 0 0 (decimal_says (n / 10) (omega arith)).some) (tenth (omega arith) (omega arith))

pub no_leading_zero : (n : ℕ) → n < 65536 → 0 < n → 48 < get_or (decimal n) 0 0
no_leading_zero n small some = first_by (suc n) n (omega arith) small some
