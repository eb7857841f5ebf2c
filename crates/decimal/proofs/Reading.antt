-- What the library reads in a word.
use Prim.Native.Nat.{ℕ, ◌+◌, ◌-◌, ◌*◌, ◌<◌}
use native.Mathlib.Omega.{arith}
use native.Mathlib.Decide.{dec_lt}
use mathlib.Core.List.{List, [], ◌∷◌, ◌++◌}
use mathlib.Core.Path.{◌≡◌, refl, sym, ap}
use lib.Dec.{eqb}
use mathlib.Core.Bool.{true}
use lib.ListN.{length, get_or, get_or-eq_default}
use Rattle.std.specs.Prelude.{Result, Ok, Err}
use Rattle.std.specs.List.{starts_with}
use Rattle.std.specs.Result.{result_ok}
use Rattle.std.specs.Str.{IsUtf8}
use Rattle.std.specs.Str.Parse.{ParsesUnsigned}
use Rattle.std.proofs.lemmas.Str.{IsUtf8-from_ascii}
use Rattle.std.proofs.lemmas.Str.Parse.{IsNumeralModel, numerals_by_fold, tells_by_index, parse_plain}
use Rattle.decimal.specs.Decimal.{value_from, IsDigit, Says}
use Rattle.decimal.specs.Parsing.{IsParsed}

-- digits behind digits
pub value_append : (v : ℕ) (xs ys : List ℕ) → value_from v (xs ++ ys) ≡ value_from (value_from v xs) ys
unfolding value_from
value_append v [] ys = refl
value_append v (x ∷ xs) ys = value_append (10 * v + (x - 48)) xs ys

-- each byte is a digit
abbrev Digits : List ℕ → Type 0
Digits word = (i : ℕ) → i < length word → IsDigit (get_or word i 0)

model : IsNumeralModel Digits (value_from 0)
unfolding value_from
model = numerals_by_fold Digits tells_by_index value_from (record { empty = λ n. refl; more = λ n c cs h. ap (λ m. value_from (m + (c - 48)) cs) (omega arith) })

-- a plus says no name
pub no_plus : (word : List ℕ) → get_or word 0 0 ≡ 43 → (n : ℕ) → Says word n → ⊥
no_plus word e n s = omega (arith, s.digits 0 s.some)

-- and no more does what is no text
pub no_text : (word : List ℕ) → (IsUtf8 word → ⊥) → (n : ℕ) → Says word n → ⊥
no_text word h n s = h (IsUtf8-from_ascii word (λ i. small i (dec_lt i (length word))))
  where
    small : (i : ℕ) → Dec (i < length word) → get_or word i 0 < 128
    small i (yes p) = omega (arith, s.digits i p)
    small i (no p) = rw (get_or-eq_default word 0 {n = i} (omega arith)) (omega arith)

-- a word that starts with a plus is one
pub starts_plus : (word : List ℕ) → get_or word 0 0 ≡ 43 → starts_with eqb word (43 ∷ []) ≡ true
starts_plus [] e = absurd (omega arith)
starts_plus (c ∷ cs) e = rw e refl

-- what is read is what the word says
pub parsed : {E : Type 0} (word : List ℕ) (r : Result ℕ E) → ParsesUnsigned 16 10 word r → (get_or word 0 0 ≡ 43 → ⊥) → IsParsed word (result_ok r)
parsed {E} word (Ok n) h p =
    let q = parse_plain model {E = E} 16 word (Ok n) h p in
    record { some = q.0.1; digits = q.0.0; value = sym q.1; small = omega (arith, q.0.2, q.1) }
parsed word (Err e) h p = λ n s. parse_plain model 16 word (Err e) h p (s.digits, s.some, omega (arith, s.value, s.small))
