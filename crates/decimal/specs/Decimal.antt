-- Numbers as decimal text, in ASCII.
use Rattle.std.specs.Prelude.{ℕ, zero, suc, ◌+◌, ◌-◌, ◌*◌, ◌/◌, ◌%◌, ◌≤◌, ◌<◌, cond, List, [], ◌∷◌, ◌++◌, ◌≡◌, ltb, ℤ, pos, negsuc, length, take, get_or}

-- the digits of n, if it has no more than k
unfoldable pub digits_of : ℕ → ℕ → List ℕ
digits_of zero n = []
digits_of (suc k) n = cond (ltb n 10) ((48 + n) ∷ []) (digits_of k (n / 10) ++ (48 + n % 10) ∷ [])

-- the decimal text of a number: one digit below ten, and else the text of a tenth and the last digit
unfoldable pub decimal : ℕ → List ℕ
decimal n = digits_of (suc n) n

-- each number's text and a line feed
unfoldable pub lines : List ℕ → List ℕ
lines [] = []
lines (n ∷ ns) = decimal n ++ 10 ∷ lines ns

-- the decimal text of a whole number: a minus sign and how far it is from 0, where it is negative
unfoldable pub signed : ℤ → List ℕ
signed (pos n) = decimal n
signed (negsuc n) = 45 ∷ decimal (suc n)

-- its text and a line feed
unfoldable pub signed_line : ℤ → List ℕ
signed_line z = signed z ++ 10 ∷ []

-- a digit, 0 to 9
abbrev pub IsDigit : ℕ → Type 0
IsDigit c = (48 ≤ c) × (c ≤ 57)

-- the number that v becomes with these digits behind it
unfoldable pub value_from : ℕ → List ℕ → ℕ
value_from v [] = v
value_from v (c ∷ cs) = value_from (10 * v + (c - 48)) cs

-- the word says the name n: one digit or more, of which the first may be 0, with the value n of at most 65535
pub record Says (word : List ℕ) (n : ℕ) : Type 0 where
  pub some : 0 < length word
  pub digits : (i : ℕ) → i < length word → IsDigit (get_or word i 0)
  pub value : value_from 0 word ≡ n
  pub small : n < 65536

-- the text stands behind the first `at` places, and r is the place behind it
pub record Writes (text before : List ℕ) (at : ℕ) (after : List ℕ) (r : ℕ) : Type 0 where
  pub room : r ≤ length after
  pub places : take r after ≡ take at before ++ text
