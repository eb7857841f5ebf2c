-- What the program writes for an order and a bundle.
use Rattle.std.specs.Prelude.{ℕ, ◌≤◌, List, [], ◌∷◌, ◌++◌, ◌≡◌, length, take, Option, Some, None, Result, Ok, Err}
use Rattle.decimal.specs.Decimal.{lines, signed_line}
use Rattle.meaning.specs.Calls.{Answer, accepted, refused_with, Outcome, result, refusal, answer_of}
use Rattle.meaning.specs.Due.{reporting, renumbering, chaining}
use Rattle.followed.specs.Followed.{following}
use Rattle.fixed_meaning.specs.Fixed.{sizing, placing}
use Rattle.fixed_meaning.specs.Value as meaning
use Rattle.fixed_meaning.specs.Value.{valued, unvalued}
use Rattle.fixed_meaning.specs.Valuing.{valuing}
use Rattle.refusal.specs.declared.Refusal.{Refusal}
use Rattle.refusal.specs.Numbers.{number}
use Rattle.words.specs.declared.Order.{Order}
use Rattle.words.specs.declared.Order.TheVariants.{Report, Renumber, Chain, Followed, Size, Value, Help}

-- a refusal: 7E and its number
abbrev pub refusal_bytes : ℕ → List ℕ
refusal_bytes k = 0x7E ∷ k ∷ []

-- the result, or the refusal
abbrev pub written : Answer → Outcome → List ℕ
written (accepted n) (result xs) = xs
written (accepted n) (refusal k) = []
written (refused_with k) o = refusal_bytes k

-- what is written where so many places are lent
unfoldable pub response_to : Outcome → ℕ → List ℕ
response_to o lent = written (answer_of o lent) o

-- the numbers of a result
abbrev pub numbers_of : Outcome → List ℕ
numbers_of (result numbers) = numbers
numbers_of (refusal k) = []

-- the count and the names of a chain, each to a line in decimal, or the refusal
unfoldable pub lines_to : List ℕ → Outcome → List ℕ
lines_to count (result names) = lines (count ++ names)
lines_to count (refusal k) = refusal_bytes k

-- numbers, each to a line in decimal, or the refusal that was answered
abbrev pub lines_of : Answer → List ℕ → List ℕ
lines_of (accepted n) numbers = lines numbers
lines_of (refused_with k) numbers = refusal_bytes k

-- size and alignment, then the offsets, where so many places are lent for these
unfoldable pub size_to : Outcome → Outcome → ℕ → List ℕ
size_to extent offsets lent = lines_of (answer_of offsets lent) (numbers_of extent ++ numbers_of offsets)

-- a value in decimal, on a line, or the refusal
unfoldable pub value_to : meaning.Value → List ℕ
value_to (valued z) = signed_line z
value_to (unvalued k) = refusal_bytes k

-- what an order gets for a bundle: there are 65,536 places for a report or a renumbered bundle, and 8,192 for offsets
abbrev pub answer_to : Order → List ℕ → List ℕ
answer_to Report s = response_to (reporting s) 65536
answer_to Renumber s = response_to (renumbering s) 65536
answer_to (Chain from to) s = lines_to [] (chaining from to s)
answer_to (Followed from to) s = lines_to (numbers_of (following from to s)) (chaining from to s)
answer_to (Size definition) s = size_to (sizing definition s) (placing definition s) 8192
answer_to (Value definition) s = value_to (valuing definition s)
answer_to Help s = []

-- the same for what was asked, if it was: wrong arguments get nothing
abbrev pub answer_for : Option Order → List ℕ → List ℕ
answer_for None s = []
answer_for (Some order) s = answer_to order s

-- the text stands in the first r places
pub record Holds (text places : List ℕ) (r : ℕ) : Type 0 where
  pub within : r ≤ length places
  pub first : take r places ≡ text

-- the same, or the refusal for which it stands
abbrev pub Gives : List ℕ → Result ℕ Refusal → List ℕ → Type 0
Gives text (Ok r) places = Holds text places r
Gives text (Err k) places = text ≡ refusal_bytes (number k)
