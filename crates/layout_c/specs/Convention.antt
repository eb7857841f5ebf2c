-- How a call answers in C: a number, and by pointer a length, for a chain also a count, for a fixed size also size and alignment; or a value.
use Rattle.std.specs.Prelude.{ℕ, ◌≤◌, ◌<◌, List, [], ◌∷◌, ◌↔◌, ◌⊎◌, ◌≡◌, ℤ, length}
use Rattle.meaning.specs.Tree.{Bundle}
use Rattle.meaning.specs.Calls.{Answer, accepted, refused_with, Outcome, result, answer_of, places_after, acceptance}
use Rattle.meaning.specs.Due.{chaining}
use Rattle.followed.specs.Followed.{following}
use Rattle.refusals.specs.Numbers.{Keeps}
use Rattle.fixed_meaning.specs.Fixed.{sizing, placing}
use Rattle.fixed_meaning.specs.Value.{Value, valued, unvalued}
use Rattle.fixed_meaning.specs.Valuing.{valuing}
use Rattle.value_demand.specs.Demand.{KnownNumber}

-- 0 for an acceptance, and else the number of the refusal
unfoldable pub code_of : Answer → ℕ
code_of (accepted n) = 0
code_of (refused_with k) = k

-- the length that stands where `written` points: the result's on an acceptance, what it was on a refusal
unfoldable pub written_after : Answer → ℕ → ℕ
written_after (accepted n) written = n
written_after (refused_with k) written = written

-- The call to which o is due returns r, and its places and `written` change as said. r is 0 exactly where the call is accepted, and else
-- one of the numbers 1 to 9.
pub record CallInC (o : Outcome) (before after : List ℕ) (written written' r : ℕ) : Type 0 where
  pub code : r ≡ code_of (answer_of o (length before))
  pub length_out : written' ≡ written_after (answer_of o (length before)) written
  pub places : after ≡ places_after o before
  pub zero : (r ≡ 0) ↔ ((n : ℕ) × (answer_of o (length before) ≡ accepted n))
  pub known : r ≤ 9

-- The call that asks whether the bytes s are accepted returns r: 0 exactly where they are those of a bundle that keeps the layout and has
-- no circle, and else one of the numbers 1 to 8.
pub record AcceptInC (s : List ℕ) (r : ℕ) : Type 0 where
  pub code : r ≡ code_of (answer_of (acceptance s) 0)
  pub zero : (r ≡ 0) ↔ ((b : Bundle) × Keeps s b)
  pub known : r ≤ 8

-- The call for a chain of the bytes s that also gives the count of followed names returns r: all is as with every call, and the count
-- becomes the one due on an acceptance and stays on a refusal.
pub record FollowedInC (from to : ℕ) (s before after : List ℕ) (written written' followed followed' r : ℕ) : Type 0 where
  pub call : CallInC (chaining from to s) before after written written' r
  pub count : r ≡ 0 → following from to s ≡ result (followed' ∷ [])
  pub stay : 0 < r → followed' ≡ followed

-- The call for definition i of the bytes s returns r: its list and `written` change as with every call, and size and alignment become
-- those due on an acceptance and stay on a refusal. r is 0 exactly where the call is accepted, and else one of the numbers 1 to 12.
pub record FixedInC (i : ℕ) (s before after : List ℕ) (size size' alignment alignment' written written' r : ℕ) : Type 0 where
  pub code : r ≡ code_of (answer_of (placing i s) (length before))
  pub length_out : written' ≡ written_after (answer_of (placing i s) (length before)) written
  pub places : after ≡ places_after (placing i s) before
  pub extents : r ≡ 0 → sizing i s ≡ result (size' ∷ alignment' ∷ [])
  pub stay : 0 < r → (size' ≡ size) × (alignment' ≡ alignment)
  pub zero : (r ≡ 0) ↔ ((n : ℕ) × (answer_of (placing i s) (length before) ≡ accepted n))
  pub known : r ≤ 12

-- 0 for a value, and else the number of the refusal
unfoldable pub code_of_value : Value → ℕ
code_of_value (valued z) = 0
code_of_value (unvalued k) = k

-- The call for the value of the size of definition i of the bytes s returns r: 0 exactly where there is a value, which is then given, and
-- else one of the numbers 1 to 8, 11 and 13 to 15, where the value stays.
pub record ValueInC (i : ℕ) (s : List ℕ) (value value' : ℤ) (r : ℕ) : Type 0 where
  pub code : r ≡ code_of_value (valuing i s)
  pub given : r ≡ 0 → valuing i s ≡ valued value'
  pub stay : 0 < r → value' ≡ value
  pub zero : (r ≡ 0) ↔ ((z : ℤ) × (valuing i s ≡ valued z))
  pub known : (r ≡ 0) ⊎ KnownNumber r
