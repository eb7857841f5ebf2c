-- What a call answers, and what it leaves in the places that it is lent (document 01, "Bundle records" and its table of refusals).
use Rattle.std.specs.Prelude.{ℕ, false, cond, List, [], ◌++◌, ◌≡◌, leb, length, drop}
use Rattle.meaning.specs.Tree.{Bundle}
use Rattle.meaning.specs.Reader.{Read, ok, refused}
use Rattle.meaning.specs.ReadBundle.{read_bundle}
use Rattle.meaning.specs.Circle.{circles}
use Rattle.meaning.specs.Encoding.{bundle_bytes}
use Rattle.meaning.specs.Within.{BundleOk}

-- a call is accepted with the length of its result, or refused with a number
pub data Answer : Type 0 where
  accepted : ℕ → Answer
  refused_with : ℕ → Answer

-- what is due to a call, whatever places it is lent: a result, or a refusal
pub data Outcome : Type 0 where
  result : List ℕ → Outcome
  refusal : ℕ → Outcome

-- the answer where so many places are lent: a result that is longer is refused with 9
unfoldable pub answer_of : Outcome → ℕ → Answer
answer_of (result xs) lent = cond (leb (length xs) lent) (accepted (length xs)) (refused_with 9)
answer_of (refusal k) lent = refused_with k

-- the lent places after the call: the result in the first ones and the others as they were; all as they were on a refusal
unfoldable pub places_after : Outcome → List ℕ → List ℕ
places_after (result xs) places = cond (leb (length xs) (length places)) (xs ++ drop (length xs) places) places
places_after (refusal k) places = places

-- the call to which o is due answers a, and the places that it was lent become `after`
pub record Call (o : Outcome) (before after : List ℕ) (a : Answer) : Type 0 where
  pub answer : a ≡ answer_of o (length before)
  pub places : after ≡ places_after o before

-- what is due where this was read: the fault that was found, 8 where the bundle circles, and else what f gives for the bundle
unfoldable pub due_of : (Bundle → Outcome) → Read Bundle → Outcome
due_of f (ok b n) = cond (circles b) (refusal 8) (f b)
due_of f (refused k) = refusal k

-- what is due to a call with these bytes, where f says what is due for an accepted bundle
unfoldable pub on_bundle : (Bundle → Outcome) → List ℕ → Outcome
on_bundle f s = due_of f (read_bundle s)

-- what is due to a call that only asks whether the bytes are accepted
unfoldable pub acceptance : List ℕ → Outcome
acceptance s = on_bundle (λ b. result []) s

-- the bytes are those of a tree within the limits that does not circle
pub record Accepted (s : List ℕ) : Type 0 where
  pub tree : Bundle
  pub within : BundleOk tree
  pub no_circle : circles tree ≡ false
  pub encoded : bundle_bytes tree ≡ s
