-- What follows from an answer: an acceptance of n has the result in the first n places and keeps the others; a refusal keeps all.
use Prim.Native.Nat.{ℕ, ◌≤◌, ◌<◌}
use native.Mathlib.Omega.{arith}
use mathlib.Core.Bool.{Bool, true, false, cond}
use mathlib.Core.Path.{◌≡◌, refl, ap, ◌∙◌}
use mathlib.Core.List.{List, ◌++◌}
use lib.Dec.{leb}
use lib.ListN.{length, take, drop}
use lib.Seq.{take_at, drop_at}
use borrow.Author.Tests.{le-leb, lt-leb}
use Rattle.meaning.specs.Calls.{accepted, refused_with, Outcome, result, refusal, answer_of, places_after, Call}

-- a call is accepted with n: there is a result of that length, it stands in the first n places, and the others are kept
pub record Fills (o : Outcome) (n : ℕ) (before after : List ℕ) : Type 0 where
  pub due : List ℕ
  pub outcome : o ≡ result due
  pub size : length due ≡ n
  pub first : take n after ≡ due
  pub others : drop n after ≡ drop n before

pub call_accepted : (o : Outcome) (n : ℕ) (before after : List ℕ) → Call o before after (accepted n) → Fills o n before after
unfolding answer_of places_after
call_accepted (result xs) n before after c = go (leb (length xs) (length before)) c.answer c.places
  where
    go : (t : Bool) → accepted n ≡ cond t (accepted (length xs)) (refused_with 9) → after ≡ cond t (xs ++ drop (length xs) before) before → Fills (result xs) n before after
    go true a p =
        let size : length xs ≡ n = cc in
        record {
          due = xs;
          outcome = refl;
          size = size;
          first = rw p (take_at xs (drop (length xs) before) n size);
          others = rw p (drop_at xs (drop (length xs) before) n size ∙ ap (λ k. drop k before) size);
        }
    go false a p = let z : ◌≡◌ {A = ℕ} 0 1 = cc in absurd (omega arith)
call_accepted (refusal k) n before after c = let a = c.answer in let z : ◌≡◌ {A = ℕ} 0 1 = cc in absurd (omega arith)

-- a call is refused: every place is as it was
pub call_refused : (o : Outcome) (k : ℕ) (before after : List ℕ) → Call o before after (refused_with k) → after ≡ before
unfolding answer_of places_after
call_refused (result xs) k before after c = go (leb (length xs) (length before)) c.answer c.places
  where
    go : (t : Bool) → refused_with k ≡ cond t (accepted (length xs)) (refused_with 9) → after ≡ cond t (xs ++ drop (length xs) before) before → after ≡ before
    go true a p = let z : ◌≡◌ {A = ℕ} 0 1 = cc in absurd (omega arith)
    go false a p = p
call_refused (refusal j) k before after c = c.places

-- a result that fits is given, and one that does not is refused with 9
pub answer_fits : (xs : List ℕ) (lent : ℕ) → length xs ≤ lent → answer_of (result xs) lent ≡ accepted (length xs)
unfolding answer_of
answer_fits xs lent h = rw (le-leb (length xs) lent h)

pub answer_narrow : (xs : List ℕ) (lent : ℕ) → lent < length xs → answer_of (result xs) lent ≡ refused_with 9
unfolding answer_of
answer_narrow xs lent h = rw (lt-leb (length xs) lent h)
