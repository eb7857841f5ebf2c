-- What calls leave in the places that they are lent from one of them on.
use Rattle.std.specs.Prelude.{ℕ, zero, suc, ◌+◌, List, [], ◌∷◌, ◌++◌, ◌≡◌, length, take, drop}
use Rattle.meaning.specs.Calls.{Answer, accepted, refused_with, Outcome, answer_of, places_after, Call}
use Rattle.meaning.specs.Writing.{writing}

-- the call to which o is due, with the places from `at` on: those before are kept
pub record CallFrom (at : ℕ) (o : Outcome) (before after : List ℕ) (a : Answer) : Type 0 where
  pub kept : take at after ≡ take at before
  pub call : Call o (drop at before) (drop at after) a

-- the places after that call, and where its result ends
abbrev pub places_from : ℕ → Outcome → List ℕ → List ℕ
places_from at o places = take at places ++ places_after o (drop at places)

abbrev pub end_of : ℕ → Answer → ℕ
end_of at (accepted n) = at + n
end_of at (refused_with k) = at

-- the first n of these values, and 0 where there are fewer
abbrev pub given : ℕ → List ℕ → List ℕ
given zero vs = []
given (suc n) [] = 0 ∷ given n []
given (suc n) (v ∷ vs) = v ∷ given n vs

-- the places after the records are written one by one, by calls with four values, from `at` on, each where the one before it ended
unfoldable pub records_after : List (ℕ × List ℕ) → ℕ → List ℕ → List ℕ
records_after [] at places = places
records_after ((k, vs) ∷ rs) at places =
    let o = writing k (given 4 vs) in
    records_after rs (end_of at (answer_of o (length (drop at places)))) (places_from at o places)
