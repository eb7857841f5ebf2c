-- What a search answers, and what it leaves in the list that it is lent.
use Rattle.std.specs.Prelude.{ℕ, ◌+◌, ◌≤◌, ◌≡◌, List, Option, None, Some, length, take}
use Rattle.std.proofs.Math.Option as math
use Rattle.std.proofs.Math.Option.{none, some}
use Rattle.meaning.specs.Limits.{edge_limit}

-- the chain o stands in the first k places of a list
pub record Stands (o : math.Option (List ℕ)) (list : List ℕ) (k : ℕ) : Type 0 where
  pub is : o ≡ some (take k list)
  pub short : k ≤ edge_limit + 1
  pub room : k ≤ length list

-- what the answer says: that there is no chain, or how many of its names stand in the list
abbrev pub Told : math.Option (List ℕ) → List ℕ → Option ℕ → Type 0
Told o list None = o ≡ none
Told o list (Some k) = Stands o list k

-- r is the answer to a search for the chain o, and the list is left so
pub record Answers (o : math.Option (List ℕ)) (list : List ℕ) (r : Option ℕ) : Type 0 where
  pub told : Told o list r
