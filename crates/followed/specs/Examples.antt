-- Counts of followed names over a few edges.
use Rattle.std.specs.Prelude.{ℕ, List, [], ◌∷◌, ◌≡◌}
use Rattle.meaning.specs.Tree.{Edge}
use Rattle.meaning.specs.Violations.{graph}
use Rattle.followed.specs.Followed.{followed_count}

abbrev edge : ℕ → ℕ → Edge
edge a b = record { from = a; to = b; kind = 0 }

-- the count from 0 over the edges
abbrev pub over : List Edge → ℕ → ℕ
over es to = followed_count (graph (record { current = 0; definitions = []; edges = es })) 0 to

pub record Examples : Type 0 where
  -- 0 from a name to itself
  pub to_itself : over (edge 0 1 ∷ edge 0 0 ∷ []) 0 ≡ 0
  -- 0, 1 and 3, and not 2, whose chain has smaller edge numbers and more of them than that of 3
  pub fewer_first : over (edge 0 1 ∷ edge 1 2 ∷ edge 0 3 ∷ edge 3 4 ∷ []) 4 ≡ 3
  -- 0 and 1, and not 2, whose chain has as many edges as that of 1 and a larger edge number
  pub earlier_first : over (edge 0 1 ∷ edge 0 2 ∷ edge 1 3 ∷ []) 3 ≡ 2
  -- edges made at random, each count as an independent model has it
  pub one : over (edge 3 4 ∷ edge 3 4 ∷ edge 1 5 ∷ edge 1 3 ∷ edge 1 2 ∷ edge 3 5 ∷ edge 1 4 ∷ []) 3 ≡ 1
  pub two : over (edge 2 5 ∷ edge 2 3 ∷ edge 1 2 ∷ edge 2 3 ∷ edge 0 2 ∷ edge 1 3 ∷ edge 0 5 ∷ []) 5 ≡ 1
  pub three : over (edge 1 5 ∷ edge 3 4 ∷ edge 0 1 ∷ edge 1 5 ∷ edge 0 3 ∷ edge 2 4 ∷ edge 0 5 ∷ []) 6 ≡ 5
  pub four : over (edge 0 4 ∷ edge 0 1 ∷ edge 1 3 ∷ edge 1 4 ∷ edge 2 4 ∷ edge 1 2 ∷ []) 3 ≡ 3
  pub five : over (edge 0 4 ∷ edge 0 2 ∷ edge 2 5 ∷ edge 0 5 ∷ edge 0 2 ∷ edge 0 4 ∷ edge 1 3 ∷ []) 6 ≡ 4
  pub six : over (edge 2 4 ∷ edge 2 4 ∷ edge 1 3 ∷ edge 0 1 ∷ edge 1 3 ∷ edge 3 4 ∷ edge 1 5 ∷ []) 3 ≡ 2
  pub seven : over (edge 2 3 ∷ edge 2 3 ∷ edge 2 4 ∷ edge 1 4 ∷ edge 1 4 ∷ edge 0 1 ∷ edge 1 2 ∷ []) 3 ≡ 4
  pub eight : over (edge 3 4 ∷ edge 3 4 ∷ edge 3 5 ∷ edge 2 3 ∷ edge 2 4 ∷ edge 0 5 ∷ []) 6 ≡ 2
  pub nine : over (edge 1 3 ∷ edge 2 3 ∷ edge 0 3 ∷ edge 1 3 ∷ edge 0 3 ∷ edge 3 5 ∷ []) 4 ≡ 3
  pub ten : over (edge 3 5 ∷ edge 2 3 ∷ edge 1 4 ∷ edge 0 1 ∷ edge 0 2 ∷ edge 2 4 ∷ []) 5 ≡ 5
  pub eleven : over (edge 0 2 ∷ edge 2 3 ∷ edge 0 4 ∷ edge 0 1 ∷ edge 2 5 ∷ edge 0 4 ∷ []) 6 ≡ 6
  pub twelve : over (edge 3 5 ∷ edge 2 4 ∷ edge 0 1 ∷ edge 0 4 ∷ edge 3 5 ∷ edge 1 4 ∷ edge 0 3 ∷ []) 5 ≡ 4
  pub thirteen : over (edge 1 2 ∷ edge 3 4 ∷ edge 2 5 ∷ edge 0 1 ∷ edge 0 1 ∷ edge 3 5 ∷ []) 5 ≡ 3
