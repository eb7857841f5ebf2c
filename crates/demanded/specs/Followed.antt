-- The count beside a chain (document 02, L3).
use Rattle.std.specs.Prelude.{ℕ, List, ◌≡◌, Result, Ok}
use Rattle.meaning.specs.Tree.{Bundle}
use Rattle.meaning.specs.Violations.{graph}
use Rattle.refusals.specs.Numbers.{Keeps}
use Rattle.followed.specs.Laws.{Count}
use Rattle.refusal.specs.declared.Refusal.{Refusal}
use Rattle.search_from.specs.declared.Listed.{Listed}

-- An accepted call with the bytes s gives the count of the names whose edges the search from one name to another follows, of which there
-- is one. A refused call gives none.
pub record FollowedGiven (from to : ℕ) (s : List ℕ) (r : Result Listed Refusal) : Type 0 where
  pub count : (b : Bundle) → Keeps s b → (l : Listed) → r ≡ Ok l → Count (graph b) from to l.followed
  pub one : (b : Bundle) (j k : ℕ) → Count (graph b) from to j → Count (graph b) from to k → j ≡ k
