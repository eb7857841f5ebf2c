-- What a call for a chain answers: its length and the count of the names whose edges were followed, or a refusal.
use Rattle.std.specs.Prelude.{ℕ, ◌≡◌, List, [], ◌∷◌, Result, Ok, Err}
use Rattle.meaning.specs.Chain.{Graph, chain_of}
use Rattle.meaning.specs.Calls as calls
use Rattle.meaning.specs.Calls.{Outcome, result, Call}
use Rattle.meaning.specs.Due.{chain_names}
use Rattle.followed.specs.Followed.{followed_count}
use Rattle.refusal.specs.declared.Refusal.{Refusal}
use Rattle.refusal.specs.Numbers.{number}
use Rattle.search_from.specs.declared.Listed.{Listed}

-- the answer as that of a call: the length of the chain, or the number of the refusal
unfoldable pub answer_meant : Result Listed Refusal → calls.Answer
answer_meant (Ok l) = calls.accepted l.names
answer_meant (Err r) = calls.refused_with (number r)

-- where the call is accepted, the count is what is due
abbrev pub CountIs : Outcome → Result Listed Refusal → Type 0
CountIs o (Ok l) = o ≡ result (l.followed ∷ [])
CountIs o (Err r) = Unit {0}

-- the answer to a search from a to b over the edges g, and every place of the list
pub record Lists (g : Graph) (a b : ℕ) (before after : List ℕ) (r : Result Listed Refusal) : Type 0 where
  pub call : Call (result (chain_names (chain_of g a b))) before after (answer_meant r)
  pub count : CountIs (result (followed_count g a b ∷ [])) r
