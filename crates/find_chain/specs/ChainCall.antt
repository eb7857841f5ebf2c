-- What a call for a chain answers, and what it leaves in its list.
use Rattle.std.specs.Prelude.{ℕ, List, Result}
use Rattle.meaning.specs.Calls.{Call}
use Rattle.meaning.specs.Due.{chaining}
use Rattle.followed.specs.Followed.{following}
use Rattle.refusal.specs.declared.Refusal.{Refusal}
use Rattle.search_from.specs.declared.Listed.{Listed}
use Rattle.search_from.specs.Listing.{answer_meant, CountIs}

-- the answer to a call for the chain from one name to another with the bytes s: length and count, or a refusal; and every place of the list
pub record ChainCall (from to : ℕ) (s before after : List ℕ) (r : Result Listed Refusal) : Type 0 where
  pub call : Call (chaining from to s) before after (answer_meant r)
  pub count : CountIs (following from to s) r
