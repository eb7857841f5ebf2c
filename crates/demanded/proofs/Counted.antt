-- The count that is due is the count of followed names.
use Prim.Native.Nat.{ℕ}
use mathlib.Core.List.{List, [], ◌∷◌}
use mathlib.Core.Path.{◌≡◌, subst}
use Rattle.meaning.specs.Tree.{Bundle}
use Rattle.meaning.specs.Violations.{graph}
use Rattle.meaning.specs.Calls.{result}
use Rattle.refusals.specs.Numbers.{Keeps}
use Rattle.demands.proofs.Answering.{kept_due}
use Rattle.followed.specs.Followed.{followed_count, following}
use Rattle.followed.specs.Laws.{Count}
use Rattle.followed.proofs.Gathered.{counts}
use Rattle.std.specs.Prelude.{Result, Ok}
use Rattle.refusal.specs.declared.Refusal.{Refusal}
use Rattle.search_from.specs.declared.Listed.{Listed}
use Rattle.search_from.specs.Listing.{CountIs}
use Rattle.demanded.specs.Followed.{FollowedGiven}

pub given : (from to : ℕ) (s : List ℕ) (r : Result Listed Refusal) → CountIs (following from to s) r → FollowedGiven from to s r
unfolding following
given from to s r c = record { count = count; one = λ b. counts.one_count (graph b) from to }
  where
    count : (b : Bundle) → Keeps s b → (l : Listed) → r ≡ Ok l → Count (graph b) from to l.followed
    count b keeps l e =
        let due : following from to s ≡ result (followed_count (graph b) from to ∷ []) = kept_due (λ b. result (followed_count (graph b) from to ∷ [])) s b keeps in
        let is : following from to s ≡ result (l.followed ∷ []) = subst (λ r. CountIs (following from to s) r) e c in
        let same : followed_count (graph b) from to ≡ l.followed = cc in
        subst (λ k. Count (graph b) from to k) same (counts.counts (graph b) from to)
