-- The laws of the count, gathered.
use Prim.Native.Nat.{ℕ}
use mathlib.Core.Path.{◌≡◌, refl, sym, ap, ◌∙◌, subst}
use lib.ListN.{length}
use Rattle.meaning.specs.Chain.{Graph}
use Rattle.followed.specs.Followed.{reachable, followed_names, followed_count}
use Rattle.followed.specs.Laws.{Many, Count, Sooner, Counts}
use Rattle.followed.proofs.DistinctLists.{same_size, once_distinct, distinct_once}
use Rattle.followed.proofs.FirstWalks.{sooner_total, sooner_trans, sooner_irrefl}
use Rattle.followed.proofs.FollowedLaws.{reachable_iff, reachable_distinct, followed_iff, followed_distinct, reachable_at_most, followed_at_most, followed_all, start_followed, end_not_followed, none_followed}
use Rattle.followed.proofs.FollowedExchanges.{count_exchange}

-- how many have a property is one number
many_one : {P : ℕ → Type 0} {j k : ℕ} → Many P j → Many P k → j ≡ k
many_one m n =
    sym m.size
    ∙ same_size m.names n.names (once_distinct m.names m.once) (once_distinct n.names n.once)
    (λ x i. (n.all x).1 ((m.all x).0 i)) (λ x i. (m.all x).1 ((n.all x).0 i))
    ∙ n.size

count : (g : Graph) (a b : ℕ) → Count g a b (followed_count g a b)
unfolding followed_count
count g a b = record { names = followed_names g a b; once = distinct_once (followed_names g a b) (followed_distinct g a b); all = followed_iff g a b; size = refl }

pub counts : Counts
unfolding followed_count
counts = record {
  counts = count;
  one_count = λ g a b j k m n. many_one m n;
  total = sooner_total;
  strict = λ g a x y z s t. (sooner_trans g s t, λ e. sooner_irrefl g (subst (λ w. Sooner g a w z) e (sooner_trans g s t)));
  reached = λ g a. record { names = reachable g a; once = distinct_once (reachable g a) (reachable_distinct g a); all = reachable_iff g a; size = refl };
  at_most = followed_at_most;
  few = reachable_at_most;
  self = none_followed;
  start = start_followed;
  not_the_end = end_not_followed;
  all = λ g a b no_chain. ap length (followed_all g a b no_chain);
  exchange = count_exchange;
}
