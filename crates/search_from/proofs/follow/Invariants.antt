use Rattle.std.specs.Prelude.{ℕ, ◌-◌, ◌≡◌}
use Rattle.search_from.specs.Work.{long_in, Exploring}
use Rattle.search_from.proofs.Turns.{Following}
use Rattle.search_from.proofs.follow.Given as goal

abbrev pub invariant-loop-e : goal.invariant-loop-e
invariant-loop-e l = ((a : ℕ) → Exploring l.count l.edges a l.initial.work l.len l.head 0 → Following l.count l.edges a l.work l.n l.head l.x l.long l.e) × (long_in l.work l.to ≡ 0)

abbrev pub decreases-loop-e : goal.decreases-loop-e
decreases-loop-e l = l.count - l.e
