use Rattle.std.specs.Prelude.{ℕ, ◌-◌}
use Rattle.search.specs.Work.{Paused}
use Rattle.search.proofs.Turns.{Following}
use Rattle.search.proofs.follow.Given as goal

abbrev pub invariant-loop-e : goal.invariant-loop-e
invariant-loop-e l = (b : ℕ) → Paused l.count l.edges b l.initial.work → Following l.count l.edges b l.work l.n l.head l.x l.far l.e

abbrev pub decreases-loop-e : goal.decreases-loop-e
decreases-loop-e l = l.count - l.e
