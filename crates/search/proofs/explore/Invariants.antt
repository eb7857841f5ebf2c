use Rattle.std.specs.Prelude.{ℕ, ◌-◌}
use Rattle.chain.specs.Index.{names_in}
use Rattle.search.specs.Work.{next_in, Measured}
use Rattle.search.proofs.explore.Given as goal

abbrev pub invariant-loop-work : goal.invariant-loop-work
invariant-loop-work l = (to : ℕ) → Measured l.count l.edges to l.initial.work → Measured l.count l.edges to l.work

abbrev pub decreases-loop-work : goal.decreases-loop-work
decreases-loop-work l = names_in l.edges - next_in l.count l.work
