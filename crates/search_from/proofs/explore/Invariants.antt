use Rattle.std.specs.Prelude.{◌-◌, ◌≡◌}
use Rattle.chain.specs.Index.{names_in}
use Rattle.search_from.specs.Work.{long_in, Exploring}
use Rattle.search_from.proofs.explore.Given as goal

abbrev pub invariant-loop-head : goal.invariant-loop-head
invariant-loop-head l = Exploring l.count l.edges l.from l.work l.n l.head 0 × (long_in l.work l.to ≡ 0)

abbrev pub decreases-loop-head : goal.decreases-loop-head
decreases-loop-head l = names_in l.edges - l.head
