use Rattle.search.specs.Work.{Hopped}
use Rattle.read_chain.proofs.set_hops.Given as goal

abbrev pub invariant-loop-e : goal.invariant-loop-e
invariant-loop-e l = Hopped l.count l.edges l.initial.work l.e l.work
