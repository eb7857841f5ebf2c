use Rattle.search.proofs.Reading.{Filling}
use Rattle.read_chain.proofs.fill.Given as goal

abbrev pub invariant-loop-i : goal.invariant-loop-i
invariant-loop-i l = Filling l.count l.edges l.initial.work l.x l.n l.work l.y l.i
