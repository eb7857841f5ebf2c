use Rattle.chain.specs.Index.{Linking}
use Rattle.chain.proofs.link.Given as goal

abbrev pub invariant-loop-e : goal.invariant-loop-e
invariant-loop-e l = Linking l.count l.initial.edges l.e l.edges
