use Rattle.chain.specs.Index.{Numbering}
use Rattle.chain.proofs.number.Given as goal

abbrev pub invariant-loop-i : goal.invariant-loop-i
invariant-loop-i l = Numbering l.bytes l.at l.turn l.i l.count l.edges l.m
