use Rattle.violation.proofs.Putting.{Each, link}
use Rattle.violation.proofs.put_chain.Given as goal

abbrev pub invariant-loop-name : goal.invariant-loop-name
invariant-loop-name l = Each link 3 l.chain l.initial.out l.initial.next l.out l.next l.name-index
