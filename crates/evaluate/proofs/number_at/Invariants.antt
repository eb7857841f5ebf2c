use Rattle.evaluate.proofs.Numbers.{Reading}
use Rattle.evaluate.proofs.number_at.Given as goal

abbrev pub invariant-loop-i : goal.invariant-loop-i
invariant-loop-i l = Reading l.s l.at l.w l.value l.i
