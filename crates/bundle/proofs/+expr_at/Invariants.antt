use Prim.Native.Nat.{◌-◌}
use lib.ListN.{length}
use Rattle.bundle.proofs.OperandLaws.{Reading}
use Rattle.bundle.proofs.+expr_at.Given as goal

abbrev pub decreases-expr_at : goal.decreases-expr_at
decreases-expr_at l = length l.s.now - l.at

abbrev pub invariant-loop-level : goal.invariant-loop-level
invariant-loop-level l = Reading l.s l.at l.depth l.due l.n l.level l.next

abbrev pub decreases-loop-level : goal.decreases-loop-level
decreases-loop-level l = length l.s - l.next
