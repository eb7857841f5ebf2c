use native.Mathlib.Omega.{arith}
use Rattle.violation.proofs.Putting.{each_next, puts_both}
use Rattle.violation.proofs.put_chain.Goals as goal

pub loop-name-preserved : goal.loop-name-preserved
loop-name-preserved c =
    each_next c.loop-name.invariant c.loop-name-test.true (omega (arith, c.put_byte-behind.ensures.behind, c.put_two-next-in-loop-name.ensures.behind))
    (puts_both c.put_byte-behind.ensures c.put_two-next-in-loop-name.ensures)
