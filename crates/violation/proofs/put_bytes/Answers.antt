use native.Mathlib.Omega.{arith}
use Rattle.violation.proofs.Putting.{each_next, each_end, puts_bytes}
use Rattle.violation.proofs.put_bytes.Goals as goal

pub loop-byte-preserved : goal.loop-byte-preserved
loop-byte-preserved c = each_next c.loop-byte.invariant c.loop-byte-test.true c.put_byte-next.ensures.behind c.put_byte-next.ensures

pub returns : goal.returns
returns c = puts_bytes _ (each_end c.loop-byte.invariant (omega arith))
