use lib.Signed.{rem_z}
use Rattle.values.proofs.Arithmetic.{zero_divisor, remainder}
use Rattle.values.proofs.remainder.Goals as goal

pub returns-then-r-eq0 : goal.returns-then-r-eq0
returns-then-r-eq0 c = zero_divisor rem_z _ _ c.ranges.r c.if-r-eq0.true

pub returns : goal.returns
returns c = remainder _ _ c.ranges.l c.ranges.r c.if-r-eq0.false _ c.wrapping_rem.type_inv c.wrapping_rem.ensures
