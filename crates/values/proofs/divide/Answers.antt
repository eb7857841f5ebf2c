use lib.Signed.{quot_z}
use mathlib.Core.Path.{ap, ◌∙◌}
use Rattle.values.specs.Meant.{value_meant}
use Rattle.values.proofs.Arithmetic.{zero_divisor, quotient}
use Rattle.values.proofs.divide.Goals as goal

pub returns-then-r-eq0 : goal.returns-then-r-eq0
returns-then-r-eq0 c = zero_divisor quot_z _ _ c.ranges.r c.if-r-eq0.true

pub returns : goal.returns
returns c = ap value_meant c.ok_or.ensures.value ∙ quotient _ _ c.ranges.l c.ranges.r c.if-r-eq0.false _ c.checked_div.ensures
