use native.Mathlib.Omega.{arith}
use Rattle.evaluate.proofs.ValueLaws.{value_refused, value_returned}
use Rattle.evaluate.proofs.value_of.Goals as goal

pub returns-in_err-value : goal.returns-in_err-value
returns-in_err-value c = value_refused _ _ _ c.from_residual.ensures.1 c.in_err-value.ensures

pub returns : goal.returns
returns c = value_returned _ _ (record { sfits = omega arith }) c.in_ok-value.ensures.0
