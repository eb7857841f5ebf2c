use native.Mathlib.Omega.{arith}
use Rattle.responses.proofs.Responding.{value_size, passed_on, values, value_refused}
use Rattle.responses.proofs.respond_value.Goals as goal

pub put_signed-requires : goal.put_signed-requires
put_signed-requires c = omega (arith, value_size c.in_ok-value.value (record { sfits = omega arith }), c.requires)

pub returns : goal.returns
returns c = values (rw c.from.ensures at c.in_ok-value.ensures) (record { sfits = omega arith }) c.put_signed.ensures

pub returns-in_err-value : goal.returns-in_err-value
returns-in_err-value c = passed_on _ _ _ c.from_residual.ensures.1 (value_refused _ (rw c.from.ensures at c.in_err-value.ensures))
