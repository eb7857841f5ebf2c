-- `value_demand::size_value` meets demand 1.
use native.Mathlib.Omega.{arith}
use Rattle.value_demand.proofs.Answering.{value_demand}
use Rattle.value_demand.proofs.size_value.Goals as goal

pub returns : goal.returns
returns c = value_demand _ _ _ (λ i. omega (arith, c.type_inv.bundle i)) c.size_value.ensures
