-- `fixed_demand::fixed_size` meets demand 1.
use native.Mathlib.Omega.{arith}
use Rattle.fixed_demand.proofs.Answering.{fixed_demand}
use Rattle.fixed_demand.proofs.fixed_size.Goals as goal

pub returns : goal.returns
returns c = fixed_demand _ _ _ _ _ (λ i. omega (arith, c.type_inv.bundle i)) c.fixed_size.ensures
