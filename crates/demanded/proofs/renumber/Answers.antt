use native.Mathlib.Omega.{arith}
use Rattle.demands.proofs.Answering.{renumber_demand}
use Rattle.demanded.proofs.renumber.Goals as goal

pub returns : goal.returns
returns c = renumber_demand _ _ _ _ (λ i. omega (arith, c.type_inv.bundle i)) c.renumber.ensures
