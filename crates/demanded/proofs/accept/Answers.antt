use native.Mathlib.Omega.{arith}
use Rattle.demands.proofs.Answering.{accept_demand}
use Rattle.demanded.proofs.accept.Goals as goal

pub returns : goal.returns
returns c = accept_demand _ _ (λ i. omega (arith, c.type_inv.bundle i)) c.accept.ensures
