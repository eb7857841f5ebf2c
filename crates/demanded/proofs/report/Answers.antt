use native.Mathlib.Omega.{arith}
use Rattle.demands.proofs.Answering.{report_demand}
use Rattle.demanded.proofs.report.Goals as goal

pub returns : goal.returns
returns c = report_demand _ _ _ _ (λ i. omega (arith, c.type_inv.bundle i)) c.report.ensures
