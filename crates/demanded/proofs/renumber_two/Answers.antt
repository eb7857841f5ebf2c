use native.Mathlib.Omega.{arith}
use Rattle.demands.proofs.Renumbered.{alike_demand}
use Rattle.demanded.proofs.renumber_two.Goals as goal

pub returns : goal.returns
returns c = alike_demand _ _ _ _ _ _ _ _ (λ i. omega (arith, c.type_inv.one i)) (λ i. omega (arith, c.type_inv.another i)) c.renumber-first.ensures c.renumber-second.ensures
