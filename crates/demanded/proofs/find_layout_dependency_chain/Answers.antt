use native.Mathlib.Omega.{arith}
use Rattle.demands.proofs.Chained.{chain_demand}
use Rattle.demanded.proofs.Counted.{given}
use Rattle.demanded.proofs.find_layout_dependency_chain.Goals as goal

pub returns : goal.returns
returns c = record { demand1 = chain_demand _ _ _ _ _ _ (λ i. omega (arith, c.type_inv.bundle i)) c.find_layout_dependency_chain.ensures.call; followed_given = given _ _ _ _ c.find_layout_dependency_chain.ensures.count }
