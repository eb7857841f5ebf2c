-- `read_chain::set_hops` meets its contract. The invariant: the edges from e on have given their hops.
use Prim.Native.Nat.{◌-◌}
use native.Mathlib.Omega.{arith}
use Rattle.search.proofs.Turns.{hopped, unhopped}
use Rattle.read_chain.proofs.set_hops.Goals as goal

pub loop-e-preserved-then-work-from : goal.loop-e-preserved-then-work-from
loop-e-preserved-then-work-from c = let p = c.requires.indexed.0 in hopped (omega arith) c.loop-e.invariant (omega arith) c.if-work-from.true (omega (arith, p.froms (c.loop-e.e - 1) (omega arith), p.small, c.loop-e.invariant.size))

pub loop-e-preserved : goal.loop-e-preserved
loop-e-preserved c = unhopped (omega arith) c.loop-e.invariant c.if-work-from.false
