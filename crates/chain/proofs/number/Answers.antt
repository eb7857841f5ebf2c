-- `chain::number` meets its contract. The invariant: the ends before i are numbered.
use mathlib.Core.Path.{◌≡◌, ◌∙◌}
use Prim.Native.Nat.{◌*◌}
use native.Mathlib.Omega.{arith}
use Rattle.chain.proofs.Numbers.{name_read, numbering_none, numbering_more, turn_is}
use Rattle.chain.proofs.number.Goals as goal

pub loop-i-init : goal.loop-i-init
loop-i-init c = let e = c.empty.ensures in numbering_none _ _ _ (omega (arith, e.1.size, c.requires.count_in_bounds)) e.0

pub enter-r-requires : goal.enter-r-requires
enter-r-requires c = let i = c.loop-i.invariant in (i.members, omega (arith, i.few, i.size), omega (arith, i.few))

pub loop-i-preserved : goal.loop-i-preserved
loop-i-preserved c = numbering_more c.loop-i.invariant c.loop-i-test.true (c.u16_at-name.ensures ∙ name_read _ _) c.enter-r.ensures c.max-m.ensures

pub returns : goal.returns
returns c = let end : c.loop-i.i ≡ 2 * c.args.count = omega arith in rw (← turn_is c.args.direction, ← end) c.loop-i.invariant
