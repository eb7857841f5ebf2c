use native.Mathlib.Omega.{arith}
use Prim.Native.Nat.{◌-◌, ◌+◌}
use Rattle.evaluate.proofs.Numbers.{reading_start, reading_end, reading_shift, reading_fits, reading_next}
use Rattle.evaluate.proofs.number_at.Goals as goal

pub loop-i-init : goal.loop-i-init
loop-i-init c = reading_start _ _ _

pub overflow_mul-value : goal.overflow_mul-value
overflow_mul-value c = omega (arith, reading_shift _ _ _ _ _ c.loop-i.invariant (omega arith) c.requires.1)

pub returns : goal.returns
returns c = reading_end _ _ _ _ _ c.loop-i.invariant (omega arith)

pub overflow_add-value : goal.overflow_add-value
overflow_add-value c = omega (arith, c.from.ensures, reading_fits _ _ _ _ _ c.loop-i.invariant (omega arith) c.requires.1 (omega (arith, c.type_inv.s (c.args.at + (c.args.w - 1 - c.loop-i.i)))))

pub loop-i-preserved : goal.loop-i-preserved
loop-i-preserved c = rw c.from.ensures (reading_next _ _ _ _ _ c.loop-i.invariant (omega arith) c.requires.1 (omega (arith, c.type_inv.s (c.args.at + (c.args.w - 1 - c.loop-i.i)))))
