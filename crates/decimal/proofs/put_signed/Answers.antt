use native.Mathlib.Omega.{arith}
use mathlib.Core.Path.{ap}
use lib.ListN.{length, length-set}
use Rattle.decimal.proofs.DecimalLaws.{line_plus, line_minus}
use Rattle.decimal.proofs.Writing.{writes_none, writes_byte, writes_then}
use Rattle.decimal.proofs.put_signed.Goals as goal

pub put_line-requires : goal.put_line-requires
put_line-requires c = omega (arith, ap length (line_plus c.ranges.n c.unsigned_abs-distance.ensures.value c.if-n-ge0.true), c.requires)

pub returns-then-n-ge0 : goal.returns-then-n-ge0
returns-then-n-ge0 c = rw (← line_plus c.ranges.n c.unsigned_abs-distance.ensures.value c.if-n-ge0.true) c.put_line.ensures

pub bounds-out-at : goal.bounds-out-at
bounds-out-at c = omega (arith, ap length (line_minus c.ranges.n c.unsigned_abs-distance.ensures.value c.if-n-ge0.false), c.requires)

pub put_line-requires-2 : goal.put_line-requires-2
put_line-requires-2 c = omega (arith, length-set c.args.out.now c.args.at 45, ap length (line_minus c.ranges.n c.unsigned_abs-distance.ensures.value c.if-n-ge0.false), c.requires)

pub returns : goal.returns
returns c = rw (← line_minus c.ranges.n c.unsigned_abs-distance.ensures.value c.if-n-ge0.false) (writes_then (writes_byte _ (writes_none _ (omega (arith, c.requires))) (omega (arith, ap length (line_minus c.ranges.n c.unsigned_abs-distance.ensures.value c.if-n-ge0.false), c.requires))) c.put_line-2.ensures)
