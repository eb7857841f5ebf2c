use native.Mathlib.Omega.{arith}
use Rattle.decimal.specs.Decimal.{lines}
use Rattle.decimal.proofs.DecimalLaws.{line_length}
use Rattle.decimal.proofs.Writing.{writes_byte, writes_end}
use Rattle.decimal.proofs.put_line.Goals as goal

pub put_decimal-next-requires : goal.put_decimal-next-requires
put_decimal-next-requires c = omega (arith, line_length c.args.n, c.requires)

pub bounds-out-next : goal.bounds-out-next
bounds-out-next c = omega (arith, line_length c.args.n, c.requires, writes_end c.put_decimal-next.ensures (omega (arith, c.requires)), c.put_decimal-next.auto)

pub returns : goal.returns
unfolding lines
returns c = writes_byte _ c.put_decimal-next.ensures (omega (arith, line_length c.args.n, c.requires, writes_end c.put_decimal-next.ensures (omega (arith, c.requires)), c.put_decimal-next.auto))
