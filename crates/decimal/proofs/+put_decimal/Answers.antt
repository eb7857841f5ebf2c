-- `decimal::put_decimal` meets its contract, by recursion on the number.
use native.Mathlib.Omega.{arith}
use mathlib.Core.Path.{ap}
use lib.ListN.{length}
use Rattle.decimal.proofs.DecimalLaws.{decimal_one, decimal_more, decimal_last}
use Rattle.decimal.proofs.Writing.{writes_none, writes_byte, writes_end}
use Rattle.decimal.proofs.+put_decimal.Goals as goal

pub bounds-out-at : goal.bounds-out-at
bounds-out-at t c = omega (arith, ap length (decimal_one _ c.if-n-lt10.true), c.requires)

pub returns-then-n-lt10 : goal.returns-then-n-lt10
returns-then-n-lt10 t c = rw (decimal_one _ c.if-n-lt10.true) (writes_byte _ (writes_none _ (omega (arith, c.requires))) (omega (arith, ap length (decimal_one _ c.if-n-lt10.true), c.requires)))

pub put_decimal-next-requires : goal.put_decimal-next-requires
put_decimal-next-requires t c = (omega (arith, c.decreases), omega (arith, decimal_last _ c.if-n-lt10.false, c.requires))

pub bounds-out-next : goal.bounds-out-next
bounds-out-next t c = omega (arith, writes_end c.put_decimal-next.ensures (omega (arith, c.requires)), c.put_decimal-next.auto, decimal_last _ c.if-n-lt10.false, c.requires)

pub returns : goal.returns
returns t c = rw (decimal_more _ c.if-n-lt10.false) (writes_byte _ c.put_decimal-next.ensures (omega (arith, writes_end c.put_decimal-next.ensures (omega (arith, c.requires)), c.put_decimal-next.auto, decimal_last _ c.if-n-lt10.false, c.requires)))
