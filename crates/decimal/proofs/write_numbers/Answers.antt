use Rattle.std.proofs.Common.{sym, append-nil, take_all, arith, ◌+◌, length}
use Rattle.decimal.specs.Decimal.{lines}
use Rattle.decimal.proofs.DecimalLaws.{line_within}
use Rattle.decimal.proofs.Writing.{writes_end, room_more, lines_next}
use Rattle.decimal.proofs.write_numbers.Goals as goal

pub loop-number-init : goal.loop-number-init
unfolding lines
loop-number-init g c = record { writes = record { room = omega (arith, c.requires); places = sym (append-nil _) }; far = omega arith }

pub put_line-at-requires : goal.put_line-at-requires
put_line-at-requires g c =
    omega (
      arith,
      c.requires,
      c.loop-number.invariant.far,
      c.loop-number.auto.out,
      line_within g.T.Number.digits c.wide.result c.wide.ensures.fits.0 c.wide.ensures.fits.1,
      room_more (g.T.Number.digits + 1) c.loop-number.number-index (length c.args.list.now) c.loop-number-test.true,
    )

pub loop-number-preserved : goal.loop-number-preserved
loop-number-preserved g c =
    record {
      writes = lines_next g.T.Number.value c.args.list.now c.loop-number.invariant.writes c.loop-number-test.true c.number-item.is c.wide.ensures.same c.put_line-at.ensures;
      far = omega (
        arith,
        c.loop-number.invariant.far,
        writes_end c.put_line-at.ensures c.loop-number.invariant.writes.room,
        line_within g.T.Number.digits c.wide.result c.wide.ensures.fits.0 c.wide.ensures.fits.1,
      );
    }

pub returns : goal.returns
returns g c = rw (← take_all c.loop-number.number-index c.args.list.now (omega (arith, c.loop-number-test.false))) c.loop-number.invariant.writes
