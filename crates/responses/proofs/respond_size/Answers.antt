use Rattle.std.proofs.Common.{arith, ℕ, sym, length-take-le}
use lib.ListN.{length-replicate}
use Rattle.decimal.proofs.DecimalLaws.{line_size}
use Rattle.decimal.proofs.Writing.{writes_values}
use Rattle.responses.proofs.Responding.{line_end, passed_on, sized_within, sizes, size_refused}
use Rattle.responses.proofs.respond_size.Goals as goal

pub put_line-second-requires : goal.put_line-second-requires
put_line-second-requires c = omega (arith, line_size 19 c.in_ok-placement.placement.size (omega arith), c.requires)

pub put_line-third-requires : goal.put_line-third-requires
put_line-third-requires c = omega (arith, line_size 19 c.in_ok-placement.placement.alignment (omega arith), line_end (omega arith) (omega arith) c.put_line-second.ensures, c.put_line-second.auto, c.requires)

pub slice_bounds-list-end : goal.slice_bounds-list-end
slice_bounds-list-end c = sized_within (length-replicate {A = ℕ} 8192 0) c.in_ok-placement.ensures

pub slice_bounds-write_numbers-end : goal.slice_bounds-write_numbers-end
slice_bounds-write_numbers-end c = sym (length-take-le c.in_ok-placement.placement.offsets c.fixed_size.new.offsets (sized_within (length-replicate {A = ℕ} 8192 0) c.in_ok-placement.ensures))

pub write_numbers-requires : goal.write_numbers-requires
write_numbers-requires c =
    let n = sized_within (length-replicate {A = ℕ} 8192 0) c.in_ok-placement.ensures in
    omega (arith, n, length-take-le c.in_ok-placement.placement.offsets c.fixed_size.new.offsets n, line_end (omega arith) (omega arith) c.put_line-second.ensures, line_end (omega arith) c.put_line-second.ensures.room c.put_line-third.ensures, c.put_line-second.auto, c.put_line-third.auto, length-replicate {A = ℕ} 8192 0, c.fixed_size.auto, c.requires)

pub returns : goal.returns
returns c = sizes (length-replicate {A = ℕ} 8192 0) (rw c.from.ensures at c.in_ok-placement.ensures) c.put_line-second.ensures c.put_line-third.ensures (writes_values _ c.write_numbers.ensures)

pub returns-in_err-placement : goal.returns-in_err-placement
returns-in_err-placement c = passed_on _ _ _ c.from_residual.ensures.1 (size_refused (length-replicate {A = ℕ} 8192 0) (rw c.from.ensures at c.in_err-placement.ensures))
