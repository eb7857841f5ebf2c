use Prim.Native.Nat.{◌/◌, ◌%◌}
use native.Mathlib.Omega.{arith}
use mathlib.Core.Path.{◌≡◌}
use Rattle.violation.proofs.Putting.{puts_both}
use Rattle.violation.proofs.put_two.Goals as goal

pub returns : goal.returns
returns c =
    let high : c.args.value / 256 % 256 ≡ c.args.value / 256 = omega (arith, c.ranges.value.fits) in
    rw (c.to_le_bytes-bytes.ensures, high) at (puts_both c.put_byte-next.ensures c.put_byte.ensures)
