-- `bundle::skip_bytes` meets its contract: its test is that of `due`.
use Prim.Native.Nat.{◌+◌, ◌≤◌, ◌<◌}
use native.Mathlib.Omega.{arith}
use lib.ListN.{length}
use Rattle.meaning.proofs.Readings.{due_ok, due_short}
use Rattle.bundle.proofs.skip_bytes.Goals as goal

pub returns-then-n-s : goal.returns-then-n-s
returns-then-n-s c =
    let a = c.args in
    let h : a.at + a.n ≤ length a.s.now = omega arith in
    rw (due_ok a.n a.at a.s.now h)

pub returns-else-n-s : goal.returns-else-n-s
returns-else-n-s c =
    let a = c.args in
    let h : length a.s.now < a.at + a.n = omega arith in
    rw (due_short a.n a.at a.s.now h)
