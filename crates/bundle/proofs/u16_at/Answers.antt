-- `bundle::u16_at` meets its contract.
use native.Mathlib.Omega.{arith}
use Rattle.meaning.proofs.Heads.{little_2}
use Rattle.bundle.proofs.u16_at.Goals as goal

pub returns : goal.returns
returns c = omega (arith, c.from_le_bytes.ensures, little_2 c.args.s.now c.args.at)
