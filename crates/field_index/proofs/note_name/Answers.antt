use native.Mathlib.Omega.{arith}
use Rattle.field_index.proofs.Noting.{noted_old, noted_new}
use Rattle.field_index.proofs.note_name.Goals as goal

pub returns-then-r-d : goal.returns-then-r-d
returns-then-r-d c = noted_old c.args.a c.args.n c.args.d c.enter-r.result c.args.k c.enter-r.ensures (omega (arith, c.requires.noted_to.1.few)) c.requires.k_lt_n.2 c.if-r-d.true

pub returns : goal.returns
returns c = noted_new c.args.a c.args.n c.args.d c.enter-r.result c.args.k c.enter-r.ensures (omega (arith, c.requires.noted_to.1.few)) c.requires.k_lt_n.2 c.if-r-d.false
