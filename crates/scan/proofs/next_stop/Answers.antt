-- `scan::next_stop` meets its contract: no record before this one stops the walk.
use native.Mathlib.Omega.{arith}
use mathlib.Core.Path.{sym, ◌∙◌}
use Rattle.scan.proofs.ScanLaws.{passing_start, passing_end, passing_there, passing_stop, passing_less, passing_next}
use Rattle.scan.proofs.next_stop.Goals as goal

pub loop-next-init : goal.loop-next-init
loop-next-init c = passing_start _ _ c.requires

pub piece_of-requires : goal.piece_of-requires
piece_of-requires c = passing_there _ _ c.loop-next.invariant c.loop-next-test.true c.form_of.ensures.form

pub returns-in_default : goal.returns-in_default
returns-in_default c = passing_stop _ _ c.loop-next.invariant c.loop-next-test.true c.form_of.ensures.form (sym c.in_default.is ∙ c.piece_of.ensures)

pub overflow_add-next : goal.overflow_add-next
overflow_add-next c = omega (arith, (passing_less _ _ c.loop-next.invariant c.loop-next-test.true c.form_of.ensures.form (sym c.in-Some.is ∙ c.piece_of.ensures)).1)

pub loop-next-smaller : goal.loop-next-smaller
loop-next-smaller c = omega (arith, c.loop-next-test.true, (passing_less _ _ c.loop-next.invariant c.loop-next-test.true c.form_of.ensures.form (sym c.in-Some.is ∙ c.piece_of.ensures)).0)

pub loop-next-preserved : goal.loop-next-preserved
loop-next-preserved c = passing_next _ _ c.loop-next.invariant c.loop-next-test.true c.form_of.ensures.form (sym c.in-Some.is ∙ c.piece_of.ensures)

pub returns : goal.returns
returns c = passing_end _ _ c.loop-next.invariant c.loop-next-test.false
