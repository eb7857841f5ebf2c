-- `bundle::expr_at` meets its contract. The invariant: what is left to read ends as the whole expression does; the bytes that are
-- left fall with each turn and each call. Each way through a turn is a law of `OperandLaws`.
use native.Mathlib.Omega.{arith}
use mathlib.Core.Path.{sym, ap, ◌∙◌}
use Rattle.std.specs.Prelude.{Ok}
use Rattle.refusal.proofs.NumberLaws.{handed_on}
use Rattle.bundle.specs.View.{operands_of}
use Rattle.bundle.proofs.OperandLaws.{reading_start, reading_deep, reading_short, reading_other, reading_one, body_short, body_last, body_next, reading_two, left_on, left_ends, left_refused}
use Rattle.bundle.proofs.+expr_at.Goals as goal

pub loop-level-init : goal.loop-level-init
loop-level-init t c = reading_start _ _ _

pub returns-then-s-next : goal.returns-then-s-next
returns-then-s-next t c = reading_short c.loop-level.invariant c.loop-level-test.true c.if-s-next.true

pub returns-then-s-next-2 : goal.returns-then-s-next-2
returns-then-s-next-2 t c = body_short (record { reading = c.loop-level.invariant; deep = c.loop-level-test.true; there = c.if-s-next.false; operands = c.operands_of.ensures ∙ ap operands_of c.form_of.ensures.form }) _ (c.in_ok-operands.was ∙ ap Ok c.in-None.is) (omega arith)

pub returns-then-n-eq0 : goal.returns-then-n-eq0
returns-then-n-eq0 t c = body_last (record { reading = c.loop-level.invariant; deep = c.loop-level-test.true; there = c.if-s-next.false; operands = c.operands_of.ensures ∙ ap operands_of c.form_of.ensures.form }) _ (c.in_ok-operands.was ∙ ap Ok c.in-None.is) (omega arith) c.if-n-eq0.true

pub bounds-due-n : goal.bounds-due-n
bounds-due-n t c = omega (arith, c.loop-level.invariant.room)

pub loop-level-preserved-in-None : goal.loop-level-preserved-in-None
loop-level-preserved-in-None t c = body_next (record { reading = c.loop-level.invariant; deep = c.loop-level-test.true; there = c.if-s-next.false; operands = c.operands_of.ensures ∙ ap operands_of c.form_of.ensures.form }) _ (c.in_ok-operands.was ∙ ap Ok c.in-None.is) (omega arith) c.if-n-eq0.false

pub loop-level-preserved-in-One : goal.loop-level-preserved-in-One
loop-level-preserved-in-One t c = reading_one (record { reading = c.loop-level.invariant; deep = c.loop-level-test.true; there = c.if-s-next.false; operands = c.operands_of.ensures ∙ ap operands_of c.form_of.ensures.form }) (c.in_ok-operands.was ∙ ap Ok c.in-One.is)

pub loop-level-preserved-then-level-n : goal.loop-level-preserved-then-level-n
loop-level-preserved-then-level-n t c = reading_two (record { reading = c.loop-level.invariant; deep = c.loop-level-test.true; there = c.if-s-next.false; operands = c.operands_of.ensures ∙ ap operands_of c.form_of.ensures.form }) (c.in_ok-operands.was ∙ ap Ok c.in-Two.is) (omega arith) (omega arith)

pub loop-level-smaller : goal.loop-level-smaller
loop-level-smaller t c = omega (arith, left_on (record { reading = c.loop-level.invariant; deep = c.loop-level-test.true; there = c.if-s-next.false; operands = c.operands_of.ensures ∙ ap operands_of c.form_of.ensures.form }) (c.in_ok-operands.was ∙ ap Ok c.in-Two.is) _ (sym c.in_ok-next-in-Two.was ∙ c.expr_at.ensures))

pub loop-level-preserved : goal.loop-level-preserved
loop-level-preserved t c = left_ends (record { reading = c.loop-level.invariant; deep = c.loop-level-test.true; there = c.if-s-next.false; operands = c.operands_of.ensures ∙ ap operands_of c.form_of.ensures.form }) (c.in_ok-operands.was ∙ ap Ok c.in-Two.is) _ (sym c.in_ok-next-in-Two.was ∙ c.expr_at.ensures)

pub returns-in_err-next-in-Two : goal.returns-in_err-next-in-Two
returns-in_err-next-in-Two t c = handed_on _ c.from_residual-in_err-next-in-Two.ensures.1 ∙ left_refused (record { reading = c.loop-level.invariant; deep = c.loop-level-test.true; there = c.if-s-next.false; operands = c.operands_of.ensures ∙ ap operands_of c.form_of.ensures.form }) (c.in_ok-operands.was ∙ ap Ok c.in-Two.is) _ (sym c.in_err-next-in-Two.was ∙ c.expr_at.ensures)

pub returns-in_err-operands : goal.returns-in_err-operands
returns-in_err-operands t c = handed_on _ c.from_residual.ensures.1 ∙ reading_other (record { reading = c.loop-level.invariant; deep = c.loop-level-test.true; there = c.if-s-next.false; operands = c.operands_of.ensures ∙ ap operands_of c.form_of.ensures.form }) _ c.in_err-operands.was

pub returns : goal.returns
returns t c = reading_deep c.loop-level.invariant c.loop-level-test.false
