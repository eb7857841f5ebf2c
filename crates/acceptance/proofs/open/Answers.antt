use mathlib.Core.Path.{sym, ◌∙◌}
use Rattle.refusal.proofs.NumberLaws.{handed_on}
use Rattle.bundle.proofs.AnswerLaws.{due_refused, due_circle}
use Rattle.acceptance.proofs.open.Goals as goal

pub returns-in_err-layout : goal.returns-in_err-layout
returns-in_err-layout c = rw (handed_on _ c.from_residual.ensures.1) (due_refused _ _ c.in_err-layout.ensures)

pub invariant_of-definitions : goal.invariant_of-definitions
invariant_of-definitions c = record { table = c.in_ok-layout.ensures.table }

pub returns-then-circle : goal.returns-then-circle
returns-then-circle c = due_circle c.in_ok-layout.ensures (sym c.if-circle.true ∙ c.circle.ensures)

pub returns : goal.returns
returns c = (c.in_ok-layout.ensures, sym (sym c.if-circle.false ∙ c.circle.ensures))
