use mathlib.Core.Path.{sym, ◌∙◌}
use Rattle.refusal.proofs.NumberLaws.{handed_on}
use Rattle.records.proofs.RecordLaws.{edges_trailing, edges_accepted, edges_refused}
use Rattle.acceptance.proofs.edges_end.Goals as goal

pub returns-then-next-s : goal.returns-then-next-s
returns-then-next-s c = sym (edges_trailing _ _ _ _ (sym c.in_ok-next.was ∙ c.edges_at.ensures) c.if-next-s.true)

pub returns : goal.returns
returns c = sym (edges_accepted _ _ _ _ (sym c.in_ok-next.was ∙ c.edges_at.ensures) c.if-next-s.false)

pub returns-in_err-next : goal.returns-in_err-next
returns-in_err-next c = handed_on _ c.from_residual.ensures.1 ∙ sym (edges_refused _ _ _ _ (sym c.in_err-next.was ∙ c.edges_at.ensures))
