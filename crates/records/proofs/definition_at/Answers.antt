use mathlib.Core.Path.{sym, ◌∙◌}
use Rattle.refusal.proofs.NumberLaws.{handed_on}
use Rattle.records.proofs.RecordLaws.{definition_refused}
use Rattle.records.proofs.definition_at.Goals as goal

pub returns-in_err-body : goal.returns-in_err-body
returns-in_err-body c = handed_on _ c.from_residual.ensures.1 ∙ sym (definition_refused _ _ _ (sym c.in_err-body.was ∙ c.opening_at.ensures))
