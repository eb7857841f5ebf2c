use mathlib.Core.Path.{ap, ◌∙◌}
use Rattle.refusal.proofs.NumberLaws.{handed_on}
use Rattle.bundle.specs.Opened.{answer_meant}
use Rattle.bundle.proofs.AnswerLaws.{accepts, turns_down}
use Rattle.acceptance.proofs.accept.Goals as goal

pub returns-in_err-open : goal.returns-in_err-open
returns-in_err-open c = ap answer_meant (handed_on _ c.from_residual.ensures.1) ∙ turns_down _ _ c.in_err-open.ensures

pub returns : goal.returns
returns c = accepts _ _ _ c.in_ok-open.ensures
