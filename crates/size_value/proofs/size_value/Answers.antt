-- `size_value::size_value` meets its contract: what the bytes are refused for, or what is due to the bundle that they are.
use mathlib.Core.Path.{ap, ◌∙◌}
use Rattle.refusal.proofs.NumberLaws.{handed_on}
use Rattle.values.specs.Meant.{value_meant}
use Rattle.size_value.proofs.Answers.{opened_call, refused_call}
use Rattle.size_value.proofs.size_value.Goals as goal

pub returns-in_err-layout : goal.returns-in_err-layout
returns-in_err-layout c = ap value_meant (handed_on _ c.from_residual.ensures.1) ∙ refused_call _ _ _ c.in_err-layout.ensures

pub returns : goal.returns
returns c = opened_call _ c.in_ok-layout.ensures c.value_opened.ensures
