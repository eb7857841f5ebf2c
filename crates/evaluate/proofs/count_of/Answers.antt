use native.Mathlib.Omega.{arith}
use mathlib.Core.Path.{sym, ap, ◌∙◌}
use Rattle.extents.specs.Meant.{count_meant}
use Rattle.evaluate.proofs.ValueLaws.{no_count, count_is}
use Rattle.evaluate.proofs.count_of.Goals as goal

pub returns-in_err-value : goal.returns-in_err-value
returns-in_err-value c = ap count_meant c.from_residual.ensures ∙ no_count _ _ c.value_of.ensures (sym c.ok.ensures.value ∙ c.in_err-value.was)

pub returns : goal.returns
returns c = ap count_meant c.ok-2.ensures.value ∙ count_is _ _ _ _ c.value_of.ensures (sym c.ok.ensures.value ∙ c.in_ok-value.was) (record { sfits = omega arith }) c.try_from.ensures
