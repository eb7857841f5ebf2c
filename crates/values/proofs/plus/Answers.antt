use mathlib.Core.Path.{ap, ◌∙◌}
use Rattle.values.specs.Meant.{value_meant}
use Rattle.values.proofs.Arithmetic.{converted}
use Rattle.values.proofs.plus.Goals as goal

pub returns : goal.returns
returns c = ap value_meant c.or.ensures ∙ converted _ _ c.try_from.ensures
