use mathlib.Core.Path.{ap, ◌∙◌}
use Rattle.fixed_meaning.specs.Value.{ranged}
use Rattle.values.specs.Meant.{value_meant}
use Rattle.values.proofs.Arithmetic.{in_range}
use Rattle.values.proofs.Literals.{before_limit, from_limit}
use Rattle.values.proofs.complement_of.Goals as goal

pub returns-then-n-limit : goal.returns-then-n-limit
returns-then-n-limit c = c.plus.ensures ∙ before_limit c.args.least c.ranges.least _ _ c.unsigned_abs-limit.ensures.value c.if-n-limit.true

pub returns : goal.returns
returns c = ap value_meant c.ok_or.ensures.value ∙ in_range _ _ c.checked_add_unsigned.ensures ∙ ap ranged (from_limit c.args.least c.ranges.least _ _ c.unsigned_abs-limit.ensures.value c.requires c.if-n-limit.false)
