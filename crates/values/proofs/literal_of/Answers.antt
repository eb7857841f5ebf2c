use native.Mathlib.Omega.{arith}
use mathlib.Core.Path.{sym, ◌∙◌}
use Rattle.values.proofs.Literals.{unsigned, no_literal}
use Rattle.values.proofs.literal_of.Goals as goal

pub returns-in-0-to-4 : goal.returns-in-0-to-4
returns-in-0-to-4 c = λ n. sym (unsigned 1 n (omega arith)) ∙ unsigned _ n (omega arith)

pub returns-in_default : goal.returns-in_default
returns-in_default c = λ n. no_literal _ n (omega arith)
