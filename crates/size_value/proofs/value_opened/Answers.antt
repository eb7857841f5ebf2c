-- `size_value::value_opened` meets its contract.
use mathlib.Core.Path.{◌∙◌}
use Rattle.size_value.proofs.Answers.{opened_none, opened_type}
use Rattle.size_value.proofs.value_opened.Goals as goal

pub returns-then-definitions-definition : goal.returns-then-definitions-definition
returns-then-definitions-definition c = opened_none c.args.definitions.now.table _ c.if-definitions-definition.true

pub returns : goal.returns
returns c = c.array_value.ensures ∙ opened_type c.args.definitions.now.table _ c.if-definitions-definition.false
