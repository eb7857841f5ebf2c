use mathlib.Core.Path.{◌∙◌}
use Rattle.validate.proofs.Writing.{path_name, path_end}
use Rattle.validate.proofs.name_of.Goals as goal

pub returns-then-n-k : goal.returns-then-n-k
returns-then-n-k c = path_end _ _ _ _ c.requires.1 c.if-n-k.true

pub returns : goal.returns
returns c = c.u16_at.ensures ∙ path_name _ _ _ _ c.requires.1 c.if-n-k.false
