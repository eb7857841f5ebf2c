use mathlib.Core.Path.{◌∙◌}
use Rattle.containers.proofs.Containing.{contains_is}
use Rattle.containers.proofs.contains.Goals as goal

pub returns : goal.returns
returns c e l = c.is_some.ensures ∙ contains_is l c.place_of-place.ensures c.if-place-container.false c.last_lead.ensures.0
