-- `sizes::is_constant_to` meets its contract. A scan over the expression finds a field reference or not.
use Rattle.sizes.proofs.ReferenceLaws.{constant_none}
use Rattle.sizes.proofs.is_constant_to.Goals as goal

pub returns : goal.returns
returns c = constant_none _ _ _ _ c.requires.1 _ (rw c.next_reference.ensures at c.is_none.ensures)
