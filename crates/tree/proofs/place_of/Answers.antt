-- `tree::place_of` meets its contract.
use Rattle.tree.proofs.Growing.{place_at}
use Rattle.tree.proofs.place_of.Goals as goal

pub returns : goal.returns
returns c = place_at c.requires c.search.result c.search.ensures c.ok.ensures.value
