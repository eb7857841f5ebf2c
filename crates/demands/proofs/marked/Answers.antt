use Rattle.demands.proofs.Examples.{marked}
use Rattle.demands.proofs.marked.Goals as goal

pub returns : goal.returns
returns c = marked
