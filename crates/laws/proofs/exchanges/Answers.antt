use Rattle.laws.proofs.Gathered.{exchanged}
use Rattle.laws.proofs.exchanges.Goals as goal

pub returns : goal.returns
returns c = exchanged
