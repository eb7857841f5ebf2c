use Rattle.laws.proofs.Gathered.{sized}
use Rattle.laws.proofs.size_equations.Goals as goal

pub returns : goal.returns
returns c = sized
