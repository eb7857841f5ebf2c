use Rattle.laws.proofs.Gathered.{nested}
use Rattle.laws.proofs.jagged_equations.Goals as goal

pub returns : goal.returns
returns c = nested
