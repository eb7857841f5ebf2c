use Rattle.fixed_laws.proofs.Evaluating.{values}
use Rattle.fixed_laws.proofs.values.Goals as goal

pub returns : goal.returns
returns c = values
