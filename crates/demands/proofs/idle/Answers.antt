use Rattle.demands.proofs.Shut.{idle}
use Rattle.demands.proofs.idle.Goals as goal

pub returns : goal.returns
returns c = idle
