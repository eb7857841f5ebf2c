use Rattle.laws.proofs.Computed.{computed}
use Rattle.laws.proofs.examples.Goals as goal

pub returns : goal.returns
returns c = computed
