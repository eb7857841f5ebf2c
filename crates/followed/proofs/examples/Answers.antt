use Rattle.followed.proofs.Computed.{computed}
use Rattle.followed.proofs.examples.Goals as goal

pub returns : goal.returns
returns c = computed
