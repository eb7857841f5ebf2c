use Rattle.demands.proofs.Chained.{one_chain}
use Rattle.demands.proofs.one_chain.Goals as goal

pub returns : goal.returns
returns c = one_chain
