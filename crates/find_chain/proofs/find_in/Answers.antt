-- `find_chain::find_in` meets its contract: what is found over prepared edges is found over those in the bytes.
use Rattle.find_chain.proofs.Answering.{lists_prepared}
use Rattle.find_chain.proofs.find_in.Goals as goal

pub returns : goal.returns
returns g c = lists_prepared c.prepare.ensures _ _ c.find.ensures
