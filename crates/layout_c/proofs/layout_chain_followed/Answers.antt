use Rattle.layout_c.proofs.CallLaws.{chain_given, chain_not_given}
use Rattle.layout_c.proofs.layout_chain_followed.Goals as goal

pub returns-in-Ok : goal.returns-in-Ok
returns-in-Ok c = chain_given c.in-Ok.ensures

pub returns-in-Err : goal.returns-in-Err
returns-in-Err c = chain_not_given c.in-Err.ensures c.from.ensures
