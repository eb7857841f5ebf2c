use Rattle.layout_c.proofs.CallLaws.{fixed_given, fixed_not_given}
use Rattle.layout_c.proofs.layout_fixed_size.Goals as goal

pub returns-in-Ok : goal.returns-in-Ok
returns-in-Ok c = fixed_given c.in-Ok.ensures

pub returns-in-Err : goal.returns-in-Err
returns-in-Err c = fixed_not_given c.in-Err.ensures c.from.ensures
