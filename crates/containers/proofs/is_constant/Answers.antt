use Rattle.containers.proofs.Held.{constant_none, constant_noted}
use Rattle.containers.proofs.is_constant.Goals as goal

pub returns-in_default : goal.returns-in_default
returns-in_default c = constant_none c.args.definitions.now.table _ c.in_default.ensures

pub returns : goal.returns
returns c = constant_noted c.args.definitions.now.table _ c.in-Some.ensures c.requires
