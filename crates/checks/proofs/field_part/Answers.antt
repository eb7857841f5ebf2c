use Rattle.checks.proofs.ChainChecks.{part_one, part_two}
use Rattle.checks.proofs.field_part.Goals as goal

pub returns-in-1 : goal.returns-in-1
returns-in-1 c = part_one _ _ _ c.path_length.ensures _ c.in-1.is c.u16_at.ensures

pub returns-in-2 : goal.returns-in-2
returns-in-2 c = part_two _ _ _ c.path_length.ensures _ c.in-2.is c.u16_at-in-2.ensures
