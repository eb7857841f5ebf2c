use Rattle.std.proofs.Common.{rules}
use Rattle.fixed.proofs.WalkLaws.{name_none, name_kept}
use Rattle.fixed.proofs.measure_name.Goals as goal

pub returns-in_default : goal.returns-in_default
returns-in_default c = name_none _ _ _ (rw c.u16_at-name.ensures at c.in_default.ensures)

pub returns : goal.returns
returns c = name_kept _ _ _ (rw c.u16_at-name.ensures at c.in-Some.ensures) (search rules) _ c.unwrap_or.ensures
