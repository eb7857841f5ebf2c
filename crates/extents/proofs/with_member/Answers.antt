use Rattle.refusal.proofs.NumberLaws.{handed_on}
use Rattle.extents.proofs.Parts.{member_refused, member_joined}
use Rattle.extents.proofs.with_member.Goals as goal

pub returns-in_err-so : goal.returns-in_err-so
returns-in_err-so g c = rw (handed_on _ c.from_residual.ensures.1) (member_refused _ _ _ _ _ c.both.ensures c.in_err-so.was)

pub returns : goal.returns
returns g c = member_joined _ _ _ _ _ _ c.both.ensures c.in_ok-so.was _ _ c.max.ensures c.max-2.ensures
