use mathlib.Core.Path.{refl}
use Rattle.refusal.proofs.NumberLaws.{handed_on}
use Rattle.extents.proofs.Parts.{field_refused, field_over, field_joined}
use Rattle.extents.proofs.with_field.Goals as goal

pub returns-in_err-so : goal.returns-in_err-so
returns-in_err-so g c = rw (handed_on _ c.from_residual.ensures.1) (field_refused _ _ _ _ _ _ c.both.ensures c.in_err-so.was)

pub returns-then-offset-gt-LARGEST : goal.returns-then-offset-gt-LARGEST
returns-then-offset-gt-LARGEST g c = field_over _ _ _ _ _ _ c.both.ensures c.in_ok-so.was _ _ c.offset_of-offset.ensures.value c.if-offset-gt-LARGEST.true _ c.too_large.ensures

pub returns : goal.returns
returns g c = field_joined _ _ _ _ _ _ c.both.ensures c.in_ok-so.was _ _ c.offset_of-offset.ensures.value c.if-offset-gt-LARGEST.false _ _ refl c.max.ensures
