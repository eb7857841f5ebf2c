use mathlib.Core.Path.{refl}
use Rattle.fixed_meaning.specs.Extent.{array_of, repeated}
use Rattle.refusal.proofs.NumberLaws.{handed_on}
use Rattle.extents.specs.Meant.{extent_meant, count_meant}
use Rattle.extents.proofs.Parts.{varies, repeat_over, repeat_within}
use Rattle.extents.proofs.array_of.Goals as goal

pub returns-in_default : goal.returns-in_default
unfolding count_meant array_of
returns-in_default c = rw (c.in_default.is, c.vary.ensures) (varies _)

pub returns-in_err-e : goal.returns-in_err-e
unfolding count_meant array_of extent_meant repeated
returns-in_err-e c = rw (handed_on _ c.from_residual.ensures.1, c.in-Some.is, c.in_err-e.was)

pub returns-then-size-gt-LARGEST : goal.returns-then-size-gt-LARGEST
unfolding count_meant array_of
returns-then-size-gt-LARGEST c = rw (c.in-Some.is, c.in_ok-e.was) (repeat_over _ _ _ c.saturating_mul-size.ensures c.if-size-gt-LARGEST.true)

pub returns : goal.returns
unfolding count_meant array_of
returns c = rw (c.in-Some.is, c.in_ok-e.was) (repeat_within _ _ _ c.saturating_mul-size.ensures c.if-size-gt-LARGEST.false _ refl refl)
