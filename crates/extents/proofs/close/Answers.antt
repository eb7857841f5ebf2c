use mathlib.Core.Path.{refl, sym, ◌∙◌}
use Rattle.refusal.proofs.NumberLaws.{handed_on}
use Rattle.extents.proofs.Alignments.{alignment_most, next_is}
use Rattle.extents.proofs.Parts.{close_not, close_refused, close_over, close_rounded}
use Rattle.extents.proofs.close.Goals as goal

pub returns-then-not-is_alignment : goal.returns-then-not-is_alignment
returns-then-not-is_alignment c = close_not _ _ (sym c.if-not-is_alignment.true ∙ c.is_alignment.ensures)

pub returns-in_err-so : goal.returns-in_err-so
returns-in_err-so c = rw (handed_on _ c.from_residual.ensures.1) (close_refused _ _ (sym c.if-not-is_alignment.false ∙ c.is_alignment.ensures) _ c.in_err-so.was)

pub alignment_of-alignment-requires : goal.alignment_of-alignment-requires
alignment_of-alignment-requires c = (alignment_most _ (sym c.if-not-is_alignment.false ∙ c.is_alignment.ensures), c.in_ok-so.so.alignment_fits)

pub returns-then-size-gt-LARGEST : goal.returns-then-size-gt-LARGEST
returns-then-size-gt-LARGEST c = close_over _ _ (sym c.if-not-is_alignment.false ∙ c.is_alignment.ensures) _ c.in_ok-so.was _ _ c.alignment_of-alignment.ensures.value (c.next_multiple_of-size.ensures.value ∙ next_is _ _ c.alignment_of-alignment.ensures.fits.0) c.if-size-gt-LARGEST.true

pub returns : goal.returns
returns c = close_rounded _ _ (sym c.if-not-is_alignment.false ∙ c.is_alignment.ensures) _ c.in_ok-so.was _ _ c.alignment_of-alignment.ensures.value (c.next_multiple_of-size.ensures.value ∙ next_is _ _ c.alignment_of-alignment.ensures.fits.0) c.if-size-gt-LARGEST.false _ refl refl
