use native.Mathlib.Omega.{arith}
use mathlib.Core.Bool.{false≢true}
use mathlib.Core.Path.{refl, sym, ◌∙◌}
use Rattle.bundle.specs.View.{type_form_meant}
use Rattle.bundle.proofs.TypeTrees.{type_deep}
use Rattle.bundle.proofs.Parts.{type_opened, enum_count, tag_read, enum_parts}
use Rattle.bundle.proofs.Heads.{count_refused}
use Rattle.sizes.proofs.ReferenceLaws.{expr_no}
use Rattle.sizes.proofs.PrimitiveLaws.{constant_enum_not, constant_few, constant_more}
use Rattle.sizes.proofs.is_enum_with_constant_size_variants.Goals as goal

pub returns-then-not-type_is : goal.returns-then-not-type_is
unfolding type_form_meant
returns-then-not-type_is c = sym (constant_enum_not (type_opened _ _ _ _ c.requires refl) c.requires (λ p. false≢true (sym c.if-not-type_is.true ∙ c.type_is.ensures.1 p)))

pub returns-in_default : goal.returns-in_default
unfolding type_form_meant
returns-in_default c = absurd (count_refused _ _ _ (enum_count (type_opened _ _ _ _ c.requires refl) c.requires (c.type_is.ensures.0 c.if-not-type_is.false)) (sym c.in_default.is ∙ c.count_at.ensures))

pub overflow_sub-depth : goal.overflow_sub-depth
overflow_sub-depth c = omega (arith, type_deep _ _ _ c.requires)

pub returns-in_default-expr_at : goal.returns-in_default-expr_at
unfolding type_form_meant
returns-in_default-expr_at c = absurd (expr_no _ _ _ _ (tag_read (type_opened _ _ _ _ c.requires refl) c.requires (c.type_is.ensures.0 c.if-not-type_is.false) _ _ (sym c.in-Ok.is ∙ c.count_at.ensures)) (sym c.in_default-expr_at.is ∙ c.expr_at.ensures))

pub returns-then-n-lt2 : goal.returns-then-n-lt2
unfolding type_form_meant
returns-then-n-lt2 c = sym (constant_few (enum_parts (type_opened _ _ _ _ c.requires refl) c.requires (c.type_is.ensures.0 c.if-not-type_is.false) _ _ (sym c.in-Ok.is ∙ c.count_at.ensures) _ (sym c.in-Ok-expr_at.is ∙ c.expr_at.ensures)) c.if-n-lt2.true)

pub overflow_sub-depth-2 : goal.overflow_sub-depth-2
overflow_sub-depth-2 c = omega (arith, type_deep _ _ _ c.requires)

pub one_size-requires : goal.one_size-requires
unfolding type_form_meant
one_size-requires c = (enum_parts (type_opened _ _ _ _ c.requires refl) c.requires (c.type_is.ensures.0 c.if-not-type_is.false) _ _ (sym c.in-Ok.is ∙ c.count_at.ensures) _ (sym c.in-Ok-expr_at.is ∙ c.expr_at.ensures)).reads

pub returns : goal.returns
unfolding type_form_meant
returns c = c.one_size.ensures ∙ constant_more (enum_parts (type_opened _ _ _ _ c.requires refl) c.requires (c.type_is.ensures.0 c.if-not-type_is.false) _ _ (sym c.in-Ok.is ∙ c.count_at.ensures) _ (sym c.in-Ok-expr_at.is ∙ c.expr_at.ensures)) (omega arith)
