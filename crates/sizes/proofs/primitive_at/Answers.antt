-- `sizes::primitive_at` meets its contract.
use Rattle.std.specs.Prelude.{Some}
use mathlib.Core.Bool.{false≢true}
use mathlib.Core.Path.{refl, sym, ap, ◌∙◌}
use Rattle.meaning.specs.Kinds.{Primitive}
use Rattle.bundle.specs.View.{type_form_meant}
use Rattle.bundle.proofs.Parts.{type_opened}
use Rattle.sizes.specs.Paths.{size_shown}
use Rattle.sizes.proofs.PrimitiveLaws.{primitive_by_lem, primitive_not}
use Rattle.sizes.proofs.primitive_at.Goals as goal

pub returns-then-not-type_is : goal.returns-then-not-type_is
unfolding type_form_meant
returns-then-not-type_is c = sym (primitive_not (type_opened _ _ _ _ c.requires refl) c.requires (λ p. false≢true (sym c.if-not-type_is.true ∙ c.type_is.ensures.1 p)))

pub get_primitive_size-requires : goal.get_primitive_size-requires
unfolding type_form_meant
get_primitive_size-requires c = c.type_is.ensures.0 c.if-not-type_is.false

pub returns : goal.returns
unfolding type_form_meant
returns c = ap Some c.get_primitive_size.ensures ∙ sym (ap size_shown (primitive_by_lem (type_opened _ _ _ _ c.requires refl) c.requires Primitive (c.type_is.ensures.0 c.if-not-type_is.false)))
