-- `size_value::array_value` meets its contract.
use native.Mathlib.Omega.{arith}
use mathlib.Core.Bool.{false≢true}
use mathlib.Core.Path.{refl, sym, ◌∙◌}
use Rattle.bundle.specs.View.{type_form_meant}
use Rattle.bundle.proofs.Parts.{type_opened}
use Rattle.size_value.proofs.Answers.{not_array, size_there, size_start, size_is}
use Rattle.size_value.proofs.array_value.Goals as goal

pub returns-then-not-type_is : goal.returns-then-not-type_is
unfolding type_form_meant
returns-then-not-type_is c = not_array (type_opened _ _ _ _ c.requires refl) c.requires (λ p. false≢true (sym c.if-not-type_is.true ∙ c.type_is.ensures.1 p))

pub overflow_add-at : goal.overflow_add-at
unfolding type_form_meant
overflow_add-at c = omega (arith, size_start (type_opened _ _ _ _ c.requires refl) c.requires (c.type_is.ensures.0 c.if-not-type_is.false))

pub value_of-requires : goal.value_of-requires
unfolding type_form_meant
value_of-requires c = size_there (type_opened _ _ _ _ c.requires refl) c.requires (c.type_is.ensures.0 c.if-not-type_is.false)

pub returns : goal.returns
unfolding type_form_meant
returns c = c.value_of.ensures ∙ size_is (type_opened _ _ _ _ c.requires refl) c.requires (c.type_is.ensures.0 c.if-not-type_is.false)
