use mathlib.Core.Path.{refl, sym, ◌∙◌}
use Rattle.checks.proofs.ChainChecks.{fine}
use Rattle.checks.proofs.ElementChecks.{nested_only, jagged_kind, jagged_fine, jagged_nested}
use Rattle.checks.proofs.check_jagged_array_constraints.Goals as goal

pub returns-then-is_some : goal.returns-then-is_some
returns-then-is_some c = (jagged_kind _ _ _ c.check_jagged_element_kind-kind.ensures (sym c.is_some.ensures ∙ c.if-is_some.true), refl)

pub returns-then-not-type_contains_jagged_array : goal.returns-then-not-type_contains_jagged_array
returns-then-not-type_contains_jagged_array c = (fine _ _ _ (jagged_fine _ _ _ c.check_jagged_element_kind-kind.ensures (sym c.is_some.ensures ∙ c.if-is_some.false) (sym c.if-not-type_contains_jagged_array.true ∙ c.type_contains_jagged_array.ensures.0)), c.type_contains_jagged_array.ensures.1)

pub returns : goal.returns
returns c = (nested_only _ _ c.check_jagged_element_kind-kind.new.list c.set_chain.ensures (jagged_nested _ _ _ c.check_jagged_element_kind-kind.ensures (sym c.is_some.ensures ∙ c.if-is_some.false) (sym c.if-not-type_contains_jagged_array.false ∙ c.type_contains_jagged_array.ensures.0)), c.type_contains_jagged_array.ensures.1)
