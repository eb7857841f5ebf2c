use mathlib.Core.Path.{sym, ◌∙◌}
use Rattle.checks.proofs.ChainChecks.{fine}
use Rattle.checks.proofs.ElementChecks.{element_only, element_jagged, element_fine, element_varies}
use Rattle.checks.proofs.check_array_element_type_size.Goals as goal

pub returns-then-jagged-eq1 : goal.returns-then-jagged-eq1
returns-then-jagged-eq1 c = (element_jagged _ _ _ _ c.if-jagged-eq1.true c.check_jagged_array_constraints.ensures.0, c.check_jagged_array_constraints.ensures.1)

pub returns-then-not-type_size_depends_on_field_refs_recursive : goal.returns-then-not-type_size_depends_on_field_refs_recursive
returns-then-not-type_size_depends_on_field_refs_recursive c = (fine _ _ _ (element_fine _ _ _ _ c.if-jagged-eq1.false (sym c.if-not-type_size_depends_on_field_refs_recursive.true ∙ c.type_size_depends_on_field_refs_recursive.ensures.0)), c.type_size_depends_on_field_refs_recursive.ensures.1)

pub returns : goal.returns
returns c = (element_only _ _ c.args.list.now c.set_chain.ensures (element_varies _ _ _ _ c.if-jagged-eq1.false (sym c.if-not-type_size_depends_on_field_refs_recursive.false ∙ c.type_size_depends_on_field_refs_recursive.ensures.0)), c.type_size_depends_on_field_refs_recursive.ensures.1)
