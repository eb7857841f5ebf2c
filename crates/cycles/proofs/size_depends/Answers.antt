use mathlib.Core.Path.{refl, ◌∙◌}
use native.Mathlib.Omega.{arith}
use Rattle.fields.proofs.Lookups.{defined, undefined}
use Rattle.checks.proofs.ChainChecks.{size_is, size_none}
use Rattle.cycles.proofs.size_depends.Goals as goal

pub returns-in_default : goal.returns-in_default
returns-in_default c = (size_none _ _ (undefined c.args.answers.now.definitions.table _ c.in_default.ensures), refl)

pub type_size_depends_on_field_refs-requires : goal.type_size_depends_on_field_refs-requires
type_size_depends_on_field_refs-requires c = omega (arith, c.in-Some.ensures.1, c.args.answers.now.definitions.table.count)

pub returns : goal.returns
returns c = (c.type_size_depends_on_field_refs.ensures.0 ∙ size_is (defined c.args.answers.now.definitions.table c.in-Some.ensures), c.type_size_depends_on_field_refs.ensures.1)
