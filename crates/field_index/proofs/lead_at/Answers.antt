-- `field_index::lead_at` meets its contract.
use mathlib.Core.Path.{◌∙◌}
use native.Mathlib.Omega.{arith}
use Rattle.field_index.proofs.Leads.{lead_none, lead_some, first_or_count, lead_few}
use Rattle.field_index.proofs.lead_at.Goals as goal

pub returns-in_default : goal.returns-in_default
returns-in_default c = (lead_none _ _ c.shape_at-shape.result c.shape_at-shape.ensures c.in_default.not-TypeRef, omega arith)

pub returns : goal.returns
returns c = (
  lead_some _ _ c.shape_at-shape.result c.shape_at-shape.ensures c.in-TypeRef.is (c.unwrap_or.ensures ∙ first_or_count c.args.definitions.now.table _ _ c.definition_of.ensures),
  omega (arith, lead_few c.args.definitions.now.table _ _ c.definition_of.ensures, c.unwrap_or.ensures),
)
