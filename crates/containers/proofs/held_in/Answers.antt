use mathlib.Core.Path.{sym, ◌∙◌}
use Rattle.fields.proofs.Lookups.{defined, undefined, struct_none}
use Rattle.containers.proofs.Held.{held_none, held_last, held_small}
use Rattle.containers.proofs.held_in.Goals as goal

pub returns-in_err-i : goal.returns-in_err-i
returns-in_err-i c = rw c.from_residual.ensures (held_none _ _ _ (sym c.if-is_constant.false ∙ c.is_constant.ensures) (struct_none _ _ (undefined c.args.definitions.now.table _ c.in_err-i.ensures)), tt)

pub returns : goal.returns
returns c = (
  held_last _ _ _ (sym c.if-is_constant.false ∙ c.is_constant.ensures) c.args.definitions.now.table (defined c.args.definitions.now.table c.in_ok-i.ensures) c.requires.2 c.last_lead.ensures.0,
  held_small _ c.requires.1 _ c.last_lead.ensures.1,
)
