-- `fields::field_at` meets its contract.
use Rattle.fields.proofs.ShapeLaws.{field_reads, field_is}
use Rattle.fields.proofs.field_at.Goals as goal

pub type_end-requires : goal.type_end-requires
type_end-requires c = field_reads _ _ _ c.requires

pub returns : goal.returns
returns c = field_is _ _ _ c.requires _ _ c.type_end.ensures c.u16_at.ensures
