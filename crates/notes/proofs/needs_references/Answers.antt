use Rattle.notes.proofs.ArrayLaws.{needs_enum, needs_array, needs_other}
use Rattle.notes.proofs.needs_references.Goals as goal

pub returns-in-Enum : goal.returns-in-Enum
returns-in-Enum c = needs_enum _ _ c.in-Enum.ensures c.is_enum_with_constant_size_variants.ensures

pub returns-in-Array : goal.returns-in-Array
returns-in-Array c = needs_array _ _ c.in-Array.ensures c.is_constant.ensures

pub returns-in_default : goal.returns-in_default
returns-in_default c = needs_other _ _ _ c.shape_at.ensures c.in_default.not-Enum c.in_default.not-Array
