-- `field_index::note_constants` meets its contract: the invariant is `Marking`.
use Rattle.field_index.proofs.Constants.{constants_next}
use Rattle.field_index.proofs.note_constants.Goals as goal

pub loop-i-preserved : goal.loop-i-preserved
loop-i-preserved c = constants_next c.loop-i.invariant c.loop-i-test.true c.is_enum_with_constant_size_variants-constant.ensures c.from.ensures
