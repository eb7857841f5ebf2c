-- `offsets::place` meets its contract.
use Rattle.offsets.proofs.PlacingLaws.{place_none, place_end, place_narrow, place_written}
use Rattle.offsets.proofs.place.Goals as goal

pub returns-in_default : goal.returns-in_default
returns-in_default c = place_none c.resolved.ensures _ _ _ c.in_default.ensures

pub returns-then-offsets-fields : goal.returns-then-offsets-fields
returns-then-offsets-fields c = place_narrow c.resolved.ensures _ _ _ c.in-Some.ensures c.args.definitions.now.table c.requires.below.1 c.requires.kept_extents.0 c.requires.kept_extents.1 c.if-offsets-fields.true

pub write_offsets-requires-clause-ended : goal.write_offsets-requires-clause-ended
write_offsets-requires-clause-ended c = place_end c.resolved.ensures _ _ c.args.offsets.now c.in-Some.ensures c.args.definitions.now.table c.requires.below.1 c.requires.kept_extents.0 c.requires.kept_extents.1 c.requires.extent_is

pub returns : goal.returns
returns c = place_written c.resolved.ensures _ _ _ c.in-Some.ensures c.args.definitions.now.table c.requires.below.1 c.requires.kept_extents.0 c.requires.kept_extents.1 c.if-offsets-fields.false _ c.write_offsets.ensures
