-- `offsets::fixed_opened` meets its contract.
use Rattle.refusal.proofs.NumberLaws.{handed_on}
use Rattle.fixed_definitions.proofs.KeepingLaws.{keeps_start, ready_definition}
use Rattle.offsets.proofs.PlacingLaws.{answered_none, answered_unsized, answered_sized, sized_is, kept_is}
use Rattle.offsets.proofs.fixed_opened.Goals as goal

pub returns-then-count-definition : goal.returns-then-count-definition
returns-then-count-definition c = answered_none c.args.definitions.now.table _ _ c.if-count-definition.true

pub measure_definition-requires : goal.measure_definition-requires
measure_definition-requires c = (c.if-count-definition.false, ready_definition c.args.definitions.now.table c.requires (keeps_start _) _ c.if-count-definition.false)

pub returns-in_err-extent : goal.returns-in_err-extent
returns-in_err-extent c = rw (handed_on _ c.from_residual.ensures.1) (answered_unsized _ _ _ _ (kept_is c.args.definitions.now.table c.if-count-definition.false c.measure_definition.ensures _ c.in_err-extent.ensures))

pub place-requires-clause-extent_is : goal.place-requires-clause-extent_is
place-requires-clause-extent_is c = sized_is _ _ _ (kept_is c.args.definitions.now.table c.if-count-definition.false c.measure_definition.ensures _ c.in_ok-extent.ensures)

pub returns : goal.returns
returns c = answered_sized (sized_is _ _ _ (kept_is c.args.definitions.now.table c.if-count-definition.false c.measure_definition.ensures _ c.in_ok-extent.ensures)) c.place.ensures
