-- `writer::write_parts` meets its contract: what is due is what was checked, and then stored; the invariant is that of `Putting`.
use native.Mathlib.Omega.{arith}
use lib.ListN.{length, length-set}
use Rattle.std.proofs.Common.{rules, ◌≡◌}
use Rattle.std.specs.Iterator.Adapters.{zip_first, zip_second}
use Rattle.std.specs.Slice.Iter.{iter_rest}
use Rattle.std.proofs.lemmas.Slice.Zip.{either_empty_from_Zip}
use Rattle.refusal.proofs.NumberLaws.{handed_on}
use Rattle.bundle.specs.Opened.{answer_meant}
use Rattle.writer.proofs.RecordLaws.{value_large, no_room, written_from, record_room, putting_start, putting_room, putting_next, putting_end, stored, spent}
use Rattle.writer.proofs.write_parts.Goals as goal

pub returns-in_err-size : goal.returns-in_err-size
unfolding answer_meant
returns-in_err-size c = rw (handed_on _ c.from_residual.ensures.1) (value_large _ _ _ _ _ _ _ c.record_size.ensures c.in_err-size.was)

pub returns-then-room-size : goal.returns-then-room-size
unfolding answer_meant
returns-then-room-size c = no_room _ _ _ _ _ _ _ c.record_size.ensures c.in_ok-size.was (omega (arith, c.if-room-size.true))

pub loop-part-init : goal.loop-part-init
loop-part-init c =
    let p : iter_rest (zip_first c.into_iter-part-iterator.result) ≡ c.args.parts.now = search rules in
    let q : iter_rest (zip_second c.into_iter-part-iterator.result) ≡ c.args.values.now = search rules in
    let r = record_room c.args.at c.args.kind c.args.parts.now c.args.values.now c.args.out.now _ _ c.record_size.ensures c.in_ok-size.was (length c.args.out.now) (omega (arith, c.if-room-size.false)) in
    rw (p, q) (putting_start _ _ _ _ c.requires.0 (omega (arith, c.requires.1)) (omega (arith, r, length-set c.args.out.now c.args.at c.args.kind)))

pub put_number-requires : goal.put_number-requires
put_number-requires c = putting_room c.loop-part.invariant _ _ _ _ c.in-Some.ensures.steps.0 c.in-Some.ensures.steps.1

pub overflow_add-next-in-loop-part : goal.overflow_add-next-in-loop-part
overflow_add-next-in-loop-part c = let r = putting_room c.loop-part.invariant _ _ _ _ c.in-Some.ensures.steps.0 c.in-Some.ensures.steps.1 in search rules

pub loop-part-preserved : goal.loop-part-preserved
loop-part-preserved c = putting_next c.loop-part.invariant _ _ _ _ c.in-Some.ensures.steps.0 c.in-Some.ensures.steps.1 _ c.put_number.ensures

pub returns : goal.returns
unfolding answer_meant
returns c =
    let e = either_empty_from_Zip c.loop-part.part-iterator c.next.new.self c.next.result c.in-None.is c.next.ensures.steps in
    written_from _ _ _ _ _ _ _ c.record_size.ensures c.in_ok-size.was _ (omega (arith, c.if-room-size.false))
    (stored _ _ _ _ _ _ (putting_end c.loop-part.invariant (spent e c.loop-part.invariant.enough)))
