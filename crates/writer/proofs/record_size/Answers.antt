-- `writer::record_size` meets its contract: the invariant is that of `Sizing`.
use native.Mathlib.Omega.{arith}
use Rattle.std.proofs.Common.{rules, ◌≡◌}
use Rattle.std.specs.Iterator.Adapters.{zip_first, zip_second}
use Rattle.std.specs.Slice.Iter.{iter_rest}
use Rattle.std.proofs.lemmas.Slice.Zip.{either_empty_from_Zip}
use Rattle.writer.proofs.RecordLaws.{sizing_start, sizing_large, sizing_fits, sizing_next, sizing_end, narrow_size, spent}
use Rattle.writer.proofs.record_size.Goals as goal

pub loop-part-init : goal.loop-part-init
loop-part-init c =
    let p : iter_rest (zip_first c.into_iter-part-iterator.result) ≡ c.args.parts.now = search rules in
    let q : iter_rest (zip_second c.into_iter-part-iterator.result) ≡ c.args.values.now = search rules in
    rw (p, q) (sizing_start _ _ (omega (arith, c.requires.1)))

pub returns-then-part-value : goal.returns-then-part-value
returns-then-part-value c = sizing_large c.loop-part.invariant _ _ _ _ c.in-Some.ensures.steps.0 c.in-Some.ensures.steps.1 c.if-part-value.true

pub overflow_add-size : goal.overflow_add-size
overflow_add-size c = omega (arith, c.requires.1, narrow_size c.args.parts.now c.requires.0, sizing_fits c.loop-part.invariant _ _ _ _ c.in-Some.ensures.steps.0 c.in-Some.ensures.steps.1)

pub loop-part-preserved : goal.loop-part-preserved
loop-part-preserved c = sizing_next c.loop-part.invariant _ _ _ _ c.in-Some.ensures.steps.0 c.in-Some.ensures.steps.1 c.if-part-value.false

pub returns : goal.returns
returns c = sizing_end c.loop-part.invariant (spent (either_empty_from_Zip c.loop-part.part-iterator c.next.new.self c.next.result c.in-None.is c.next.ensures.steps) c.loop-part.invariant.enough)
