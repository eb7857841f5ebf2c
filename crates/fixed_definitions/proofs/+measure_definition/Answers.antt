-- `fixed_definitions::measure_definition` meets its contract: each way out is a law of `KeepingLaws`. The measure is the number of
-- definitions that may still be gone through.
use native.Mathlib.Omega.{arith}
use mathlib.Core.Path.{◌∙◌}
use Rattle.bundle.proofs.LookupLaws.{place_ends}
use Rattle.fixed_definitions.proofs.KeepingLaws.{some_left, measuring_start, measured_is, measuring_end, measuring_inside, measuring_next, measuring_known}
use Rattle.fixed_definitions.proofs.+measure_definition.Goals as goal

pub overflow_sub-end : goal.overflow_sub-end
overflow_sub-end t c = (place_ends c.args.definitions.now.table _ c.requires.0).0

pub loop-j-init : goal.loop-j-init
loop-j-init t c = measuring_start c.args.definitions.now.table c.requires.0 c.requires.1

pub overflow_sub-left : goal.overflow_sub-left
overflow_sub-left t c = omega (arith, some_left c.args.definitions.now.table c.requires.0 c.requires.1)

pub measure_definition-requires : goal.measure_definition-requires
measure_definition-requires t c = (omega (arith, c.decreases, some_left c.args.definitions.now.table c.requires.0 c.requires.1), (omega (arith, c.in-Some.ensures.below, c.args.definitions.now.table.count), measuring_inside c.args.definitions.now.table c.loop-j.invariant c.in-Some.ensures))

pub loop-j-preserved-then-is_none : goal.loop-j-preserved-then-is_none
loop-j-preserved-then-is_none t c = measuring_next c.args.definitions.now.table c.loop-j.invariant c.in-Some.ensures c.measure_definition.ensures

pub loop-j-preserved : goal.loop-j-preserved
loop-j-preserved t c = measuring_known c.args.definitions.now.table c.loop-j.invariant c.in-Some.ensures _ c.if-is_none.ensures

pub returns : goal.returns
returns t c = measuring_end c.args.definitions.now.table c.requires.0 c.requires.1 c.loop-j.invariant c.in_default.ensures _ (c.measure_type-m.ensures.is ∙ measured_is c.args.definitions.now.table c.requires.0 c.requires.1 c.loop-j.invariant c.in_default.ensures)
