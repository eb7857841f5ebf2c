-- `acceptance::circle` meets its contract. The invariant: the definitions passed are walked.
use native.Mathlib.Omega.{arith}
use Rattle.acceptance.proofs.CircleLaws.{loop_circles, decided_true, decided_loop, settled_start, settled_marks, settled_next, settled_end}
use Rattle.acceptance.proofs.circle.Goals as goal

pub loop-i-init : goal.loop-i-init
loop-i-init c = settled_start _

pub walk_definition-requires : goal.walk_definition-requires
walk_definition-requires c = (c.loop-i-test.true, settled_marks c.loop-i.invariant)

pub loop-i-preserved : goal.loop-i-preserved
loop-i-preserved c = settled_next c.loop-i.invariant (decided_true c.walk_definition.ensures c.if-not-walk_definition.false)

pub returns-then-not-walk_definition : goal.returns-then-not-walk_definition
returns-then-not-walk_definition c = loop_circles (decided_loop c.walk_definition.ensures c.if-not-walk_definition.true).1

pub returns : goal.returns
returns c = settled_end c.loop-i.invariant (omega (arith, c.args.definitions.now.table.count))
