use Prim.Native.Nat.{◌-◌}
use Rattle.acceptance.specs.Circles.{unwalked}
use Rattle.acceptance.proofs.WalkLaws.{Walking}
use Rattle.acceptance.proofs.+walk_definition.Given as goal

abbrev pub decreases-walk_definition : goal.decreases-walk_definition
decreases-walk_definition l = unwalked l.marks.now

abbrev pub invariant-loop-j : goal.invariant-loop-j
invariant-loop-j l = Walking l.definitions.bytes.now l.i l.end l.initial.marks l.marks l.at

abbrev pub decreases-loop-j : goal.decreases-loop-j
decreases-loop-j l = l.end - l.at
