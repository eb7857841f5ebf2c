use Prim.Native.Nat.{◌-◌}
use Rattle.fixed_definitions.proofs.KeepingLaws.{Measuring}
use Rattle.fixed_definitions.proofs.+measure_definition.Given as goal

abbrev pub decreases-measure_definition : goal.decreases-measure_definition
decreases-measure_definition l = l.left

abbrev pub invariant-loop-j : goal.invariant-loop-j
invariant-loop-j l = Measuring l.definitions.bytes.now l.i l.left l.end l.initial.kept l.kept l.at

abbrev pub decreases-loop-j : goal.decreases-loop-j
decreases-loop-j l = l.end - l.at
