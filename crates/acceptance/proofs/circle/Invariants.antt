use Rattle.bundle.specs.Definitions.{bundle_of}
use Rattle.acceptance.proofs.CircleLaws.{Settled}
use Rattle.acceptance.proofs.circle.Given as goal

abbrev pub invariant-loop-i : goal.invariant-loop-i
invariant-loop-i l = Settled (bundle_of l.definitions.bytes.now) l.marks l.i
