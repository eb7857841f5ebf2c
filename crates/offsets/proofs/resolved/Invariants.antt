use Rattle.offsets.proofs.PlacingLaws.{Following}
use Rattle.offsets.proofs.resolved.Given as goal

abbrev pub invariant-loop : goal.invariant-loop
invariant-loop l = Following l.bytes l.count l.definition l.i l.counter
