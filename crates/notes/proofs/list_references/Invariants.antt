use Rattle.notes.proofs.Lists.{Listing}
use Rattle.notes.proofs.list_references.Given as goal

abbrev pub invariant-loop-i : goal.invariant-loop-i
invariant-loop-i l = Listing l.s l.layout l.places l.to l.i
