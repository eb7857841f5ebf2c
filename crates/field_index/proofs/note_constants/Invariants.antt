use Rattle.field_index.proofs.Constants.{Marking}
use Rattle.field_index.proofs.note_constants.Given as goal

abbrev pub invariant-loop-i : goal.invariant-loop-i
invariant-loop-i l = Marking l.s l.count l.initial.places l.places l.i
