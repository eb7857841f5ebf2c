use Rattle.field_index.proofs.Walking.{Noting}
use Rattle.field_index.proofs.note_fields.Given as goal

abbrev pub invariant-loop-k : goal.invariant-loop-k
invariant-loop-k l = Noting l.s l.at l.n l.initial.notes l.a l.notes l.next l.d l.k
