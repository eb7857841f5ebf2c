use Prim.Native.Nat.{◌-◌}
use Rattle.forward.specs.Forward.{Seen}
use Rattle.validate.proofs.Validators.{Fielding, fields_found}
use Rattle.validators.proofs.validate_struct_field_constraints.Given as goal

abbrev pub invariant-loop-j : goal.invariant-loop-j
invariant-loop-j l =
    Fielding l.bytes l.i l.name l.count (fields_found l.bytes l.i l.name l.count l.initial.next) l.initial.list l.initial.report l.list l.next (l.count - l.j) l.report × Seen l.bytes l.notes.opened.definitions.places.now l.name l.j l.seen
