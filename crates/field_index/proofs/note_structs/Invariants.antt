use Prim.Native.Nat.{◌≤◌}
use Rattle.bundle.specs.Definitions.{Table}
use Rattle.field_index.specs.Noted.{NotedBelow, Front}
use Rattle.field_index.proofs.note_structs.Given as goal

abbrev pub invariant-loop-i : goal.invariant-loop-i
invariant-loop-i l = (l.i ≤ l.count) × NotedBelow l.s l.places l.i l.used × Table l.s l.count l.places × Front l.initial.places l.places
