use Prim.Native.Nat.{◌-◌}
use Rattle.notes.proofs.Entries.{Walk}
use Rattle.notes.proofs.list_from.Given as goal

abbrev pub invariant-loop-p : goal.invariant-loop-p
invariant-loop-p l = Walk l.s l.at l.end l.initial.places l.used l.places l.next l.to

abbrev pub decreases-loop-p : goal.decreases-loop-p
decreases-loop-p l = l.end - l.next
