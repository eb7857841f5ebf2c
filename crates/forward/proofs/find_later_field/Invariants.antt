use Prim.Native.Nat.{◌+◌, ◌*◌}
use Rattle.forward.proofs.LaterFields.{Passed}
use Rattle.forward.proofs.find_later_field.Given as goal

abbrev pub invariant-loop-k : goal.invariant-loop-k
invariant-loop-k l = Passed l.places l.name l.j l.from l.end (l.from + 3 * l.k)
