use Prim.Native.Nat.{◌-◌}
use Rattle.lookup.proofs.LedLaws.{Seeking}
use Rattle.lookup.proofs.next_led.Given as goal

abbrev pub invariant-loop-next : goal.invariant-loop-next
invariant-loop-next l = Seeking l.bytes l.at l.end l.from

abbrev pub decreases-loop-next : goal.decreases-loop-next
decreases-loop-next l = l.end - l.from
