use Prim.Native.Nat.{◌-◌}
use Rattle.scan.proofs.ScanLaws.{Passing}
use Rattle.scan.specs.Scan.{asks_sizes, asks_jagged}
use Rattle.scan.proofs.next_stop.Given as goal

abbrev pub invariant-loop-next : goal.invariant-loop-next
invariant-loop-next l = Passing (asks_sizes l.walk) (asks_jagged l.walk) l.s l.at l.end l.next

abbrev pub decreases-loop-next : goal.decreases-loop-next
decreases-loop-next l = l.end - l.next
