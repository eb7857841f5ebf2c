use Prim.Native.Nat.{◌-◌}
use mathlib.Core.Path.{◌≡◌}
use lib.ListN.{length}
use Rattle.meaning.specs.Kinds.{parts}
use Rattle.renumber.proofs.ScanLaws.{Scan}
use Rattle.renumber.proofs.scan.Given as goal

abbrev pub invariant-loop-at : goal.invariant-loop-at
invariant-loop-at l = (length l.table ≡ length l.initial.table) × Scan l.s l.initial.out l.out l.table l.next l.at (parts l.left.0 l.left.1 l.left.2)

abbrev pub decreases-loop-at : goal.decreases-loop-at
decreases-loop-at l = length l.s - l.at
