use Rattle.table.proofs.Buckets.{Looking}
use Rattle.table.proofs.place_of.Given as goal

abbrev pub invariant-loop-e : goal.invariant-loop-e
invariant-loop-e l = Looking l.t l.base l.buckets l.n l.x l.e

abbrev pub decreases-loop-e : goal.decreases-loop-e
decreases-loop-e l = l.e
