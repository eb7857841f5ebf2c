use Prim.Native.Nat.{◌-◌}
use Rattle.tree.proofs.Searching.{Searching}
use Rattle.tree.proofs.search.Given as goal

abbrev pub invariant-loop-k : goal.invariant-loop-k
invariant-loop-k l = Searching l.t l.base l.n l.x l.k l.bits

abbrev pub decreases-loop-k : goal.decreases-loop-k
decreases-loop-k l = l.n - l.k
