use Prim.Native.Nat.{◌+◌, ◌*◌}
use Rattle.evaluate.proofs.+values.Given as goal

abbrev pub decreases-binary_at : goal.decreases-binary_at
decreases-binary_at l = 2 * l.depth + 0

abbrev pub decreases-value_at : goal.decreases-value_at
decreases-value_at l = 2 * l.depth + 1
