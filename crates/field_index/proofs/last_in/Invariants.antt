use Rattle.field_index.specs.Noted.{LacksFrom}
use Rattle.field_index.proofs.last_in.Given as goal

abbrev pub invariant-loop-k : goal.invariant-loop-k
invariant-loop-k l = LacksFrom l.t l.at l.n l.x l.k
