-- `read_chain::fill` meets its contract. The invariant: the first i names are written.
use Rattle.search.proofs.Reading.{filling_next}
use Rattle.read_chain.proofs.fill.Goals as goal

pub loop-i-preserved : goal.loop-i-preserved
loop-i-preserved c = let p = c.requires in filling_next p.indexed.0 p.indexed.1 p.indexed.2 p.by_index.0.1 c.loop-i-test.true c.loop-i.invariant
