-- `field_index::note_structs` meets its contract: the structs before definition i are noted.
use native.Mathlib.Omega.{arith}
use Rattle.field_index.proofs.Structs.{front_both, table_front}
use Rattle.field_index.proofs.note_structs.Goals as goal

pub loop-i-preserved : goal.loop-i-preserved
loop-i-preserved c = let l = c.loop-i.invariant in let e = c.note_struct-used.ensures in
    (omega arith, e.0, table_front l.2 e.1, front_both l.3 e.1)
