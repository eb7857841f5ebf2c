use Rattle.std.specs.Iterator.Adapters.{zip_first, zip_second}
use Rattle.std.specs.Slice.Iter.{iter_rest}
use Rattle.writer.proofs.RecordLaws.{Putting}
use Rattle.writer.proofs.write_parts.Given as goal

abbrev pub invariant-loop-part : goal.invariant-loop-part
invariant-loop-part l = Putting l.initial.out l.initial.next l.parts l.values l.out l.next (iter_rest (zip_first l.part-iterator)) (iter_rest (zip_second l.part-iterator))
