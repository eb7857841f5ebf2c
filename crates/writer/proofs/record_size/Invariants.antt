use Rattle.std.specs.Iterator.Adapters.{zip_first, zip_second}
use Rattle.std.specs.Slice.Iter.{iter_rest}
use Rattle.writer.proofs.RecordLaws.{Sizing}
use Rattle.writer.proofs.record_size.Given as goal

abbrev pub invariant-loop-part : goal.invariant-loop-part
invariant-loop-part l = Sizing l.parts l.values l.size (iter_rest (zip_first l.part-iterator)) (iter_rest (zip_second l.part-iterator))
