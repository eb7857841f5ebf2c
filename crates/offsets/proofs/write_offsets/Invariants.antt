use Rattle.extents.specs.Meant.{mark}
use Rattle.offsets.proofs.PlacingLaws.{Writing}
use Rattle.offsets.proofs.write_offsets.Given as goal

abbrev pub invariant-loop-i : goal.invariant-loop-i
invariant-loop-i l = Writing l.definitions.bytes.now l.kept (mark l.fields.packing) l.fields.count l.fields.at l.initial.offsets l.so l.next l.i l.offsets
