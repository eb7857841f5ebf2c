use mathlib.Core.List.{map}
use Rattle.stored.proofs.Parts.{Comparing}
use Rattle.stored.proofs.numbers_are.Given as goal

abbrev pub invariant-loop-number : goal.invariant-loop-number
invariant-loop-number g l = Comparing g.N.Number.BYTES (map g.N.Number.value l.list) l.due l.number-index l.rest
