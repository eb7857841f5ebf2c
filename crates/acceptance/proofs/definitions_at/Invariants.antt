use mathlib.Core.Path.{◌≡◌}
use lib.ListN.{length}
use Rattle.records.proofs.DefinitionLaws.{Placing}
use Rattle.acceptance.proofs.definitions_at.Given as goal

abbrev pub invariant-loop-i : goal.invariant-loop-i
invariant-loop-i l = (length l.places ≡ length l.initial.places) × Placing l.s l.at l.count l.places l.i l.next
