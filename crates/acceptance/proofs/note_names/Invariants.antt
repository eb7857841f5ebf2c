use mathlib.Core.Path.{◌≡◌}
use lib.ListN.{length}
use Rattle.bundle.proofs.NameLaws.{Noting}
use Rattle.acceptance.proofs.note_names.Given as goal

abbrev pub invariant-loop-i : goal.invariant-loop-i
invariant-loop-i l = (length l.places ≡ length l.initial.places) × Noting l.s l.count l.places l.i l.names
