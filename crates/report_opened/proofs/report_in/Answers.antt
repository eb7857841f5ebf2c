use native.Mathlib.Omega.{arith}
use Prim.Native.Nat.{ℕ}
use mathlib.Core.Path.{ap}
use lib.ListN.{length-replicate}
use Rattle.chain.proofs.Called.{has_edges}
use Rattle.report_opened.proofs.report_in.Goals as goal

pub prepare-requires : goal.prepare-requires
prepare-requires g c = record { has_edges = has_edges c.args.notes.now.opened.layout_of; count_in_bounds = omega (arith, c.requires.room.0, length-replicate {A = ℕ} g.row.EDGES 0) }

pub invariant_of-checks : goal.invariant_of-checks
invariant_of-checks g c = record { noted = c.args.notes.now.noted.definitions; same = ap (λ d. d.bytes.now) c.new.ensures; prepared = c.prepare.ensures }

pub write_report-requires : goal.write_report-requires
write_report-requires g c = record { room = omega (arith, c.requires.room.1, length-replicate {A = ℕ} g.row.WORK 0); noted = c.args.notes.now.noted; few = c.has_few_violations.ensures }

pub returns : goal.returns
returns g c = c.write_report.ensures
