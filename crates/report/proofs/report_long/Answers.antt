-- `report::report_long` meets its contract: what the bytes are refused for, or the report of the bundle that they are.
use Prim.Native.Nat.{ℕ}
use native.Mathlib.Omega.{arith}
use mathlib.Core.Path.{subst}
use lib.ListN.{length-replicate}
use Rattle.refusal.proofs.NumberLaws.{handed_on}
use Rattle.meaning.specs.Calls.{Call}
use Rattle.meaning.specs.Calls as calls
use Rattle.meaning.specs.Due.{reporting}
use Rattle.meaning.specs.Report.{report}
use Rattle.bundle.specs.Definitions.{bundle_of}
use Rattle.bundle.specs.Opened.{answer_meant}
use Rattle.chain.proofs.Called.{turned_down}
use Rattle.draft.proofs.Reporting.{called}
use Rattle.report.proofs.report_long.Goals as goal

pub open-requires : goal.open-requires
open-requires c = omega (arith, length-replicate {A = ℕ} 51976 0)

pub returns-in_err-layout : goal.returns-in_err-layout
unfolding reporting
returns-in_err-layout c = rw (handed_on _ c.from_residual.ensures.1) (turned_down _ _ (c.in_err-layout.ensures _))

pub notes_of-notes-requires : goal.notes_of-notes-requires
notes_of-notes-requires c = let o = c.in_ok-layout.ensures in (o.0, omega (arith, o.0.small, length-replicate {A = ℕ} 51976 0, c.open.auto.places))

pub report_in-requires : goal.report_in-requires
report_in-requires c = let o = c.in_ok-layout.ensures in let n = c.notes_of-notes in record { room = rw n.ensures.1 (omega (arith, o.0.few), omega (arith, o.0.few), omega arith, omega arith); acyclic = rw n.ensures.0 o.1 }

pub returns : goal.returns
unfolding reporting
returns c = let o = c.in_ok-layout.ensures in called o.0 o.1 (subst (λ s. Call (calls.result (report (bundle_of s))) c.args.out.now c.report_in.new.out (answer_meant c.report_in.result)) c.notes_of-notes.ensures.0 c.report_in.ensures)
