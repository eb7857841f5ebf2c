-- `draft::write_report` meets its contract. The first run counts and drafts; a draft that is whole is copied, and else a second run writes.
use Prim.Native.Nat.{ℕ, ◌+◌, ◌*◌, ◌≤◌}
use native.Mathlib.Omega.{arith}
use mathlib.Core.Path.{refl, ◌∙◌}
use lib.ListN.{length, length-replicate}
use Rattle.meaning.specs.Violations.{violations}
use Rattle.bundle.specs.Definitions.{bundle_of}
use Rattle.notes.specs.Notes.{Noted}
use Rattle.cycles.proofs.Sharing.{still, before}
use Rattle.violation.specs.Records.{Puts}
use Rattle.std.proofs.Common.{rules}
use Rattle.validate.specs.Validating.{record_bytes}
use Rattle.draft.proofs.Drafts.{records, drafted}
use Rattle.draft.proofs.Reporting.{start_room, too_long, written_whole}
use Rattle.draft.proofs.write_report.Goals as goal

pub validate_layout_constraints-requires : goal.validate_layout_constraints-requires
validate_layout_constraints-requires c = record { room = c.requires.room; noted = c.requires.noted; in_bounds = start_room _ refl refl c.requires.few }

pub shape_of-work-then-out-end : goal.shape_of-work-then-out-end
shape_of-work-then-out-end c = c.validate_layout_constraints.auto.work

pub returns-then-out-end : goal.returns-then-out-end
returns-then-out-end c = too_long _ refl refl c.validate_layout_constraints.ensures.0 _ c.if-out-end.true

pub overflow_cast-counted : goal.overflow_cast-counted
overflow_cast-counted c = record { fits = omega (arith, c.validate_layout_constraints.ensures.0.counts, c.requires.few) }

pub put_two-requires : goal.put_two-requires
put_two-requires c = omega (arith, c.put_byte-second.ensures.behind)

pub shape_of-work-then-end-le-DRAFT : goal.shape_of-work-then-end-le-DRAFT
shape_of-work-then-end-le-DRAFT c = c.validate_layout_constraints.auto.work

pub validate_layout_constraints-requires-2 : goal.validate_layout_constraints-requires-2
validate_layout_constraints-requires-2 c =
    let w = c.validate_layout_constraints in
    let u = w.ensures.1 in
    record {
      room = still u (λ o _. 7 * o.layout.edges + 7 ≤ length w.new.work) (omega (arith, c.requires.room, w.auto.work));
      noted = still u (λ o _. Noted o.definitions.bytes.now o.definitions.places.now o.definitions.count) c.requires.noted;
      in_bounds = start_room _ refl refl (still u (λ o _. length (violations (bundle_of o.definitions.bytes.now)) ≤ 65535) c.requires.few);
    }

pub shape_of-work : goal.shape_of-work
shape_of-work c = c.validate_layout_constraints-2.auto.work ∙ c.validate_layout_constraints.auto.work

pub returns-then-end-le-DRAFT : goal.returns-then-end-le-DRAFT
returns-then-end-le-DRAFT c =
    let w = c.validate_layout_constraints.ensures.0 in
    written_whole _ refl refl w (omega (arith, c.if-out-end.false)) c.put_byte-second.ensures c.put_two.ensures
    (drafted (records refl w) (omega (arith, c.if-end-le-DRAFT.true, length-replicate {A = ℕ} 1024 0)) c.put_bytes.ensures (search rules)) refl

pub returns : goal.returns
returns c =
    let w = c.validate_layout_constraints.ensures in
    let v = c.validate_layout_constraints-2 in
    written_whole _ refl refl w.0 (omega (arith, c.if-out-end.false)) c.put_byte-second.ensures c.put_two.ensures
    (before w.1 (λ o _. Puts (record_bytes (violations (bundle_of o.definitions.bytes.now))) c.put_two.new.out 3 v.new.report.out.now v.new.report.at) (records refl v.ensures.0)) (search rules)
