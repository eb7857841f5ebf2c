-- `pass::validate_layout_constraints` meets its contract: the invariant is that of `Validators`.
use Prim.Native.Nat.{◌+◌, ◌*◌, ◌≤◌, ◌<◌}
use native.Mathlib.Omega.{arith}
use lib.ListN.{length}
use Rattle.notes.specs.Notes.{Noted}
use Rattle.validate.specs.Validating.{Room, Wrote, violations_at}
use Rattle.validate.proofs.Validators.{defining_start, defining_room, defining_next, defining_end}
use Rattle.cycles.proofs.Sharing.{unchanged, still, before, twice}
use Rattle.pass.proofs.validate_layout_constraints.Goals as goal

pub loop-i-init : goal.loop-i-init
loop-i-init c = (defining_start _ _ _ c.requires.in_bounds, unchanged)

pub validate_type-requires : goal.validate_type-requires
validate_type-requires c =
    let u = c.loop-i.invariant.1 in
    record {
      room = still u (λ o _. 7 * o.layout.edges + 7 ≤ length c.loop-i.work) (omega (arith, c.requires.room, c.loop-i.invariant.0.list_size));
      noted = still u (λ o _. Noted o.definitions.bytes.now o.definitions.places.now o.definitions.count) c.requires.noted;
      i_in_bounds = still u (λ o _. (c.loop-i.i < o.definitions.count) × Room c.loop-i.report (violations_at o.definitions.bytes.now o.definitions.places.now c.loop-i.i)) (c.loop-i-test.true, defining_room c.args.checks.now.opened.definitions.table c.loop-i.invariant.0 c.loop-i-test.true);
    }

pub loop-i-preserved : goal.loop-i-preserved
loop-i-preserved c =
    let u = c.loop-i.invariant.1 in
    let w = c.validate_type in (
      defining_next c.args.checks.now.opened.definitions.table c.loop-i.invariant.0 c.loop-i-test.true w.auto.work
          (before u (λ o _. Wrote (violations_at o.definitions.bytes.now o.definitions.places.now c.loop-i.i) c.loop-i.report w.new.report) w.ensures.0),
      twice u w.ensures.1,
    )

pub shape_of-work : goal.shape_of-work
shape_of-work c = c.loop-i.invariant.0.list_size

pub returns : goal.returns
returns c = (defining_end c.args.checks.now.opened.definitions.table c.loop-i.invariant.0 (omega arith), c.loop-i.invariant.1)
