-- `validators::validate_struct_field_constraints` meets its contract: the invariant is that of `Validators`.
use native.Mathlib.Omega.{arith}
use Prim.Native.Nat.{ℕ, ◌+◌, ◌-◌, ◌<◌}
use mathlib.Core.Path.{◌≡◌, sym, subst, ◌∙◌}
use Rattle.fields.proofs.Walking.{field_reads}
use Rattle.forward.proofs.SeenReferences.{seen_start, seen_more}
use Rattle.validate.specs.Validating.{Wrote}
use Rattle.validate.proofs.Writing.{put_nothing, wrote_same}
use Rattle.validate.proofs.Validators.{struct_violations, fielding_start, fielding_room, fielding_next, fielding_end}
use Rattle.validators.proofs.validate_struct_field_constraints.Goals.{then-is_some, else-is_some}
use Rattle.validators.proofs.validate_struct_field_constraints.Goals as goal

-- a field by how many are left
at_index : {count j : ℕ} → j < count → count - (count - j) ≡ j
at_index h = omega arith

pub overflow_add-next : goal.overflow_add-next
overflow_add-next c = omega (arith, c.requires.in_bounds.1.inside)

pub loop-j-init : goal.loop-j-init
loop-j-init c =
    let e : c.args.count - 0 ≡ c.args.count = omega arith in
    (rw e (fielding_start _ c.args.subject c.requires.in_bounds.1 _ _ c.requires.in_bounds.2), seen_start _ _ _ _)

pub field_at-field-requires : goal.field_at-field-requires
field_at-field-requires c = field_reads c.loop-j.invariant.0.pass (omega (arith, c.loop-j-test.true))

pub check_field_layout_dependency-check-requires : goal.check_field_layout_dependency-check-requires
check_field_layout_dependency-check-requires c = record { seen = c.loop-j.invariant.1; reads = (c.field_at-field.ensures.reads, omega (arith, c.requires.in_bounds.0, c.loop-j.invariant.0.list_size)) }

pub put_check-requires : goal.put_check-requires
put_check-requires c = record { i_lt_definition_limit = (c.requires.among.number, (c.check_field_layout_dependency-check.ensures.0 0).fits); room = fielding_room c.loop-j.invariant.0 (omega (arith, c.loop-j-test.true)) c.field_at-field.ensures _ (rw (at_index c.loop-j-test.true) ((c.check_field_layout_dependency-check.ensures.0 c.field_at-field.ensures.value).means _)) }

pub loop-j-preserved : goal.loop-j-preserved
loop-j-preserved c =
    let e : c.args.count - (c.loop-j.j + 1) ≡ c.args.count - c.loop-j.j - 1 = omega arith in
    let f = fielding_next c.loop-j.invariant.0 (omega (arith, c.loop-j-test.true)) c.field_at-field.ensures _ (rw (at_index c.loop-j-test.true) ((c.check_field_layout_dependency-check.ensures.0 c.field_at-field.ensures.value).means _)) c.check_field_layout_dependency-check.auto.list
    (elim c.if-is_some.branch [ then-is_some w ↦ wrote_same w.put_check.ensures w.report-is | else-is_some w ↦ put_nothing _ _ _ _ _ (sym c.is_some.ensures ∙ w.if-is_some.false) w.report-is ]) in
    (rw e f, seen_more (omega arith) c.check_field_layout_dependency-check.ensures.1)

pub shape_of-list : goal.shape_of-list
shape_of-list c = c.loop-j.invariant.0.list_size

pub returns : goal.returns
returns c = subst (λ vs. Wrote vs c.args.report.now c.loop-j.report) (sym (struct_violations _ c.args.subject c.requires.in_bounds.1)) (fielding_end c.loop-j.invariant.0 (omega (arith, c.loop-j-test.false)))
