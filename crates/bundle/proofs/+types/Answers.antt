-- `bundle::type_at` and the functions for a type's parts meet their contracts: each way out is a law of `TypeLaws`. The measure
-- is four times the depth, and less than four more that orders the functions of one depth.
use native.Mathlib.Omega.{arith}
use mathlib.Core.Path.{sym, ap, ◌∙◌}
use Rattle.refusal.proofs.NumberLaws.{handed_on}
use Rattle.bundle.proofs.Forms.{array_meant, enum_meant, primitive_meant, size_union_meant, struct_meant, type_ref_meant, union_meant, not_type}
use Rattle.meaning.specs.ReadExpr.{read_expr}
use Rattle.meaning.specs.ReadType.{read_ty, read_member}
use Rattle.meaning.specs.Tree.{none, more}
use Rattle.bundle.proofs.Steps.{many_none, many_next, many_refused}
use Rattle.bundle.proofs.TypeLaws.{type_short, type_other, primitive_ends, type_ref_ends, struct_ends, union_ends, size_union_ends, enum_ends, array_ends}
use Rattle.bundle.proofs.TypeLaws.{group_ends, group_wrong, enum_members, enum_tag_refused, enum_wrong, array_element, array_size_refused, array_head_refused, member_type_lem, member_head_refused}
use Rattle.bundle.specs.declared.Form.TheVariants.{OfType}
use Rattle.bundle.specs.View.{member_kind}
use Rattle.bundle.proofs.+types.Goals as goal

pub array_at-returns : goal.array_at-returns
array_at-returns t c = c.type_at.ensures ∙ sym (array_element _ _ _ _ _ _ (sym c.in_ok-next.was ∙ c.array_head_at.ensures) (sym c.in_ok-after.was ∙ c.expr_at.ensures))

pub array_at-returns-in_err-after : goal.array_at-returns-in_err-after
array_at-returns-in_err-after t c = handed_on _ c.from_residual-in_err-after.ensures.1 ∙ sym (array_size_refused _ _ _ _ _ _ (sym c.in_ok-next.was ∙ c.array_head_at.ensures) (sym c.in_err-after.was ∙ c.expr_at.ensures))

pub array_at-returns-in_err-next : goal.array_at-returns-in_err-next
array_at-returns-in_err-next t c = handed_on _ c.from_residual.ensures.1 ∙ sym (array_head_refused _ _ _ _ _ (sym c.in_err-next.was ∙ c.array_head_at.ensures))

pub enum_at-returns : goal.enum_at-returns
enum_at-returns t c = c.members_at.ensures ∙ sym (enum_members _ _ _ _ _ _ _ (sym c.in_ok-n.was ∙ c.count_at.ensures) (sym c.in_ok-after.was ∙ c.expr_at.ensures))

pub enum_at-returns-in_err-after : goal.enum_at-returns-in_err-after
enum_at-returns-in_err-after t c = handed_on _ c.from_residual-in_err-after.ensures.1 ∙ sym (enum_tag_refused _ _ _ _ _ _ _ (sym c.in_ok-n.was ∙ c.count_at.ensures) (sym c.in_err-after.was ∙ c.expr_at.ensures))

pub enum_at-returns-in_err-n : goal.enum_at-returns-in_err-n
enum_at-returns-in_err-n t c = handed_on _ c.from_residual.ensures.1 ∙ sym (enum_wrong _ _ _ _ _ (sym c.in_err-n.was ∙ c.count_at.ensures))

pub group_at-returns : goal.group_at-returns
group_at-returns t c = c.members_at.ensures ∙ sym (group_ends (read_expr 0) _ _ _ _ _ _ (sym c.in_ok-n.was ∙ c.count_at.ensures))

pub group_at-returns-in_err-n : goal.group_at-returns-in_err-n
group_at-returns-in_err-n t c = handed_on _ c.from_residual.ensures.1 ∙ sym (group_wrong (read_expr 0) _ _ _ _ _ (sym c.in_err-n.was ∙ c.count_at.ensures))

pub member_at-returns : goal.member_at-returns
member_at-returns t c = c.type_at.ensures ∙ sym (member_type_lem (read_expr 0) _ _ _ _ _ (sym c.in_ok-next.was ∙ c.member_head_at.ensures))

pub member_at-returns-in_err-next : goal.member_at-returns-in_err-next
member_at-returns-in_err-next t c = handed_on _ c.from_residual.ensures.1 ∙ sym (member_head_refused (read_expr 0) _ _ _ _ _ (sym c.in_err-next.was ∙ c.member_head_at.ensures))

pub members_at-loop-preserved : goal.members_at-loop-preserved
members_at-loop-preserved t c = many_next more none (read_member (read_ty c.args.depth) (member_kind c.args.member)) _ _ _ _ _ c.loop-test.true (sym c.in_ok-next.was ∙ c.member_at.ensures) ∙ c.loop.invariant

pub members_at-returns-in_err-next : goal.members_at-returns-in_err-next
members_at-returns-in_err-next t c = handed_on _ c.from_residual.ensures.1 ∙ sym (many_refused more none (read_member (read_ty c.args.depth) (member_kind c.args.member)) _ _ _ _ (omega (arith, c.loop-test.true)) (sym c.in_err-next.was ∙ c.member_at.ensures)) ∙ c.loop.invariant

pub members_at-returns : goal.members_at-returns
members_at-returns t c = sym (many_none more none (read_member (read_ty c.args.depth) (member_kind c.args.member)) _ _ _ (omega (arith, c.loop-test.false))) ∙ c.loop.invariant

pub type_at-returns-then-depth-eq0 : goal.type_at-returns-then-depth-eq0
unfolding read_ty
type_at-returns-then-depth-eq0 t c = rw c.if-depth-eq0.true

pub type_at-returns-then-s-at : goal.type_at-returns-then-s-at
type_at-returns-then-s-at t c = rw (type_short _ _ _ c.if-depth-eq0.false c.if-s-at.true)

pub type_at-returns-in_default : goal.type_at-returns-in_default
type_at-returns-in_default t c = sym (type_other (record { deep = c.if-depth-eq0.false; there = c.if-s-at.false; form = c.form_of-form.ensures.form }) (not_type _ c.in_default.not-OfType))

pub type_at-returns-in-Primitive : goal.type_at-returns-in-Primitive
type_at-returns-in-Primitive t c = sym (primitive_ends (record { deep = c.if-depth-eq0.false; there = c.if-s-at.false; form = c.form_of-form.ensures.form }) (primitive_meant (c.in-OfType.is ∙ ap OfType c.in-Primitive.is)))

pub type_at-returns-in-TypeRef : goal.type_at-returns-in-TypeRef
type_at-returns-in-TypeRef t c = c.skip_bytes.ensures ∙ sym (type_ref_ends (record { deep = c.if-depth-eq0.false; there = c.if-s-at.false; form = c.form_of-form.ensures.form }) (type_ref_meant (c.in-OfType.is ∙ ap OfType c.in-TypeRef.is)))

pub type_at-returns-in-Struct : goal.type_at-returns-in-Struct
type_at-returns-in-Struct t c = c.group_at.ensures ∙ sym (struct_ends (record { deep = c.if-depth-eq0.false; there = c.if-s-at.false; form = c.form_of-form.ensures.form }) (struct_meant (c.in-OfType.is ∙ ap OfType c.in-Struct.is)))

pub type_at-returns-in-Union : goal.type_at-returns-in-Union
type_at-returns-in-Union t c = c.group_at-in-Union.ensures ∙ sym (union_ends (record { deep = c.if-depth-eq0.false; there = c.if-s-at.false; form = c.form_of-form.ensures.form }) (union_meant (c.in-OfType.is ∙ ap OfType c.in-Union.is)))

pub type_at-returns-in-Enum : goal.type_at-returns-in-Enum
type_at-returns-in-Enum t c = c.enum_at.ensures ∙ sym (enum_ends (record { deep = c.if-depth-eq0.false; there = c.if-s-at.false; form = c.form_of-form.ensures.form }) (enum_meant (c.in-OfType.is ∙ ap OfType c.in-Enum.is)))

pub type_at-returns-in-Array : goal.type_at-returns-in-Array
type_at-returns-in-Array t c = c.array_at.ensures ∙ sym (array_ends (record { deep = c.if-depth-eq0.false; there = c.if-s-at.false; form = c.form_of-form.ensures.form }) (array_meant (c.in-OfType.is ∙ ap OfType c.in-Array.is)))

pub type_at-returns-in-SizeUnion : goal.type_at-returns-in-SizeUnion
type_at-returns-in-SizeUnion t c = c.group_at-in-SizeUnion.ensures ∙ sym (size_union_ends (record { deep = c.if-depth-eq0.false; there = c.if-s-at.false; form = c.form_of-form.ensures.form }) (size_union_meant (c.in-OfType.is ∙ ap OfType c.in-SizeUnion.is)))
