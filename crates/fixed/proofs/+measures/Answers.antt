-- `fixed::measure_type` and the functions for a type's parts meet their contracts: each way out is a law of `WalkLaws`. The measure is
-- the depth that is left.
use native.Mathlib.Omega.{arith}
use mathlib.Core.Path.{refl, sym, ap, ◌∙◌}
use Rattle.bundle.specs.declared.Form.TheVariants.{OfType}
use Rattle.bundle.proofs.Forms.{not_type, primitive_meant, type_ref_meant, struct_meant, union_meant, enum_meant, array_meant, size_union_meant}
use Rattle.bundle.proofs.TypeTrees.{type_deep, type_there, no_other, struct_reads, union_reads, size_union_reads, enum_reads, array_reads}
use Rattle.bundle.proofs.TypeTrees.{group_reads, variants_read, size_reads, element_reads, member_reads}
use Rattle.bundle.proofs.TypeLaws.{struct_ends, union_ends, size_union_ends, enum_ends, array_ends}
use Rattle.bundle.proofs.Heads.{array_where, count_where}
use Rattle.bundle.proofs.Parts.{type_opened, type_ref_there}
use Rattle.fixed.specs.Walk.{close_of}
use Rattle.fixed.proofs.Leaves.{primitive_size, primitive_sized}
use Rattle.fixed.proofs.WalkLaws.{counts_none, counts_due, members_packing}
use Rattle.fixed.proofs.WalkLaws.{group_count, enum_count, tag_no, array_body, size_no, is_same, closed_same, group_is, group_ended, primitive_is, primitive_ended, type_ref_is, type_ref_ended, struct_is, union_is, size_union_is, enum_is, array_is, enum_group, enum_ended, array_group, array_ended}
use Rattle.fixed.proofs.WalkLaws.{joining_start, joining_end, joining_next, member_read, member_no, member_is}
use Rattle.fixed.proofs.+measures.Goals as goal
use Rattle.fixed.proofs.+measures.Goals.{measure_array-then-jagged, measure_array-else-jagged}

pub measure_array-overflow_add-at : goal.measure_array-overflow_add-at
measure_array-overflow_add-at t c = omega (arith, (array_where _ _ _ (array_body _ _ _ c.requires)).1)

pub measure_array-unreachable-requires : goal.measure_array-unreachable-requires
measure_array-unreachable-requires t c = size_no _ _ _ c.requires _ (sym c.in_default.is ∙ c.expr_at.ensures)

pub measure_array-overflow_add-jagged : goal.measure_array-overflow_add-jagged
measure_array-overflow_add-jagged t c = omega (arith, (array_where _ _ _ (array_body _ _ _ c.requires)).1)

pub measure_array-count_of-counted-requires : goal.measure_array-count_of-counted-requires
measure_array-count_of-counted-requires t c = size_reads _ _ _ _ _ (array_body _ _ _ c.requires) c.requires

pub measure_array-measure_type-m-requires : goal.measure_array-measure_type-m-requires
measure_array-measure_type-m-requires t c = (omega (arith, c.decreases), (element_reads _ _ _ _ _ (array_body _ _ _ c.requires) c.requires _ (sym c.in-Ok.is ∙ c.expr_at.ensures)))

pub measure_array-overflow_add-at-else-jagged : goal.measure_array-overflow_add-at-else-jagged
measure_array-overflow_add-at-else-jagged t c = omega (arith, (array_where _ _ _ (array_body _ _ _ c.requires)).1)

pub measure_array-bounds-s-at : goal.measure_array-bounds-s-at
measure_array-bounds-s-at t c = omega (arith, (array_where _ _ _ (array_body _ _ _ c.requires)).1)

pub measure_array-returns : goal.measure_array-returns
measure_array-returns t c = record { is = c.array_of.ensures ∙ array_group _ _ _ _ _ (array_body _ _ _ c.requires) c.requires (sym c.in-Ok.is ∙ c.expr_at.ensures) _ _ c.measure_type-m.ensures.is _ (elim c.if-jagged.branch [ measure_array-then-jagged w ↦ rw w.counted-is (counts_none _ _ w.if-jagged.true) | measure_array-else-jagged w ↦ rw w.counted-is (counts_due _ _ _ w.if-jagged.false w.count_of-counted.ensures) ]); ended = c.measure_type-m.ensures.ended ∙ array_ended _ _ _ _ _ (array_body _ _ _ c.requires) c.requires (sym c.in-Ok.is ∙ c.expr_at.ensures) }

pub measure_enum-overflow_add-at : goal.measure_enum-overflow_add-at
measure_enum-overflow_add-at t c = omega (arith, (count_where _ _ _ _ (enum_count _ _ _ c.requires)).1)

pub measure_enum-u16_at-n-requires : goal.measure_enum-u16_at-n-requires
measure_enum-u16_at-n-requires t c = omega (arith, (count_where _ _ _ _ (enum_count _ _ _ c.requires)).1)

pub measure_enum-overflow_add-at-2 : goal.measure_enum-overflow_add-at-2
measure_enum-overflow_add-at-2 t c = omega (arith, (count_where _ _ _ _ (enum_count _ _ _ c.requires)).1)

pub measure_enum-unreachable-requires : goal.measure_enum-unreachable-requires
measure_enum-unreachable-requires t c = tag_no _ _ _ c.requires _ (sym c.in_default.is ∙ c.expr_at.ensures)

pub measure_enum-bounds-s-at : goal.measure_enum-bounds-s-at
measure_enum-bounds-s-at t c = omega (arith, (count_where _ _ _ _ (enum_count _ _ _ c.requires)).1)

pub measure_enum-measure_members-m-requires : goal.measure_enum-measure_members-m-requires
measure_enum-measure_members-m-requires t c = (omega (arith, c.decreases), (rw c.u16_at-n.ensures (variants_read _ _ _ _ _ _ (enum_count _ _ _ c.requires) c.requires _ (sym c.in-Ok.is ∙ c.expr_at.ensures))))

pub measure_enum-closed_at-requires : goal.measure_enum-closed_at-requires
measure_enum-closed_at-requires t c = omega (arith, (count_where _ _ _ _ (enum_count _ _ _ c.requires)).1)

pub measure_enum-returns : goal.measure_enum-returns
measure_enum-returns t c = closed_same _ _ _ c.closed_at.ensures (rw (c.u16_at-n.ensures, c.packing_of-packing.ensures) at c.measure_members-m.ensures) (ap (close_of _ _) (members_packing _ _ _ _ _ _) ∙ enum_group _ _ _ _ _ _ (enum_count _ _ _ c.requires) c.requires (sym c.in-Ok.is ∙ c.expr_at.ensures) _) (enum_ended _ _ _ _ _ _ (enum_count _ _ _ c.requires) c.requires (sym c.in-Ok.is ∙ c.expr_at.ensures))

pub measure_group-overflow_add-at : goal.measure_group-overflow_add-at
measure_group-overflow_add-at t c = omega (arith, (count_where _ _ _ _ (group_count _ _ _ _ c.requires)).1)

pub measure_group-u16_at-n-requires : goal.measure_group-u16_at-n-requires
measure_group-u16_at-n-requires t c = omega (arith, (count_where _ _ _ _ (group_count _ _ _ _ c.requires)).1)

pub measure_group-overflow_add-at-2 : goal.measure_group-overflow_add-at-2
measure_group-overflow_add-at-2 t c = omega (arith, (count_where _ _ _ _ (group_count _ _ _ _ c.requires)).1)

pub measure_group-bounds-s-at : goal.measure_group-bounds-s-at
measure_group-bounds-s-at t c = omega (arith, (count_where _ _ _ _ (group_count _ _ _ _ c.requires)).1)

pub measure_group-measure_members-m-requires : goal.measure_group-measure_members-m-requires
measure_group-measure_members-m-requires t c = (omega (arith, c.decreases), (rw c.u16_at-n.ensures (group_reads _ _ _ _ _ _ (group_count _ _ _ _ c.requires) c.requires)))

pub measure_group-closed_at-requires : goal.measure_group-closed_at-requires
measure_group-closed_at-requires t c = omega (arith, (count_where _ _ _ _ (group_count _ _ _ _ c.requires)).1)

pub measure_group-returns : goal.measure_group-returns
measure_group-returns t c = closed_same _ _ _ c.closed_at.ensures (rw (c.u16_at-n.ensures, c.packing_of-packing.ensures) at c.measure_members-m.ensures) (ap (close_of _ _) (members_packing _ _ _ _ _ _) ∙ group_is _ _ _ _ _ _ (group_count _ _ _ _ c.requires) c.requires _) (group_ended _ _ _ _ _ _ (group_count _ _ _ _ c.requires) c.requires)

pub measure_members-loop-init : goal.measure_members-loop-init
measure_members-loop-init t c = joining_start c.requires _ refl refl

pub measure_member-unreachable-requires : goal.measure_member-unreachable-requires
measure_member-unreachable-requires t c = member_no _ c.args.kept.now _ _ _ c.requires _ (sym c.in_default.is ∙ c.member_head_at.ensures)

pub measure_member-measure_type-requires : goal.measure_member-measure_type-requires
measure_member-measure_type-requires t c = (omega (arith, c.decreases), member_reads _ _ _ _ _ (sym c.in-Ok.is ∙ c.member_head_at.ensures) c.requires)

pub measure_member-returns : goal.measure_member-returns
measure_member-returns t c = member_is _ _ _ _ _ c.requires _ (sym c.in-Ok.is ∙ c.member_head_at.ensures) c.measure_type.ensures

pub measure_members-measure_member-m-requires : goal.measure_members-measure_member-m-requires
measure_members-measure_member-m-requires t c = (omega (arith, c.decreases), member_read c.loop.invariant c.loop-test.true)

pub measure_members-loop-preserved : goal.measure_members-loop-preserved
measure_members-loop-preserved t c = joining_next c.loop.invariant c.loop-test.true c.measure_member-m.ensures c.join-so.ensures

pub measure_members-returns : goal.measure_members-returns
measure_members-returns t c = joining_end c.loop.invariant c.loop-test.false

pub measure_type-bounds-definitions-at : goal.measure_type-bounds-definitions-at
measure_type-bounds-definitions-at t c = type_there _ _ _ c.requires

pub measure_type-unreachable-requires : goal.measure_type-unreachable-requires
measure_type-unreachable-requires t c = no_other (type_opened _ _ _ _ c.requires c.form_of.ensures.form) c.requires (not_type _ c.in_default.not-OfType)

pub measure_type-overflow_add-body : goal.measure_type-overflow_add-body
measure_type-overflow_add-body t c = omega (arith, type_there _ _ _ c.requires)

pub measure_type-primitive-requires : goal.measure_type-primitive-requires
measure_type-primitive-requires t c = rw c.get_primitive_size.ensures (primitive_size _ (omega arith) (sym c.form_of.ensures.form ∙ primitive_meant (c.in-OfType.is ∙ ap OfType c.in-Primitive.is)))

pub measure_type-measure_name-requires : goal.measure_type-measure_name-requires
measure_type-measure_name-requires t c = type_ref_there (type_opened _ _ _ _ c.requires c.form_of.ensures.form) c.requires (type_ref_meant (c.in-OfType.is ∙ ap OfType c.in-TypeRef.is))

pub measure_type-overflow_add-result : goal.measure_type-overflow_add-result
measure_type-overflow_add-result t c = omega (arith, type_ref_there (type_opened _ _ _ _ c.requires c.form_of.ensures.form) c.requires (type_ref_meant (c.in-OfType.is ∙ ap OfType c.in-TypeRef.is)))

pub measure_type-overflow_sub-depth : goal.measure_type-overflow_sub-depth
measure_type-overflow_sub-depth t c = omega (arith, type_deep _ _ _ c.requires)

pub measure_type-measure_group-requires : goal.measure_type-measure_group-requires
measure_type-measure_group-requires t c = (omega (arith, type_deep _ _ _ c.requires, c.decreases), (struct_reads (type_opened _ _ _ _ c.requires c.form_of.ensures.form) c.requires (struct_meant (c.in-OfType.is ∙ ap OfType c.in-Struct.is))))

pub measure_type-overflow_sub-depth-in-Union : goal.measure_type-overflow_sub-depth-in-Union
measure_type-overflow_sub-depth-in-Union t c = omega (arith, type_deep _ _ _ c.requires)

pub measure_type-measure_group-requires-in-Union : goal.measure_type-measure_group-requires-in-Union
measure_type-measure_group-requires-in-Union t c = (omega (arith, type_deep _ _ _ c.requires, c.decreases), (union_reads (type_opened _ _ _ _ c.requires c.form_of.ensures.form) c.requires (union_meant (c.in-OfType.is ∙ ap OfType c.in-Union.is))))

pub measure_type-overflow_sub-depth-in-Enum : goal.measure_type-overflow_sub-depth-in-Enum
measure_type-overflow_sub-depth-in-Enum t c = omega (arith, type_deep _ _ _ c.requires)

pub measure_type-measure_enum-requires : goal.measure_type-measure_enum-requires
measure_type-measure_enum-requires t c = (omega (arith, type_deep _ _ _ c.requires, c.decreases), (enum_reads (type_opened _ _ _ _ c.requires c.form_of.ensures.form) c.requires (enum_meant (c.in-OfType.is ∙ ap OfType c.in-Enum.is))))

pub measure_type-overflow_sub-depth-in-Array : goal.measure_type-overflow_sub-depth-in-Array
measure_type-overflow_sub-depth-in-Array t c = omega (arith, type_deep _ _ _ c.requires)

pub measure_type-measure_array-requires : goal.measure_type-measure_array-requires
measure_type-measure_array-requires t c = (omega (arith, type_deep _ _ _ c.requires, c.decreases), (array_reads (type_opened _ _ _ _ c.requires c.form_of.ensures.form) c.requires (array_meant (c.in-OfType.is ∙ ap OfType c.in-Array.is))))

pub measure_type-overflow_sub-depth-in-SizeUnion : goal.measure_type-overflow_sub-depth-in-SizeUnion
measure_type-overflow_sub-depth-in-SizeUnion t c = omega (arith, type_deep _ _ _ c.requires)

pub measure_type-measure_group-requires-in-SizeUnion : goal.measure_type-measure_group-requires-in-SizeUnion
measure_type-measure_group-requires-in-SizeUnion t c = (omega (arith, type_deep _ _ _ c.requires, c.decreases), (size_union_reads (type_opened _ _ _ _ c.requires c.form_of.ensures.form) c.requires (size_union_meant (c.in-OfType.is ∙ ap OfType c.in-SizeUnion.is))))

pub measure_type-returns-in-Primitive : goal.measure_type-returns-in-Primitive
measure_type-returns-in-Primitive t c = record { is = primitive_sized c.primitive.result c.primitive.ensures.0 c.primitive.ensures.1 ∙ rw c.get_primitive_size.ensures (primitive_is _ (type_opened _ _ _ _ c.requires c.form_of.ensures.form) c.requires _ (primitive_meant (c.in-OfType.is ∙ ap OfType c.in-Primitive.is))); ended = primitive_ended _ (type_opened _ _ _ _ c.requires c.form_of.ensures.form) c.requires (primitive_meant (c.in-OfType.is ∙ ap OfType c.in-Primitive.is)) }

pub measure_type-returns-in-TypeRef : goal.measure_type-returns-in-TypeRef
measure_type-returns-in-TypeRef t c = record { is = c.measure_name.ensures ∙ type_ref_is _ (type_opened _ _ _ _ c.requires c.form_of.ensures.form) c.requires _ (type_ref_meant (c.in-OfType.is ∙ ap OfType c.in-TypeRef.is)); ended = type_ref_ended _ (type_opened _ _ _ _ c.requires c.form_of.ensures.form) c.requires (type_ref_meant (c.in-OfType.is ∙ ap OfType c.in-TypeRef.is)) }

pub measure_type-returns-in-Struct : goal.measure_type-returns-in-Struct
measure_type-returns-in-Struct t c = is_same (struct_is _ (type_opened _ _ _ _ c.requires c.form_of.ensures.form) c.requires _ (struct_meant (c.in-OfType.is ∙ ap OfType c.in-Struct.is))) (sym (struct_ends (type_opened _ _ _ _ c.requires c.form_of.ensures.form) (struct_meant (c.in-OfType.is ∙ ap OfType c.in-Struct.is)))) c.measure_group.ensures

pub measure_type-returns-in-Union : goal.measure_type-returns-in-Union
measure_type-returns-in-Union t c = is_same (union_is _ (type_opened _ _ _ _ c.requires c.form_of.ensures.form) c.requires _ (union_meant (c.in-OfType.is ∙ ap OfType c.in-Union.is))) (sym (union_ends (type_opened _ _ _ _ c.requires c.form_of.ensures.form) (union_meant (c.in-OfType.is ∙ ap OfType c.in-Union.is)))) c.measure_group-in-Union.ensures

pub measure_type-returns-in-Enum : goal.measure_type-returns-in-Enum
measure_type-returns-in-Enum t c = is_same (enum_is _ (type_opened _ _ _ _ c.requires c.form_of.ensures.form) c.requires _ (enum_meant (c.in-OfType.is ∙ ap OfType c.in-Enum.is))) (sym (enum_ends (type_opened _ _ _ _ c.requires c.form_of.ensures.form) (enum_meant (c.in-OfType.is ∙ ap OfType c.in-Enum.is)))) c.measure_enum.ensures

pub measure_type-returns-in-Array : goal.measure_type-returns-in-Array
measure_type-returns-in-Array t c = is_same (array_is _ (type_opened _ _ _ _ c.requires c.form_of.ensures.form) c.requires _ (array_meant (c.in-OfType.is ∙ ap OfType c.in-Array.is))) (sym (array_ends (type_opened _ _ _ _ c.requires c.form_of.ensures.form) (array_meant (c.in-OfType.is ∙ ap OfType c.in-Array.is)))) c.measure_array.ensures

pub measure_type-returns-in-SizeUnion : goal.measure_type-returns-in-SizeUnion
measure_type-returns-in-SizeUnion t c = is_same (size_union_is _ (type_opened _ _ _ _ c.requires c.form_of.ensures.form) c.requires _ (size_union_meant (c.in-OfType.is ∙ ap OfType c.in-SizeUnion.is))) (sym (size_union_ends (type_opened _ _ _ _ c.requires c.form_of.ensures.form) (size_union_meant (c.in-OfType.is ∙ ap OfType c.in-SizeUnion.is)))) c.measure_group-in-SizeUnion.ensures

pub measure_type-get_primitive_size-requires : goal.measure_type-get_primitive_size-requires
measure_type-get_primitive_size-requires t c = sym c.form_of.ensures.form ∙ primitive_meant (c.in-OfType.is ∙ ap OfType c.in-Primitive.is)
