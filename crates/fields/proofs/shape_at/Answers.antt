-- `fields::shape_at` meets its contract: each form has its law in `ShapeLaws`.
use native.Mathlib.Omega.{arith}
use mathlib.Core.Path.{sym, ap, ◌∙◌}
use Rattle.meaning.specs.Tree.{type_ref}
use Rattle.bundle.proofs.Forms.{not_type, primitive_meant, type_ref_meant, struct_meant, union_meant, enum_meant, array_meant, size_union_meant}
use Rattle.bundle.proofs.TypeTrees.{no_other}
use Rattle.bundle.proofs.Heads.{count_refused}
use Rattle.bundle.proofs.Parts.{type_ref_there, type_opened, struct_count}
use Rattle.fields.proofs.ShapeLaws.{primitive_plain, union_plain, size_union_plain, type_ref_is, struct_is, enum_is, array_is}
use Rattle.fields.proofs.shape_at.Goals as goal

pub returns-in_default : goal.returns-in_default
returns-in_default c = absurd (no_other (type_opened _ _ _ _ c.requires c.form_of.ensures.form) c.requires (not_type _ (c.in_default.not-OfType)))

pub overflow_add-at : goal.overflow_add-at
overflow_add-at c = omega (arith, type_ref_there (type_opened _ _ _ _ c.requires c.form_of.ensures.form) c.requires (type_ref_meant (cc)))

pub u16_at-requires : goal.u16_at-requires
u16_at-requires c = type_ref_there (type_opened _ _ _ _ c.requires c.form_of.ensures.form) c.requires (type_ref_meant (cc))

pub returns-in-Primitive : goal.returns-in-Primitive
returns-in-Primitive c = primitive_plain (type_opened _ _ _ _ c.requires c.form_of.ensures.form) c.requires (primitive_meant (cc))

pub returns-in-TypeRef : goal.returns-in-TypeRef
returns-in-TypeRef c = type_ref_is (type_opened _ _ _ _ c.requires c.form_of.ensures.form) c.requires (type_ref_meant (cc)) ∙ ap type_ref (sym c.u16_at.ensures)

pub returns-in-Ok : goal.returns-in-Ok
returns-in-Ok c = struct_is (type_opened _ _ _ _ c.requires c.form_of.ensures.form) c.requires _ _ (struct_meant (cc)) c.in-Ok.ensures

pub returns-in-Err : goal.returns-in-Err
returns-in-Err c = absurd (count_refused _ _ _ (struct_count (type_opened _ _ _ _ c.requires c.form_of.ensures.form) c.requires (struct_meant (cc))) c.in-Err.ensures)

pub returns-in-Union : goal.returns-in-Union
returns-in-Union c = union_plain (type_opened _ _ _ _ c.requires c.form_of.ensures.form) c.requires (union_meant (cc))

pub returns-in-Enum : goal.returns-in-Enum
returns-in-Enum c = enum_is (type_opened _ _ _ _ c.requires c.form_of.ensures.form) c.requires (enum_meant (cc))

pub returns-in-Array : goal.returns-in-Array
returns-in-Array c = array_is (type_opened _ _ _ _ c.requires c.form_of.ensures.form) c.requires (array_meant (cc))

pub returns-in-SizeUnion : goal.returns-in-SizeUnion
returns-in-SizeUnion c = size_union_plain (type_opened _ _ _ _ c.requires c.form_of.ensures.form) c.requires (size_union_meant (cc))
