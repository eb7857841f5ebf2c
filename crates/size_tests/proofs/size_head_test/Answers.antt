-- `size_tests::size_head_test` meets its contract, form by form.
use mathlib.Core.Path.{sym, ap, ◌∙◌}
use Rattle.bundle.specs.declared.Form.TheVariants.{OfType}
use Rattle.bundle.proofs.Forms.{not_type, primitive_meant, type_ref_meant, struct_meant, union_meant, enum_meant, array_meant, size_union_meant}
use Rattle.bundle.proofs.TypeTrees.{no_other}
use Rattle.bundle.proofs.Parts.{type_opened}
use Rattle.size_tests.proofs.HeadTestLaws.{head_reads, head_there, primitive_head, type_ref_head, struct_head, union_head, size_union_head}
use Rattle.size_tests.proofs.size_head_test.Goals as goal

pub bounds-s-at : goal.bounds-s-at
bounds-s-at c = head_there _ _ c.requires.1

pub returns-in_default : goal.returns-in_default
returns-in_default c = absurd (no_other (type_opened _ _ _ _ (head_reads _ _ c.requires.1) c.form_of.ensures.form) (head_reads _ _ c.requires.1) (not_type _ (c.in_default.not-OfType)))

pub enum_head_test-requires : goal.enum_head_test-requires
enum_head_test-requires c = (c.requires.0, c.requires.1, sym c.form_of.ensures.form ∙ (enum_meant (c.in-OfType.is ∙ ap OfType c.in-Enum.is)))

pub array_head_test-requires : goal.array_head_test-requires
array_head_test-requires c = (c.requires.0, c.requires.1, sym c.form_of.ensures.form ∙ (array_meant (c.in-OfType.is ∙ ap OfType c.in-Array.is)))

pub returns-in-Primitive : goal.returns-in-Primitive
returns-in-Primitive c = primitive_head _ _ c.requires.1 (type_opened _ _ _ _ (head_reads _ _ c.requires.1) c.form_of.ensures.form) (primitive_meant (c.in-OfType.is ∙ ap OfType c.in-Primitive.is))

pub returns-in-TypeRef : goal.returns-in-TypeRef
returns-in-TypeRef c = type_ref_head _ _ c.requires.1 (type_opened _ _ _ _ (head_reads _ _ c.requires.1) c.form_of.ensures.form) (type_ref_meant (c.in-OfType.is ∙ ap OfType c.in-TypeRef.is))

pub returns-in-Struct : goal.returns-in-Struct
returns-in-Struct c = struct_head _ _ c.requires.1 (type_opened _ _ _ _ (head_reads _ _ c.requires.1) c.form_of.ensures.form) (struct_meant (c.in-OfType.is ∙ ap OfType c.in-Struct.is))

pub returns-in-Union : goal.returns-in-Union
returns-in-Union c = union_head _ _ c.requires.1 (type_opened _ _ _ _ (head_reads _ _ c.requires.1) c.form_of.ensures.form) (union_meant (c.in-OfType.is ∙ ap OfType c.in-Union.is))

pub returns-in-SizeUnion : goal.returns-in-SizeUnion
returns-in-SizeUnion c = size_union_head _ _ c.requires.1 (type_opened _ _ _ _ (head_reads _ _ c.requires.1) c.form_of.ensures.form) (size_union_meant (c.in-OfType.is ∙ ap OfType c.in-SizeUnion.is))
