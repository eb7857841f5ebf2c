-- `fields::type_end` meets its contract.
use native.Mathlib.Omega.{arith}
use Rattle.bundle.proofs.Forms.{not_type, primitive_meant, type_ref_meant}
use Rattle.bundle.proofs.TypeTrees.{no_other}
use Rattle.bundle.proofs.Parts.{type_opened}
use Rattle.fields.proofs.ShapeLaws.{primitive_end, type_ref_end}
use Rattle.fields.proofs.type_end.Goals as goal

pub returns-in_default : goal.returns-in_default
returns-in_default c = absurd (no_other (type_opened _ _ _ _ c.requires c.form_of.ensures.form) c.requires (not_type _ (c.in_default.not-OfType)))

pub overflow_add-result-in-TypeRef : goal.overflow_add-result-in-TypeRef
overflow_add-result-in-TypeRef c = omega (arith, (type_ref_end (type_opened _ _ _ _ c.requires c.form_of.ensures.form) c.requires (type_ref_meant (cc))).1)

pub returns-in-Primitive : goal.returns-in-Primitive
returns-in-Primitive c = primitive_end (type_opened _ _ _ _ c.requires c.form_of.ensures.form) c.requires (primitive_meant (cc))

pub returns-in-TypeRef : goal.returns-in-TypeRef
returns-in-TypeRef c = (type_ref_end (type_opened _ _ _ _ c.requires c.form_of.ensures.form) c.requires (type_ref_meant (cc))).0
