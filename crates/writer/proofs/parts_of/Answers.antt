use native.Mathlib.Omega.{arith}
use Rattle.bundle.specs.View.{form_meant}
use Rattle.writer.proofs.ShapeLaws.{kind_sound, record_kind_lem}
use Rattle.writer.proofs.parts_of.Goals as goal

pub expr_parts-requires : goal.expr_parts-requires
unfolding form_meant
expr_parts-requires c = kind_sound _ _ _ (omega arith) c.form_of.ensures.form c.in-OfExpr.is

pub returns-in-OfExpr : goal.returns-in-OfExpr
unfolding form_meant
returns-in-OfExpr c = rw (← c.form_of.ensures.form, c.in-OfExpr.is) c.expr_parts.ensures

pub returns-in-OfType : goal.returns-in-OfType
unfolding form_meant
returns-in-OfType c = rw (← c.form_of.ensures.form, c.in-OfType.is) c.type_parts.ensures

pub returns-in-OfMember : goal.returns-in-OfMember
unfolding form_meant
returns-in-OfMember c = rw (← c.form_of.ensures.form, c.in-OfMember.is) c.member_parts.ensures

pub returns-in-OfRecord : goal.returns-in-OfRecord
unfolding form_meant
returns-in-OfRecord c = rw (← c.form_of.ensures.form, c.in-OfRecord.is, record_kind_lem _ _ _ (omega arith) c.form_of.ensures.form c.in-OfRecord.is) c.record_parts.ensures

pub returns-in-Unknown : goal.returns-in-Unknown
unfolding form_meant
returns-in-Unknown c = rw (← c.form_of.ensures.form, c.in-Unknown.is)
