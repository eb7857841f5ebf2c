use mathlib.Core.Logic.{⊎_elim}
use Rattle.bundle.specs.View.{expr_form_meant}
use Rattle.writer.proofs.ShapeLaws.{few_names}
use Rattle.writer.proofs.expr_parts.Goals as goal

pub literal_parts-requires : goal.literal_parts-requires
unfolding expr_form_meant
literal_parts-requires c = rw c.in-Literal.is at c.requires

pub name_parts-requires : goal.name_parts-requires
unfolding expr_form_meant
name_parts-requires c = few_names _ (rw c.in-FieldRef.is at c.requires)

pub returns-in-Literal : goal.returns-in-Literal
unfolding expr_form_meant
returns-in-Literal c = rw c.in-Literal.is c.literal_parts.ensures

pub returns-in-FieldRef : goal.returns-in-FieldRef
unfolding expr_form_meant
returns-in-FieldRef c = rw c.in-FieldRef.is c.name_parts.ensures

pub returns-in-Sizeof : goal.returns-in-Sizeof
unfolding expr_form_meant
returns-in-Sizeof c = ⊎_elim (λ e. rw e c.name_parts-in-Sizeof.ensures) (λ e. rw e c.name_parts-in-Sizeof.ensures) c.in-Sizeof.is

pub returns-in-Binary : goal.returns-in-Binary
unfolding expr_form_meant
returns-in-Binary c = ⊎_elim (λ e. rw e c.name_parts-in-Binary.ensures) (λ e. rw e c.name_parts-in-Binary.ensures) c.in-Binary.is
