use mathlib.Core.Path.{refl}
use mathlib.Core.Logic.{⊎_elim}
use Rattle.bundle.specs.View.{type_form_meant}
use Rattle.writer.proofs.type_parts.Goals as goal

pub returns-in-Primitive : goal.returns-in-Primitive
unfolding type_form_meant
returns-in-Primitive c = rw c.in-Primitive.is c.name_parts.ensures

pub returns-in-TypeRef : goal.returns-in-TypeRef
unfolding type_form_meant
returns-in-TypeRef c = rw c.in-TypeRef.is c.name_parts-in-TypeRef.ensures

pub returns-in-Array : goal.returns-in-Array
unfolding type_form_meant
returns-in-Array c = rw c.in-Array.is refl

pub returns-in-Struct : goal.returns-in-Struct
unfolding type_form_meant
returns-in-Struct c = ⊎_elim (λ e. rw e refl) (⊎_elim (λ e. rw e refl) (⊎_elim (λ e. rw e refl) (λ e. rw e refl))) c.in-Struct.is
