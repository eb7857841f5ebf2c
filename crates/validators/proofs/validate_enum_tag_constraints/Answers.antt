-- `validators::validate_enum_tag_constraints` meets its contract.
use native.Mathlib.Omega.{arith}
use mathlib.Core.Path.{sym, subst}
use Rattle.validate.specs.Validating.{Wrote, Room}
use Rattle.validate.proofs.Validators.{references_inside, enum_violations}
use Rattle.validators.proofs.validate_enum_tag_constraints.Goals as goal

pub overflow_add-subject : goal.overflow_add-subject
overflow_add-subject c = omega (arith, c.requires.enum_at.0.inside)

pub validate_references-requires : goal.validate_references-requires
validate_references-requires c = let a = c.requires in
    let g = references_inside c.references_of-references.ensures in record { room = a.room; among = a.among; end_in_bounds = (g.0, g.1, subst (Room c.args.report.now) (enum_violations c.args.subject c.requires.enum_at.0 c.references_of-references.ensures) c.requires.enum_at.1) }

pub shape_of-work : goal.shape_of-work
shape_of-work c = c.validate_references.auto.work

pub returns : goal.returns
returns c = let w = c.validate_references in
    (subst (λ vs. Wrote vs c.args.report.now w.new.report) (sym (enum_violations c.args.subject c.requires.enum_at.0 c.references_of-references.ensures)) w.ensures.0, w.ensures.1)
