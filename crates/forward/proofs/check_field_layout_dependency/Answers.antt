use Rattle.fields.proofs.Lookups.{defined, undefined}
use Rattle.checks.proofs.ChainChecks.{fine}
use Rattle.forward.proofs.FieldChecks.{field_other, field_nowhere, field_fine, field_forward_lem}
use Rattle.forward.proofs.check_field_layout_dependency.Goals as goal

pub returns-in_default : goal.returns-in_default
returns-in_default c = (λ v. fine _ _ _ (field_other _ _ _ _ _ _ c.shape_at.ensures v c.in_default.not-TypeRef), c.requires.seen)

pub returns-in_err-i : goal.returns-in_err-i
returns-in_err-i c =
    rw c.from_residual.ensures
    (λ v. fine _ _ _ (field_nowhere _ _ _ _ _ _ c.shape_at.ensures v c.in-TypeRef.is (undefined c.args.notes.now.opened.definitions.table _ c.in_err-i.ensures)), c.requires.seen)

pub returns-in_err-p : goal.returns-in_err-p
returns-in_err-p c =
    let d = defined c.args.notes.now.opened.definitions.table c.in_ok-i.ensures in
    rw c.from_residual-in_err-p.ensures
    (λ v. fine _ _ _ (field_fine _ _ _ _ _ _ c.shape_at.ensures v c.in-TypeRef.is d c.find_forward.ensures.0 c.in_err-p.was), c.find_forward.ensures.1)

pub returns : goal.returns
returns c =
    let d = defined c.args.notes.now.opened.definitions.table c.in_ok-i.ensures in
    (λ v. field_forward_lem _ _ _ _ _ _ c.shape_at.ensures v c.in-TypeRef.is d c.find_forward.ensures.0 c.in_ok-p.was c.in_ok-later.ensures c.args.list.now c.set_chain.ensures, c.find_forward.ensures.1)
