use Rattle.draft.proofs.Reporting.{read_few}
use Rattle.report_opened.proofs.has_few_violations.Goals as goal

pub returns : goal.returns
returns c =
    let n = c.args.notes.now.opened in
    read_few _ {l = n.layout} {places = n.definitions.places.now} (λ i. (c.type_inv.bytes i).fits) (rw c.requires n.layout_of)
