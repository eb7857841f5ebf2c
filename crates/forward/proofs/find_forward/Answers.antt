-- `forward::find_forward` meets its contract.
use native.Mathlib.Omega.{arith}
use Rattle.forward.proofs.SeenReferences.{seen_from, seen_ends, seen_stop, stop_found, stop_nothing, stop_forward, seen_put}
use Rattle.forward.proofs.find_forward.Goals as goal

pub find_later_field-found-requires : goal.find_later_field-found-requires
find_later_field-found-requires c =
    let p = c.requires in
    (seen_ends (seen_from c.args.notes.now.noted.references p.1 _ p.0 c.unwrap_or-from.ensures), c.args.notes.now.noted.references.within _ p.0)

pub returns-in_err-at : goal.returns-in_err-at
returns-in_err-at c =
    let p = c.requires in
    let from = seen_from c.args.notes.now.noted.references p.1 _ p.0 c.unwrap_or-from.ensures in
    let w = seen_stop from c.find_later_field-found.ensures.0 in
    let none = seen_stop from c.in_err-at.ensures.0 in
    rw c.from_residual.ensures (
      stop_forward c.args.notes.now.opened.definitions.table _ p.0 none (stop_nothing none (omega arith)),
      rw c.unwrap_or.ensures (seen_put p.1 _ (omega (arith, c.args.notes.now.opened.definitions.table.placed.room, c.args.notes.now.opened.definitions.table.count, p.0)) w.seen),
    )

pub returns : goal.returns
returns c =
    let p = c.requires in
    let from = seen_from c.args.notes.now.noted.references p.1 _ p.0 c.unwrap_or-from.ensures in
    let w = seen_stop from c.find_later_field-found.ensures.0 in
    let one = seen_stop from c.in_ok-at.ensures.0 in (
      stop_forward c.args.notes.now.opened.definitions.table _ p.0 one (stop_found one (omega (arith, c.in_ok-at.ensures.1))),
      rw c.unwrap_or.ensures (seen_put p.1 _ (omega (arith, c.args.notes.now.opened.definitions.table.placed.room, c.args.notes.now.opened.definitions.table.count, p.0)) w.seen),
    )
