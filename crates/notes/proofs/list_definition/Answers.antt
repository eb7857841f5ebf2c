-- `notes::list_definition` meets its contract.
use native.Mathlib.Omega.{arith}
use Rattle.sizes.proofs.ReferenceLaws.{type_bound}
use Rattle.notes.proofs.Lists.{refs_there, refs_room}
use Rattle.notes.proofs.list_definition.Goals as goal

pub list_from-requires : goal.list_from-requires
list_from-requires c =
    let at = c.place_of-at.ensures.at in
    let ends = c.end_of-end.ensures in
    (c.requires.0, c.requires.1, type_bound 24 _ _ _ (omega arith) ends, refs_there c.requires.0.table c.requires.2 at ends, refs_room c.requires.0.table c.requires.2 at ends c.requires.3)
