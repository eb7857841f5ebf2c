-- `notes::note` meets its contract.
use Rattle.field_index.proofs.Constants.{constants_stay}
use Rattle.notes.proofs.Stays.{layout_table}
use Rattle.notes.proofs.Lists.{few}
use Rattle.notes.proofs.note.Goals as goal

pub list_references-requires : goal.list_references-requires
list_references-requires c =
    let l = c.requires.0 in
    let k = c.note_constants.ensures in
    let n = c.note_structs-used.ensures in
    (layout_table l n.0, n.1, constants_stay (few n.0) n.2 k.1)
