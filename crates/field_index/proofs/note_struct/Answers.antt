use lib.ListN.{length-set}
use native.Mathlib.Omega.{arith}
use Rattle.bundle.proofs.LookupLaws.{placed_at}
use Rattle.field_index.proofs.Structs.{shape_fields_lem, struct_empty, room_for, below_none, below_struct, table_set}
use Rattle.field_index.proofs.note_struct.Goals as goal

pub shape_at-shape-requires : goal.shape_at-shape-requires
shape_at-shape-requires c = (placed_at c.requires.0 c.args.i c.requires.1).reads

pub returns-in_default : goal.returns-in_default
returns-in_default c = below_none c.requires.0 c.requires.1 c.requires.2 (shape_fields_lem _ _ c.shape_at-shape.result c.in_default.not-Struct c.shape_at-shape.ensures)

pub returns-then-n-eq0 : goal.returns-then-n-eq0
returns-then-n-eq0 c = below_none c.requires.0 c.requires.1 c.requires.2 (struct_empty _ _ c.in-Struct.ensures c.if-n-eq0.true)

pub note_fields-requires : goal.note_fields-requires
note_fields-requires c =
    let r = room_for c.requires.0 c.requires.1 c.requires.2 c.in-Struct.ensures in
    record {
      table = (table_set (table_set c.requires.0 _ 0 (omega arith)) _ _ (omega arith), c.in-Struct.ensures.reads);
      n_nonzero = (omega arith, c.requires.2.below.from, simp length-set r.0, r.1);
    }

pub returns : goal.returns
returns c =
    let e = c.note_fields.ensures in
    rw e.ends (below_struct c.requires.0 c.requires.1 c.requires.2 c.in-Struct.ensures e.noted.0 e.noted.1 e.noted.2)
