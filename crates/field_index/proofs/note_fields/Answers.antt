-- `field_index::note_fields` meets its contract: the invariant is that of `Walking`.
use native.Mathlib.Omega.{arith}
use Rattle.fields.proofs.Walking.{field_reads}
use Rattle.field_index.proofs.Structs.{table_within}
use Rattle.field_index.proofs.Walking.{noting_start, started, noting_name, noting_next, noting_end}
use Rattle.field_index.proofs.note_fields.Goals as goal

pub loop-k-init : goal.loop-k-init
loop-k-init c = noting_start c.args.n c.args.notes.now c.args.a c.requires.n_nonzero.2 c.args.at c.requires.table.1

pub field_at-field-requires : goal.field_at-field-requires
field_at-field-requires c = field_reads c.loop-k.invariant.pass (omega arith)

pub note_name-d-requires-clause-noted_to : goal.note_name-d-requires-clause-noted_to
note_name-d-requires-clause-noted_to c = (_, c.loop-k.invariant.noted, noting_name c.loop-k.invariant (omega arith) c.field_at-field.ensures)

pub invariant_of-definitions : goal.invariant_of-definitions
invariant_of-definitions c = let n = c.requires.n_nonzero in let begun = started c.args.n c.args.notes.now c.args.a n.2 in
    record { table = table_within (table_within (table_within c.requires.table.0 n.1 begun) n.1 c.loop-k.invariant.only) (omega (arith, n.1)) c.note_name-d.ensures.1 }

pub loop-k-preserved : goal.loop-k-preserved
loop-k-preserved c = noting_next c.loop-k.invariant (omega arith) c.field_at-field.ensures c.note_name-d.ensures (omega (arith, c.requires.n_nonzero.2, (started c.args.n c.args.notes.now c.args.a c.requires.n_nonzero.2).size)) c.lead_at-lead.ensures.0

pub returns-clause-noted : goal.returns-clause-noted
returns-clause-noted c = noting_end c.loop-k.invariant (omega arith) c.requires.n_nonzero.0 c.requires.n_nonzero.2 c.requires.table.1 (started c.args.n c.args.notes.now c.args.a c.requires.n_nonzero.2)
