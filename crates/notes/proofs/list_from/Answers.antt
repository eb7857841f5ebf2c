-- `notes::list_from` meets its contract: the invariant is `Walk`.
use native.Mathlib.Omega.{arith}
use Rattle.notes.proofs.Stays.{kept_within, layout_kept, fields_kept, fields_more}
use Rattle.notes.proofs.Entries.{walk_room, walk_next, walk_before}
use Rattle.notes.proofs.Lists.{few}
use Rattle.notes.proofs.list_from.Goals as goal

pub put_entry-requires : goal.put_entry-requires
put_entry-requires c =
    let w = c.loop-p.invariant in
    let g = c.in-Some.ensures in
    let k = kept_within c.requires.1.from w.only in
    (layout_kept k c.requires.0, fields_more w.more (fields_kept (few c.requires.0.table) k c.requires.1), g.fit, walk_room w g c.requires.4)

pub loop-p-smaller : goal.loop-p-smaller
loop-p-smaller c = let g = c.in-Some.ensures in omega (arith, g.forward, walk_before c.loop-p.invariant g)

pub loop-p-preserved : goal.loop-p-preserved
loop-p-preserved c = walk_next c.loop-p.invariant c.in-Some.ensures c.put_entry.ensures.0 c.put_entry.ensures.1
