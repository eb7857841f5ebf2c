-- `notes::list_references` meets its contract: the invariant is `Listing`.
use native.Mathlib.Omega.{arith}
use Rattle.notes.proofs.Stays.{room_start}
use Rattle.notes.proofs.Lists.{listing_start, listing_room, listing_small, listing_next, listing_end}
use Rattle.notes.proofs.list_references.Goals as goal

pub overflow_cast-places : goal.overflow_cast-places
overflow_cast-places c = omega (arith, (room_start c.requires.0.table c.requires.1).small)

pub loop-i-init : goal.loop-i-init
loop-i-init c = listing_start c.requires.0 c.requires.2 c.requires.1.below (room_start c.requires.0.table c.requires.1)

pub list_definition-to-requires : goal.list_definition-to-requires
list_definition-to-requires c = let l = c.loop-i.invariant in (l.layout, l.fields, c.loop-i-test.true, listing_room l c.loop-i-test.true)

pub overflow_cast-places-in-loop-i : goal.overflow_cast-places-in-loop-i
overflow_cast-places-in-loop-i c =
    let e = c.list_definition-to.ensures in
    omega (arith, (listing_small c.loop-i.invariant c.loop-i-test.true e.0 e.1).0)

pub loop-i-preserved : goal.loop-i-preserved
loop-i-preserved c = let e = c.list_definition-to.ensures in listing_next c.loop-i.invariant c.loop-i-test.true e.0 e.1

pub returns : goal.returns
returns c = listing_end c.loop-i.invariant c.loop-i-test.false
