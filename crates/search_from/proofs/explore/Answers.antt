use native.Mathlib.Omega.{arith}
use Rattle.search_from.proofs.Turns.{entries_few, start, explored, followed_over}
use Rattle.search_from.proofs.explore.Goals as goal

pub loop-head-init : goal.loop-head-init
loop-head-init c =
    let p = c.requires in
    let t = start p.indexed.0 p.from_bound.0 p.indexed.1 p.indexed.2 c.mark-n.ensures in
    (t.0, t.1 c.args.to p.from_bound.2)

pub overflow_add-head : goal.overflow_add-head
overflow_add-head c = let s = c.requires.indexed.0 in omega (arith, s.few, s.small, entries_few s c.loop-head.invariant.0)

pub returns-then-work-to-ne0 : goal.returns-then-work-to-ne0
returns-then-work-to-ne0 c = followed_over (c.follow-n.ensures c.args.from c.loop-head.invariant.0) c.if-work-to-ne0.true

pub loop-head-smaller : goal.loop-head-smaller
loop-head-smaller c = omega (arith, entries_few c.requires.indexed.0 c.loop-head.invariant.0)

pub returns : goal.returns
returns c = explored c.requires.indexed.0 c.loop-head.invariant.0 (omega arith) c.loop-head.invariant.1
