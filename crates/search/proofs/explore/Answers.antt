-- `search::explore` meets its contract. The invariant: the search is the one that was begun; the entries that are left fall.
use native.Mathlib.Omega.{arith}
use Rattle.search.proofs.Turns.{sizes}
use Rattle.search.proofs.Reading.{measured_open, measured_on}
use Rattle.search.proofs.explore.Goals as goal

pub follow-requires : goal.follow-requires
follow-requires c = let p = c.requires in let l = c.loop-work-test.true in (p.0, l, measured_open p.0 (c.loop-work.invariant p.2.0 p.2.1) l)

pub returns-then-follow : goal.returns-then-follow
returns-then-follow c = let r = c.follow.ensures in (λ to q. measured_on c.requires.0 c.loop-work-test.true r.paused (c.loop-work.invariant to q), r.found c.if-follow.true)

pub loop-work-smaller : goal.loop-work-smaller
loop-work-smaller c = let p = c.requires in let l = c.loop-work-test.true in let o = measured_open p.0 (c.loop-work.invariant p.2.0 p.2.1) l in omega (arith, (sizes p.0 o.1 l).entries, c.follow.ensures.on c.if-follow.false)

pub loop-work-preserved : goal.loop-work-preserved
loop-work-preserved c = λ to q. measured_on c.requires.0 c.loop-work-test.true c.follow.ensures.paused (c.loop-work.invariant to q)
