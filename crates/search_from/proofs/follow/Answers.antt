use native.Mathlib.Omega.{arith}
use Rattle.search_from.proofs.Turns.{bounds, follow_start, follow_room, follow_found, follow_turn, follow_end}
use Rattle.search_from.proofs.follow.Goals as goal

-- three times the same: with `bounds` named on the function, as `using`, the check does not find them
pub offset_bounds-work-head : goal.offset_bounds-work-head
offset_bounds-work-head c = let p = c.requires in let z = bounds p.0 p.3.1 p.1 in omega arith

pub bounds-work-head : goal.bounds-work-head
bounds-work-head c = let p = c.requires in let z = bounds p.0 p.3.1 p.1 in omega arith

pub overflow_add-long : goal.overflow_add-long
overflow_add-long c = let p = c.requires in let z = bounds p.0 p.3.1 p.1 in omega arith

pub loop-e-init : goal.loop-e-init
loop-e-init c = let p = c.requires in (λ a q. follow_start p.0 q p.1, p.2)

pub mark-n-requires : goal.mark-n-requires
mark-n-requires c =
    let p = c.requires in
    let f = c.loop-e.invariant.0 p.3.0 p.3.1 in
    let l = c.loop-e-test.true in
    let y = p.0.froms c.loop-e.e l in
    let z = bounds p.0 f.exploring f.entry in
    (omega arith, omega arith, λ fresh. let r = follow_room p.0 f l fresh in omega arith)

pub returns-then-y-to : goal.returns-then-y-to
returns-then-y-to c = let i = c.loop-e.invariant in λ a q. follow_found c.requires.0 (i.0 a q) c.loop-e-test.true i.1 c.if-y-to.true c.mark-n.ensures

pub loop-e-preserved : goal.loop-e-preserved
loop-e-preserved c =
    let p = c.requires in
    let i = c.loop-e.invariant in
    let l = c.loop-e-test.true in
    (λ a q. (follow_turn p.0 (i.0 a q) l i.1 c.if-y-to.false c.mark-n.ensures).0, (follow_turn p.0 (i.0 p.3.0 p.3.1) l i.1 c.if-y-to.false c.mark-n.ensures).1)

pub returns : goal.returns
returns c = let i = c.loop-e.invariant in λ a q. follow_end c.requires.0 (i.0 a q) (omega arith) i.1
