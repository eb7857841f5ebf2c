-- `search::follow` meets its contract. The invariant: the edges that lead to the entry are followed up to e.
use mathlib.Core.Path.{refl}
use native.Mathlib.Omega.{arith}
use Rattle.chain.specs.Index.{from_in}
use Rattle.search.proofs.Turns.{sizes, follow_room, follow_turn, follow_early, follow_all}
use Rattle.search.proofs.follow.Goals as goal

pub bounds-work-head : goal.bounds-work-head
bounds-work-head c = let p = c.requires in let z = sizes p.0 p.2.1 p.1 in omega arith

pub overflow_add-far-2 : goal.overflow_add-far-2
overflow_add-far-2 c = let p = c.requires in let z = sizes p.0 p.2.1 p.1 in omega arith

pub add_new-n-requires : goal.add_new-n-requires
add_new-n-requires c = let p = c.requires in let f = c.loop-e.invariant p.2.0 p.2.1 in let l = c.loop-e-test.true in let z = sizes p.0 f.exploring f.entry in let y = p.0.froms c.loop-e.e l in (omega arith, omega arith, λ fresh. omega (arith, follow_room p.0 f (from_in c.args.edges.now c.loop-e.e) y fresh))

pub overflow_cast-work : goal.overflow_cast-work
overflow_cast-work c = let p = c.requires in let f = c.loop-e.invariant p.2.0 p.2.1 in let t = follow_turn p.0 f c.loop-e-test.true c.add_new-n.ensures in let z = sizes p.0 t.exploring t.entry in omega arith

pub returns-then-y-until : goal.returns-then-y-until
returns-then-y-until c = let p = c.requires in follow_early p.0 p.2 c.loop-e.invariant c.loop-e-test.true c.add_new-n.ensures c.if-y-until.true

pub loop-e-preserved : goal.loop-e-preserved
loop-e-preserved c = λ b q. follow_turn c.requires.0 (c.loop-e.invariant b q) c.loop-e-test.true c.add_new-n.ensures

pub overflow_cast-work-2 : goal.overflow_cast-work-2
overflow_cast-work-2 c = let p = c.requires in let f = c.loop-e.invariant p.2.0 p.2.1 in let z = sizes p.0 f.exploring f.entry in omega arith

pub returns : goal.returns
returns c = let p = c.requires in follow_all p.0 p.2 c.loop-e.invariant refl (omega arith)
