use Prim.Native.Nat.{◌+◌, ◌*◌}
use mathlib.Core.Path.{refl, sym, subst}
use native.Mathlib.Omega.{arith}
use lib.ListN.{set}
use Rattle.meaning.specs.Chain.{chain_of}
use Rattle.chain.specs.Found.{Stands}
use Rattle.chain.specs.Index.{named}
use Rattle.search.specs.Work.{list_in}
use Rattle.search.proofs.Reading.{measured_short, lent_kept, from_unmarked, from_marked, from_counted, from_none, alone_below, alone_stands}
use Rattle.search.proofs.Wanted.{wanted_is, wanted_on}
use Rattle.read_chain.proofs.find.Goals as goal

pub returns-then-from-to : goal.returns-then-from-to
returns-then-from-to c =
    let p = c.requires in
    let a = c.args in
    (wanted_is (record { told = subst (λ to. Stands (chain_of (named a.count a.edges.now) a.from to) (list_in a.count (set a.work.now (6 * a.count + 3) a.from)) 1) c.if-from-to.true (alone_stands p.0 a.work.now a.from p.1.room) }), lent_kept p.0 p.1 (alone_below p.0 a.work.now a.from p.1.room))

pub returns-in_err-x : goal.returns-in_err-x
returns-in_err-x c = let p = c.requires in rw c.from_residual.ensures (wanted_is (record { told = from_none p.0 c.in_err-x.ensures c.if-from-to.false }), p.1)

pub returns-then-n-eq0 : goal.returns-then-n-eq0
returns-then-n-eq0 c =
    let i = c.requires.0 in
    let x = c.in_ok-x.ensures in
    let r = c.ready.ensures in
    rw (sym x.here) (wanted_is (record { told = from_unmarked i x.within (λ i. (c.type_inv.edges i).fits) (r.0.sought r.1).0 r.2 c.if-n-eq0.true }), r.0)

pub fill-requires-clause-indexed : goal.fill-requires-clause-indexed
fill-requires-clause-indexed c =
    let i = c.requires.0 in
    let r = c.ready.ensures in
    let h = c.with_hops.ensures in
    (i, (h.0 c.args.to r.0).1.room, omega (arith, h.1 c.in_ok-x.x, measured_short i (λ i. (c.type_inv.edges i).fits) (r.0.sought r.1).0 c.in_ok-x.x c.in_ok-x.ensures.within (omega (arith, c.if-n-eq0.false))))

pub returns-then-wanted : goal.returns-then-wanted
returns-then-wanted c =
    let i = c.requires.0 in
    let x = c.in_ok-x.ensures in
    let r = c.ready.ensures in
    let h = c.with_hops.ensures in
    let f = c.fill.ensures in
    let t = h.0 c.args.to r.0 in
    let short = measured_short i (λ i. (c.type_inv.edges i).fits) (r.0.sought r.1).0 c.in_ok-x.x x.within (omega (arith, c.if-n-eq0.false)) in
    rw (sym x.here) (wanted_is (record { told = from_marked i x.within t.0 _ c.if-n-eq0.false (h.1 c.in_ok-x.x) short (omega (arith, f.1.size, t.1.room)) f.0 }), lent_kept i t.1 f.1)

pub returns-else-wanted : goal.returns-else-wanted
returns-else-wanted c =
    let i = c.requires.0 in
    let x = c.in_ok-x.ensures in
    let r = c.ready.ensures in
    rw (sym x.here) (wanted_on (from_counted i x.within (λ i. (c.type_inv.edges i).fits) (r.0.sought r.1).0 c.if-n-eq0.false refl r.0.room c.if-wanted.false) (λ l h. record { told = h }), r.0)
