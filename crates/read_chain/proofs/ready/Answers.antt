use mathlib.Core.Path.{refl}
use mathlib.Core.Logic.{inl, inr}
use native.Mathlib.Omega.{arith}
use lib.ListN.{length-set}
use lib.Seq.{get_or-set_same}
use Rattle.search.proofs.Turns.{kept_set}
use Rattle.search.proofs.Reading.{measured_kept, settled_for, settled_kept, lent_begun}
use Rattle.read_chain.proofs.ready.Goals.{then-work-count-eq1, else-work-count-eq1}
use Rattle.read_chain.proofs.ready.Goals as goal

pub returns : goal.returns
returns c =
    let p = c.requires in
    let e = c.begin.ensures in
    let r = c.explore.ensures in
    let w = c.explore.new.work in
    let k = kept_set w 0 1 (inl refl) in
    let t = lent_begun p.0 (omega (arith, c.explore.auto.work, e.0.room, length-set w 0 1)) (get_or-set_same w 0 1 0 (omega (arith, c.explore.auto.work, e.0.room))) (measured_kept p.0 (r.0 c.args.to (e.0.sought e.1).0) k) in
    (t.0, t.1, settled_kept p.0 (settled_for p.0 (elim c.if-work-count-eq1.branch [ then-work-count-eq1 w ↦ inl w.until-is | else-work-count-eq1 w ↦ inr (omega (arith, w.until-is)) ]) r.1) k)
