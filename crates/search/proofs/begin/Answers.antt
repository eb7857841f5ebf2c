use native.Mathlib.Omega.{arith}
use Rattle.search.specs.Work.{at}
use Rattle.search.proofs.Turns.{cleared, begun}
use Rattle.search.proofs.Reading.{lent_begun}
use Rattle.search.proofs.begin.Goals as goal

pub returns-in-Some : goal.returns-in-Some
returns-in-Some c =
    let p = c.requires in
    let o = c.in-Some.ensures in
    let q = cleared p.0 c.clear.new.work (omega (arith, c.clear.auto.work, p.1.room)) c.clear.ensures in
    let t = begun p.0 q c.in-Some.b o.within in
    lent_begun p.0 t.2 t.1 (at c.in-Some.b o.here t.0)
