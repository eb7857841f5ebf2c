use mathlib.Core.Path.{refl, sym}
use native.Mathlib.Omega.{arith}
use Rattle.search_from.proofs.Naming.{none_lone, count_lone}
use Rattle.search_from.proofs.Answers.{listed, place_behind, found_narrow, found_listed}
use Rattle.search_from.proofs.find.Goals as goal

pub returns-then-from-to : goal.returns-then-from-to
returns-then-from-to g c = rw (sym c.if-from-to.true) (c.alone.ensures c.args.count c.args.edges.now)

pub returns-in_default : goal.returns-in_default
returns-in_default g c =
    let s = c.requires.0 in
    let a = c.args in
    let out = c.in_default.ensures in
    let ne = c.if-from-to.false in
    listed (none_lone s (λ i. omega (arith, c.type_inv.edges i)) out a.to ne) refl (omega arith) refl (count_lone s (λ i. omega (arith, c.type_inv.edges i)) out a.to ne)

pub returns-then-list-n : goal.returns-then-list-n
returns-then-list-n g c =
    let a = c.args in
    let y = place_behind a.count a.edges.now a.to c.place_of-2.result c.place_of-2.ensures c.unwrap_or-y.ensures in
    found_narrow c.requires.0 (λ i. omega (arith, c.type_inv.edges i)) c.in-Some.ensures y c.if-from-to.false c.explore-followed.ensures c.if-list-n.true

pub returns : goal.returns
returns g c =
    let a = c.args in
    let y = place_behind a.count a.edges.now a.to c.place_of-2.result c.place_of-2.ensures c.unwrap_or-y.ensures in
    found_listed c.requires.0 (λ i. omega (arith, c.type_inv.edges i)) c.in-Some.ensures y c.if-from-to.false c.explore-followed.ensures c.if-list-n.false c.fill.ensures.0 c.fill.ensures.1
