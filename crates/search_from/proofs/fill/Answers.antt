use Prim.Native.Nat.{ℕ, ◌+◌, ◌-◌}
use mathlib.Core.Path.{◌≡◌, subst}
use native.Mathlib.Omega.{arith}
use Rattle.chain.specs.Index.{names_in, name_in}
use Rattle.search_from.specs.Work.{before_in}
use Rattle.search_from.proofs.Filling.{Filling, filling_start, filling_turn}
use Rattle.search_from.proofs.fill.Goals as goal

pub loop-i-init : goal.loop-i-init
loop-i-init c = let p = c.requires in filling_start _ _ _ _ _ _ p.indexed.2 p.by_index

pub loop-i-preserved : goal.loop-i-preserved
loop-i-preserved c =
    let a = c.args in
    let l = c.loop-i in
    let t : l.i ≡ (l.i - 1) + 1 = omega arith in
    filling_turn _ _ _ _ _ _ c.requires.indexed.2 l.list l.y (l.i - 1) (subst (λ (j : ℕ). Filling (name_in a.count a.edges.now) (before_in a.work.now) (names_in a.edges.now) a.x a.n a.list.now l.list l.y j) t l.invariant)
