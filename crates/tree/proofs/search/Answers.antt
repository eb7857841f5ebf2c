-- `tree::search` meets its contract: the invariant is `Searching`.
use native.Mathlib.Omega.{arith}
use mathlib.Core.Path.{sym, ◌∙◌}
use Rattle.tree.proofs.Searching.{searching_next, searching_unfound}
use Rattle.tree.proofs.search.Goals as goal

pub returns-then-next-eq0 : goal.returns-then-next-eq0
returns-then-next-eq0 c = rw c.from.ensures (searching_unfound c.loop-k.invariant c.requires (omega arith) c.if-t-at.false (sym (rw c.from.ensures at c.from-next.ensures) ∙ c.if-next-eq0.true))

pub loop-k-preserved : goal.loop-k-preserved
loop-k-preserved c = searching_next c.loop-k.invariant c.requires (omega arith) c.if-t-at.false (sym (rw c.from.ensures at c.from-next.ensures)) c.if-next-eq0.false
