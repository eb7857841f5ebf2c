-- `acceptance::edges_at` meets its contract. The invariant: what is left, read from here, ends as the whole does.
use native.Mathlib.Omega.{arith}
use mathlib.Core.Path.{sym, ◌∙◌}
use mathlib.Core.List.{[], ◌∷◌}
use Rattle.meaning.specs.ReadBundle.{read_edge}
use Rattle.refusal.proofs.NumberLaws.{handed_on}
use Rattle.bundle.proofs.Steps.{many_none, many_next, many_refused}
use Rattle.acceptance.proofs.edges_at.Goals as goal

pub loop-preserved : goal.loop-preserved
loop-preserved c = many_next ◌∷◌ [] read_edge _ _ _ _ _ c.loop-test.true (sym c.in_ok-next.was ∙ c.edge_at.ensures) ∙ c.loop.invariant

pub returns-in_err-next : goal.returns-in_err-next
returns-in_err-next c = handed_on _ c.from_residual.ensures.1 ∙ sym (many_refused ◌∷◌ [] read_edge _ _ _ _ (omega (arith, c.loop-test.true)) (sym c.in_err-next.was ∙ c.edge_at.ensures)) ∙ c.loop.invariant

pub returns : goal.returns
returns c = sym (many_none ◌∷◌ [] read_edge _ _ _ (omega (arith, c.loop-test.false))) ∙ c.loop.invariant
