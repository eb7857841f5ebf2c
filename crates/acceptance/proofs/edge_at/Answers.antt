-- `acceptance::edge_at` meets its contract: its test is that of `read_edge`.
-- The lines that repeat answer goals of their own; with `using(..)` the check did not find them.
use native.Mathlib.Omega.{arith}
use mathlib.Core.Path.{refl, sym, ◌∙◌}
use Rattle.meaning.specs.Kinds.{lookup}
use Rattle.refusal.proofs.NumberLaws.{handed_on}
use Rattle.records.proofs.RecordLaws.{opening_there, edge_kind, edge_ends, edge_refused}
use Rattle.acceptance.proofs.edge_at.Goals as goal

pub overflow_add-body : goal.overflow_add-body
unfolding lookup
overflow_add-body c = omega (arith, opening_there 0x62 0 2 1 _ _ _ refl (sym c.in_ok-body.was ∙ c.opening_at.ensures))

pub bounds-s-body : goal.bounds-s-body
unfolding lookup
bounds-s-body c = omega (arith, opening_there 0x62 0 2 1 _ _ _ refl (sym c.in_ok-body.was ∙ c.opening_at.ensures))

pub overflow_add-result : goal.overflow_add-result
unfolding lookup
overflow_add-result c = omega (arith, opening_there 0x62 0 2 1 _ _ _ refl (sym c.in_ok-body.was ∙ c.opening_at.ensures))

pub returns-then-s-body-gt3 : goal.returns-then-s-body-gt3
returns-then-s-body-gt3 c = sym (edge_kind _ _ _ (sym c.in_ok-body.was ∙ c.opening_at.ensures) c.if-s-body-gt3.true)

pub returns : goal.returns
returns c = sym (edge_ends _ _ _ (sym c.in_ok-body.was ∙ c.opening_at.ensures) c.if-s-body-gt3.false)

pub returns-in_err-body : goal.returns-in_err-body
returns-in_err-body c = handed_on _ c.from_residual.ensures.1 ∙ sym (edge_refused _ _ _ (sym c.in_err-body.was ∙ c.opening_at.ensures))
