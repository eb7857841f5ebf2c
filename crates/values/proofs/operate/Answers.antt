use mathlib.Core.Path.{sym, ◌∙◌}
use Rattle.fixed_meaning.specs.Value.{operated, operated_by}
use Rattle.values.proofs.Arithmetic.{uncovered}
use Rattle.values.proofs.operate.Goals as goal

pub returns-in_err-operation : goal.returns-in_err-operation
unfolding operated operated_by
returns-in_err-operation c =
    let q = uncovered _ _ _ c.in_err-operation.ensures.value c.from_residual.ensures.1 in
    q.1 ∙ sym (rw (rw q.0 at c.operation_of.ensures))
