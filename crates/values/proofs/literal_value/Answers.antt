use mathlib.Core.Path.{◌∙◌}
use Rattle.values.proofs.Arithmetic.{uncovered}
use Rattle.values.proofs.literal_value.Goals as goal

pub returns-in_err-literal : goal.returns-in_err-literal
returns-in_err-literal c =
    let q = uncovered _ _ _ c.in_err-literal.ensures.value c.from_residual.ensures.1 in
    q.1 ∙ (rw q.0 at c.literal_of.ensures) c.args.n
