use native.Mathlib.Omega.{arith}
use Rattle.field_index.proofs.Shown.{shown_none, shown_at}
use Rattle.field_index.proofs.indices_of.Goals as goal

pub returns-in_err-r-clause-of : goal.returns-in_err-r-clause-of
returns-in_err-r-clause-of c = rw c.from_residual.ensures (λ ms p. shown_none c.args.x ms (p.part (omega arith)) c.in_err-r.ensures)

pub returns-clause-of : goal.returns-clause-of
returns-clause-of c ms p = shown_at c.args.x ms (p.part (omega arith)) c.in_ok-r.ensures
