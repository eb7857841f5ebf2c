-- What the walk over an expression finds.
use Rattle.std.specs.Prelude.{ℕ, ℤ, List, ◌≡◌, Result, Ok, Err}
use Rattle.meaning.specs.ReadExpr.{read_expr}
use Rattle.bundle.specs.View.{step_of}
use Rattle.bundle.specs.Expressions.{expr_at}
use Rattle.fixed_meaning.specs.Value.{valued, unvalued, value_of}
use Rattle.refusal.specs.declared.Refusal.{Refusal}
use Rattle.refusal.specs.Numbers.{number}

-- the expression that was read at `at` has this value and this end, or is refused with this number
abbrev pub Evaluates : ℕ → List ℕ → ℕ → Result (ℤ × ℕ) Refusal → Type 0
Evaluates d s at (Ok v) = (valued v.0 ≡ value_of (expr_at d s at)) × (Ok v.1 ≡ step_of (read_expr d s at))
Evaluates d s at (Err r) = unvalued (number r) ≡ value_of (expr_at d s at)
