-- Which type of violation a number is.
use Rattle.std.specs.Prelude.{ℕ, ◌≡◌, Result, MatchResult}
use Rattle.violation.specs.declared.Kind.{Kind}
use Rattle.violation.specs.declared.NoKind.{NoKind}
use Rattle.violation.specs.Kinds.{type_number}

-- the type that has the number n, or that none has it
abbrev pub Decodes : ℕ → Result Kind NoKind → Type 0
Decodes n r = MatchResult r (λ kind. type_number kind ≡ n) (λ e. (e.0 ≡ n) × ((kind : Kind) → type_number kind ≡ n → ⊥))
