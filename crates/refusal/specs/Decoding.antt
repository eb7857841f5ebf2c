-- Which refusal a number is.
use Rattle.std.specs.Prelude.{ℕ, ◌≡◌, Result, MatchResult}
use Rattle.refusal.specs.declared.Refusal.{Refusal}
use Rattle.refusal.specs.declared.NoRefusal.{NoRefusal}
use Rattle.refusal.specs.Numbers.{number}

-- the refusal that has the number n, or that none has it
abbrev pub Decodes : ℕ → Result Refusal NoRefusal → Type 0
Decodes n r = MatchResult r (λ refusal. number refusal ≡ n) (λ e. (e.0 ≡ n) × ((refusal : Refusal) → number refusal ≡ n → ⊥))
