-- What the numbers of refusals keep.
use Rattle.std.specs.Prelude.{ℕ, ◌≡◌, ◌≤◌}
use Rattle.refusal.specs.declared.Refusal.{Refusal}
use Rattle.refusal.specs.Numbers.{number, refusal_of}

-- each refusal has one number, from 1 to 15, and each of these numbers one refusal
pub record Numbered : Type 0 where
  pub within : (r : Refusal) → (1 ≤ number r) × (number r ≤ 15)
  pub back : (r : Refusal) → refusal_of (number r) ≡ r
  pub forth : (n : ℕ) → 1 ≤ n → n ≤ 15 → number (refusal_of n) ≡ n
