-- What the answers of `parse_name` stand for.
use Rattle.std.specs.Prelude.{ℕ, List, Option, Some, None}
use Rattle.decimal.specs.Decimal.{Says}

-- the word says this name, or no name
abbrev pub IsParsed : List ℕ → Option ℕ → Type 0
IsParsed word (Some n) = Says word n
IsParsed word None = (n : ℕ) → Says word n → ⊥
