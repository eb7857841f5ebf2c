-- What decimal texts say.
use Rattle.std.specs.Prelude.{ℕ, ◌<◌, [], ◌∷◌, ◌≡◌, pos, negsuc, get_or}
use Rattle.decimal.specs.Decimal.{decimal, lines, signed, signed_line, value_from, Says}

pub record Texts : Type 0 where
  -- the digits of a number have its value
  pub value : (n : ℕ) → value_from 0 (decimal n) ≡ n
  -- the text of a name says the name
  pub says : (n : ℕ) → n < 65536 → Says (decimal n) n
  -- and starts with 0 only for 0
  pub no_leading_zero : (n : ℕ) → n < 65536 → 0 < n → 48 < get_or (decimal n) 0 0
  -- 0, 9, 10, 65535
  pub zero : decimal 0 ≡ 48 ∷ []
  pub nine : decimal 9 ≡ 57 ∷ []
  pub ten : decimal 10 ≡ 49 ∷ 48 ∷ []
  pub greatest : decimal 65535 ≡ 54 ∷ 53 ∷ 53 ∷ 51 ∷ 53 ∷ []
  -- "7", "0" and "300" on lines
  pub on_lines : lines (7 ∷ 0 ∷ 300 ∷ []) ≡ 55 ∷ 10 ∷ 48 ∷ 10 ∷ 51 ∷ 48 ∷ 48 ∷ 10 ∷ []
  -- -1 and 0 on a line, the least and the greatest number of 64 bits with a sign
  pub minus_one : signed_line (negsuc 0) ≡ 45 ∷ 49 ∷ 10 ∷ []
  pub signed_zero : signed_line (pos 0) ≡ 48 ∷ 10 ∷ []
  pub least_signed : signed (negsuc 9223372036854775807) ≡ 45 ∷ 57 ∷ 50 ∷ 50 ∷ 51 ∷ 51 ∷ 55 ∷ 50 ∷ 48 ∷ 51 ∷ 54 ∷ 56 ∷ 53 ∷ 52 ∷ 55 ∷ 55 ∷ 53 ∷ 56 ∷ 48 ∷ 56 ∷ []
  pub greatest_signed : signed (pos 9223372036854775807) ≡ 57 ∷ 50 ∷ 50 ∷ 51 ∷ 51 ∷ 55 ∷ 50 ∷ 48 ∷ 51 ∷ 54 ∷ 56 ∷ 53 ∷ 52 ∷ 55 ∷ 55 ∷ 53 ∷ 56 ∷ 48 ∷ 55 ∷ []
  -- "007" says 7 and nothing else, and "65536" says no name
  pub leading_zeros : (n : ℕ) → Says (48 ∷ 48 ∷ 55 ∷ []) n → n ≡ 7
  pub too_large : (n : ℕ) → Says (54 ∷ 53 ∷ 53 ∷ 51 ∷ 54 ∷ []) n → ⊥
