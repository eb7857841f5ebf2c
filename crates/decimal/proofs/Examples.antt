-- What decimal texts say, by the laws and by computation.
use Prim.Native.Nat.{ℕ}
use native.Mathlib.Omega.{arith}
use mathlib.Core.List.{[], ◌∷◌}
use mathlib.Core.Path.{◌≡◌, refl, ap, ◌∙◌}
use lib.IntN.{pos, negsuc}
use Rattle.decimal.specs.Decimal.{digits_of, decimal, lines, signed, signed_line, value_from, Says}
use Rattle.decimal.specs.Texts.{Texts}
use Rattle.decimal.proofs.DecimalLaws.{decimal_few}
use Rattle.decimal.proofs.Back.{decimal_value, decimal_says, no_leading_zero}

seven : (n : ℕ) → Says (48 ∷ 48 ∷ 55 ∷ []) n → n ≡ 7
unfolding value_from
seven n s = omega (arith, s.value)

too_large : (n : ℕ) → Says (54 ∷ 53 ∷ 53 ∷ 51 ∷ 54 ∷ []) n → ⊥
unfolding value_from
too_large n s = omega (arith, s.value, s.small)

least : signed (negsuc 9223372036854775807) ≡ 45 ∷ 57 ∷ 50 ∷ 50 ∷ 51 ∷ 51 ∷ 55 ∷ 50 ∷ 48 ∷ 51 ∷ 54 ∷ 56 ∷ 53 ∷ 52 ∷ 55 ∷ 55 ∷ 53 ∷ 56 ∷ 48 ∷ 56 ∷ []
unfolding signed digits_of
least = ap (λ ds. 45 ∷ ds) (decimal_few 18 9223372036854775808 (omega arith) ∙ refl)

greatest : signed (pos 9223372036854775807) ≡ 57 ∷ 50 ∷ 50 ∷ 51 ∷ 51 ∷ 55 ∷ 50 ∷ 48 ∷ 51 ∷ 54 ∷ 56 ∷ 53 ∷ 52 ∷ 55 ∷ 55 ∷ 53 ∷ 56 ∷ 48 ∷ 55 ∷ []
unfolding signed digits_of
greatest = decimal_few 18 9223372036854775807 (omega arith) ∙ refl

pub computed : Texts
unfolding lines signed signed_line decimal digits_of
computed = record {
  value = decimal_value;
  says = decimal_says;
  no_leading_zero = no_leading_zero;
  zero = refl;
  nine = refl;
  ten = refl;
  greatest = refl;
  on_lines = refl;
  minus_one = refl;
  signed_zero = refl;
  least_signed = least;
  greatest_signed = greatest;
  leading_zeros = seven;
  too_large = too_large;
}
