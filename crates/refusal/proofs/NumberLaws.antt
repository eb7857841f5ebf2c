-- What the numbers of refusals keep, and what `?` hands on.
use Prim.Native.Nat.{ℕ, zero, suc, ◌≤◌}
use native.Mathlib.Omega.{arith}
use mathlib.Core.Path.{◌≡◌, refl, ap, ◌∙◌}
use Rattle.std.specs.Prelude.{Result, Err, IsErrAnd}
use Rattle.std.proofs.lemmas.Result.{err_from_is_err_and}
use Rattle.refusal.specs.declared.Refusal.{Refusal}
use Rattle.refusal.specs.declared.Refusal.TheVariants.{TooLong, Short, WrongKind, WrongValue, TooMany, TooDeep, Trailing, Circle, NoRoom, WrongAlignment, Varies, TooLarge, ZeroDivisor, OutOfRange, NotCovered}
use Rattle.refusal.specs.Numbers.{number, refusal_of}

-- a number of a refusal is at most 15
pub number_within : (r : Refusal) → (1 ≤ number r) × (number r ≤ 15)
number_within TooLong = (omega arith, omega arith)
number_within Short = (omega arith, omega arith)
number_within WrongKind = (omega arith, omega arith)
number_within WrongValue = (omega arith, omega arith)
number_within TooMany = (omega arith, omega arith)
number_within TooDeep = (omega arith, omega arith)
number_within Trailing = (omega arith, omega arith)
number_within Circle = (omega arith, omega arith)
number_within NoRoom = (omega arith, omega arith)
number_within WrongAlignment = (omega arith, omega arith)
number_within Varies = (omega arith, omega arith)
number_within TooLarge = (omega arith, omega arith)
number_within ZeroDivisor = (omega arith, omega arith)
number_within OutOfRange = (omega arith, omega arith)
number_within NotCovered = (omega arith, omega arith)

-- the refusal of its number
pub number_back : (r : Refusal) → refusal_of (number r) ≡ r
number_back TooLong = refl
number_back Short = refl
number_back WrongKind = refl
number_back WrongValue = refl
number_back TooMany = refl
number_back TooDeep = refl
number_back Trailing = refl
number_back Circle = refl
number_back NoRoom = refl
number_back WrongAlignment = refl
number_back Varies = refl
number_back TooLarge = refl
number_back ZeroDivisor = refl
number_back OutOfRange = refl
number_back NotCovered = refl

-- the number of the refusal that has it
pub number_forth : (n : ℕ) → 1 ≤ n → n ≤ 15 → number (refusal_of n) ≡ n
number_forth zero low high = absurd (omega arith)
number_forth (suc zero) low high = refl
number_forth (suc (suc zero)) low high = refl
number_forth (suc (suc (suc zero))) low high = refl
number_forth (suc (suc (suc (suc zero)))) low high = refl
number_forth (suc (suc (suc (suc (suc zero))))) low high = refl
number_forth (suc (suc (suc (suc (suc (suc zero)))))) low high = refl
number_forth (suc (suc (suc (suc (suc (suc (suc zero))))))) low high = refl
number_forth (suc (suc (suc (suc (suc (suc (suc (suc zero)))))))) low high = refl
number_forth (suc (suc (suc (suc (suc (suc (suc (suc (suc zero))))))))) low high = refl
number_forth (suc (suc (suc (suc (suc (suc (suc (suc (suc (suc zero)))))))))) low high = refl
number_forth (suc (suc (suc (suc (suc (suc (suc (suc (suc (suc (suc zero))))))))))) low high = refl
number_forth (suc (suc (suc (suc (suc (suc (suc (suc (suc (suc (suc (suc zero)))))))))))) low high = refl
number_forth (suc (suc (suc (suc (suc (suc (suc (suc (suc (suc (suc (suc (suc zero))))))))))))) low high = refl
number_forth (suc (suc (suc (suc (suc (suc (suc (suc (suc (suc (suc (suc (suc (suc zero)))))))))))))) low high = refl
number_forth (suc (suc (suc (suc (suc (suc (suc (suc (suc (suc (suc (suc (suc (suc (suc zero))))))))))))))) low high = refl
number_forth (suc (suc (suc (suc (suc (suc (suc (suc (suc (suc (suc (suc (suc (suc (suc (suc n)))))))))))))))) low high = absurd (omega arith)

-- what `?` hands on
pub handed_on : {T E : Type 0} {e : E} (r : Result T E) → IsErrAnd r (λ y. y ≡ e) → r ≡ Err e
handed_on r h = let p = err_from_is_err_and r h in p.1 ∙ ap Err p.2
