-- The numbers of the refusals.
use Rattle.std.specs.Prelude.{ℕ, [], ◌∷◌, get_or}
use Rattle.refusal.specs.declared.Refusal.{Refusal}
use Rattle.refusal.specs.declared.Refusal.TheVariants.{TooLong, Short, WrongKind, WrongValue, TooMany, TooDeep, Trailing, Circle, NoRoom, WrongAlignment, Varies, TooLarge, ZeroDivisor, OutOfRange, NotCovered}

-- the number of a refusal
abbrev pub number : Refusal → ℕ
number TooLong = 1
number Short = 2
number WrongKind = 3
number WrongValue = 4
number TooMany = 5
number TooDeep = 6
number Trailing = 7
number Circle = 8
number NoRoom = 9
number WrongAlignment = 10
number Varies = 11
number TooLarge = 12
number ZeroDivisor = 13
number OutOfRange = 14
number NotCovered = 15

-- the refusal that has a number; what it is for a number that no refusal has says nothing
abbrev pub refusal_of : ℕ → Refusal
refusal_of n = get_or (TooLong ∷ TooLong ∷ Short ∷ WrongKind ∷ WrongValue ∷ TooMany ∷ TooDeep ∷ Trailing ∷ Circle ∷ NoRoom ∷ WrongAlignment ∷ Varies ∷ TooLarge ∷ ZeroDivisor ∷ OutOfRange ∷ NotCovered ∷ []) n TooLong
