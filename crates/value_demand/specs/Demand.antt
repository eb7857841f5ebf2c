-- Demand 1 for the call that asks for the value of the size of definition i (document 02, L2): refusals 1 to 8, then 11 for what is no array,
-- then 13, 14 or 15, whichever is met first.
use Rattle.std.specs.Prelude.{ℕ, ◌≤◌, List, ◌⊎◌, ◌≡◌, ℤ, Result, Ok, Err}
use Rattle.std.proofs.Math.Option.{Option, some}
use Rattle.meaning.specs.Tree.{Expr, Attributes, Ty, array, Bundle}
use Rattle.meaning.specs.Lookup.{type_at}
use Rattle.refusals.specs.Numbers.{Keeps, Number}
use Rattle.demands.specs.Demands.{Cases}
use Rattle.fixed_laws.specs.Expressions.{HasValue, NoValue}
use Rattle.refusal.specs.declared.Refusal.{Refusal}
use Rattle.refusal.specs.Numbers.{number}

-- the definition is an array, jagged or not, with this size
pub data HasSize (o : Option Ty) (size : Expr) : Type 0 where
  an_array : {a : Attributes} {jagged : ℕ} {element : Ty} → o ≡ some (array a jagged size element) → HasSize o size

-- the size of the definition has this value
pub record SizeIs (o : Option Ty) (z : ℤ) : Type 0 where
  pub size : Expr
  pub array : HasSize o size
  pub value : HasValue size z

-- the number for which a definition of this type, or a number without definition, is refused
pub data Unvalued (o : Option Ty) : ℕ → Type 0 where
  no_array : ((size : Expr) → HasSize o size → ⊥) → Unvalued o 11
  no_value : {size : Expr} {k : ℕ} → HasSize o size → NoValue size k → Unvalued o k

-- one of the numbers of this call
abbrev pub KnownNumber : ℕ → Type 0
KnownNumber k = ((1 ≤ k) × (k ≤ 8)) ⊎ ((k ≡ 11) ⊎ ((13 ≤ k) × (k ≤ 15)))

-- the answer is the refusal of number k
abbrev pub RefusedWith : Result ℤ Refusal → ℕ → Type 0
RefusedWith r k = (x : Refusal) × ((r ≡ Err x) × (number x ≡ k))

-- Every array of a bundle to be accepted whose size has a value gets it, and every other definition is refused with its one number; every
-- other call is refused with its one number.
pub record ValueDemand (i : ℕ) (s : List ℕ) (r : Result ℤ Refusal) : Type 0 where
  pub every : (b : Bundle) → Keeps s b → (z : ℤ) → SizeIs (type_at b i) z → r ≡ Ok z
  pub unvalued : (b : Bundle) → Keeps s b → (k : ℕ) → Unvalued (type_at b i) k → RefusedWith r k
  pub other : ((b : Bundle) → Keeps s b → ⊥) → (k : ℕ) × (Number s k × RefusedWith r k)
  -- there is no third case, and no call is refused with another number
  pub cases : Cases s
  pub either : (b : Bundle) → Keeps s b → ((z : ℤ) × SizeIs (type_at b i) z) ⊎ ((k : ℕ) × Unvalued (type_at b i) k)
  pub numbered : (k : ℕ) → RefusedWith r k → KnownNumber k
