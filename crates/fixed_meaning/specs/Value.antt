-- The exact value of an expression (request L2), and its refusals 13, 14 and 15.
use Rattle.std.specs.Prelude.{ℕ, ◌-◌, ◌*◌, ◌^◌, Bool, false, cond, ◌&&◌, not, List, [], ◌∷◌, eqb, leb, ltb, get_or, ℤ, pos, negsuc, ◌+ℤ◌, ◌-ℤ◌, ◌*ℤ◌}
use Rattle.std.proofs.Math.Option.{Option, none, some}
use Rattle.std.specs.Int.Signed.{lt_z, le_z, quot_z, rem_z}
use Rattle.meaning.specs.Tree.{Expr, literal, field_ref, sizeof, alignof, binary, unary}

-- a value, or the number of the refusal that is met first
pub data Value : Type 0 where
  valued : ℤ → Value
  unvalued : ℕ → Value

-- z, where it is within signed 64 bits; 14 where it is not
unfoldable pub ranged : ℤ → Value
ranged z = cond (le_z (negsuc 9223372036854775807) z && le_z z (pos 9223372036854775807)) (valued z) (unvalued 14)

-- the first stored number that is negative in a literal of a signed kind: 05 to 08, of 64, 32, 16 and 8 bits
abbrev pub signed_limit : ℕ → ℕ
signed_limit k = get_or (2 ^ 63 ∷ 2 ^ 31 ∷ 2 ^ 15 ∷ 2 ^ 7 ∷ []) (k - 5) 0

-- two's complement: the numbers from the limit on are negative
unfoldable pub complement : ℕ → ℕ → ℤ
complement limit v = cond (ltb v limit) (pos v) (pos v -ℤ pos (2 * limit))

-- a literal's value: kinds 01 to 04 are unsigned, 05 to 08 signed
unfoldable pub literal_value : ℕ → ℕ → Value
literal_value k v = cond (leb k 4) (ranged (pos v)) (cond (leb k 8) (ranged (complement (signed_limit k) v)) (unvalued 15))

-- both are the same number
unfoldable pub eq_z : ℤ → ℤ → Bool
eq_z (pos a) (pos b) = eqb a b
eq_z (pos a) (negsuc b) = false
eq_z (negsuc a) (pos b) = false
eq_z (negsuc a) (negsuc b) = eqb a b

-- 1 or 0
abbrev pub truth : Bool → Value
truth t = valued (pos (cond t 1 0))

-- a quotient or remainder: 13 where the divisor is zero
unfoldable pub divided : (ℤ → ℤ → ℤ) → ℤ → ℤ → Value
divided f l r = cond (eq_z r (pos 0)) (unvalued 13) (ranged (f l r))

-- the binary kinds that are covered: Add, Sub, Mul, Div (toward zero), Mod (the dividend's sign), Eq, Ne, Lt, Gt, Le, Ge
abbrev pub operations : List (ℕ × (ℤ → ℤ → Value))
operations =
    (0x10, λ l r. ranged (l +ℤ r))
    ∷ (0x11, λ l r. ranged (l -ℤ r))
    ∷ (0x12, λ l r. ranged (l *ℤ r))
    ∷ (0x13, divided quot_z)
    ∷ (0x14, divided rem_z)
    ∷ (0x1B, λ l r. truth (eq_z l r))
    ∷ (0x1C, λ l r. truth (not (eq_z l r)))
    ∷ (0x1D, λ l r. truth (lt_z l r))
    ∷ (0x1E, λ l r. truth (lt_z r l))
    ∷ (0x1F, λ l r. truth (le_z l r))
    ∷ (0x20, λ l r. truth (le_z r l))
    ∷ []

-- the operation of a kind, where it is covered
unfoldable pub operation_of : List (ℕ × (ℤ → ℤ → Value)) → ℕ → Option (ℤ → ℤ → Value)
operation_of [] k = none
operation_of (o ∷ os) k = cond (eqb o.0 k) (some o.1) (operation_of os k)

-- both sides are worked out, the left first
unfoldable pub applied : (ℤ → ℤ → Value) → Value → Value → Value
applied f (valued l) (valued r) = f l r
applied f (valued l) (unvalued k) = unvalued k
applied f (unvalued k) r = unvalued k

-- by the operation, where there is one, and else refused with 15: a kind is tested before its operands
unfoldable pub operated_by : Option (ℤ → ℤ → Value) → Value → Value → Value
operated_by none l r = unvalued 15
operated_by (some f) l r = applied f l r

-- the value of a binary expression of kind k with these sides
unfoldable pub operated : ℕ → Value → Value → Value
operated k l r = operated_by (operation_of operations k) l r

-- the value of an expression; every other kind is refused with 15
unfoldable pub value_of : Expr → Value
value_of (literal k v) = literal_value k v
value_of (field_ref ns) = unvalued 15
value_of (sizeof n) = unvalued 15
value_of (alignof n) = unvalued 15
value_of (binary k l r) = operated k (value_of l) (value_of r)
value_of (unary k e) = unvalued 15
