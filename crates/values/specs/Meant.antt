-- What the code's values, literals and operations stand for.
use Rattle.std.specs.Prelude.{ℕ, ℤ, ◌≡◌, Option, Some, None, Result, Ok, Err}
use Rattle.std.proofs.Math.Option as maybe
use Rattle.fixed_meaning.specs.Value as meaning
use Rattle.fixed_meaning.specs.Value.{valued, unvalued, literal_value, operations, operation_of}
use Rattle.refusal.specs.declared.Refusal.{Refusal}
use Rattle.refusal.specs.Numbers.{number}
use Rattle.values.specs.declared.Literal.{Literal}
use Rattle.values.specs.declared.Literal.TheVariants.{Unsigned, Signed64, Signed32, Signed16, Signed8}
use Rattle.values.specs.declared.Operation.{Operation}
use Rattle.values.specs.declared.Operation.TheVariants.{Add, Subtract, Multiply, Divide, Remainder, Equal, Unequal, Less, Greater, AtMost, AtLeast}

-- a value, or the number of a refusal
unfoldable pub value_meant : Result ℤ Refusal → meaning.Value
value_meant (Ok z) = valued z
value_meant (Err r) = unvalued (number r)

-- the kind of a literal, for the unsigned ones the first
abbrev pub literal_kind : Literal → ℕ
literal_kind Unsigned = 1
literal_kind Signed64 = 5
literal_kind Signed32 = 6
literal_kind Signed16 = 7
literal_kind Signed8 = 8

-- a literal that has the values of the kind, or none where the kind has no value
abbrev pub IsLiteralOf : ℕ → Option Literal → Type 0
IsLiteralOf k (Some l) = (n : ℕ) → literal_value (literal_kind l) n ≡ literal_value k n
IsLiteralOf k None = (n : ℕ) → unvalued 15 ≡ literal_value k n

-- the kind of an operation
abbrev pub operation_kind : Operation → ℕ
operation_kind Add = 0x10
operation_kind Subtract = 0x11
operation_kind Multiply = 0x12
operation_kind Divide = 0x13
operation_kind Remainder = 0x14
operation_kind Equal = 0x1B
operation_kind Unequal = 0x1C
operation_kind Less = 0x1D
operation_kind Greater = 0x1E
operation_kind AtMost = 0x1F
operation_kind AtLeast = 0x20

-- the operation of the kind, or none where the kind is not covered
abbrev pub IsOperationOf : ℕ → Option Operation → Type 0
IsOperationOf k (Some o) = operation_kind o ≡ k
IsOperationOf k None = operation_of operations k ≡ maybe.none
