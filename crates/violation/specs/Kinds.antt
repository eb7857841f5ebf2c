-- The types of violations, with document 01's numbers.
use Rattle.std.specs.Prelude.{ℕ}
use Rattle.meaning.specs.Violations.{enum_forward, enum_cycle, array_cycle, field_forward, variable_element, jagged_reference, jagged_inline, nested_jagged}
use Rattle.violation.specs.declared.Kind.{Kind}
use Rattle.violation.specs.declared.Kind.TheVariants.{EnumForward, EnumCycle, ArrayCycle, FieldForward, VariableElement, JaggedReference, JaggedInline, NestedJagged}

-- the number of a type, 1 to 8
abbrev pub type_number : Kind → ℕ
type_number EnumForward = enum_forward
type_number EnumCycle = enum_cycle
type_number ArrayCycle = array_cycle
type_number FieldForward = field_forward
type_number VariableElement = variable_element
type_number JaggedReference = jagged_reference
type_number JaggedInline = jagged_inline
type_number NestedJagged = nested_jagged
