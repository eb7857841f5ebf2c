use Rattle.validate.proofs.Writing.{fit_enum, fit_array, fit_field, recorded_enum, recorded_enum_cycle, recorded_array_cycle, recorded_field, recorded_element, recorded_reference, recorded_inline, recorded_nested}
use Rattle.validate.proofs.record_of.Goals as goal

pub written-requires : goal.written-requires
written-requires c = fit_enum _ _ c.requires.1 c.in-EnumCycle.is

pub written-requires-in-ArrayCycle : goal.written-requires-in-ArrayCycle
written-requires-in-ArrayCycle c = fit_array _ _ c.requires.1 c.in-ArrayCycle.is

pub written-requires-in-FieldForward : goal.written-requires-in-FieldForward
written-requires-in-FieldForward c = fit_field _ _ c.requires.1 c.in-FieldForward.is

pub returns-in-EnumForward : goal.returns-in-EnumForward
returns-in-EnumForward c = recorded_enum _ c.in-EnumForward.is c.unwritten.ensures

pub returns-in-EnumCycle : goal.returns-in-EnumCycle
returns-in-EnumCycle c = recorded_enum_cycle _ c.in-EnumCycle.is c.written.ensures.0 c.written.ensures.1

pub returns-in-ArrayCycle : goal.returns-in-ArrayCycle
returns-in-ArrayCycle c = recorded_array_cycle _ c.in-ArrayCycle.is c.written-in-ArrayCycle.ensures.0 c.written-in-ArrayCycle.ensures.1

pub returns-in-FieldForward : goal.returns-in-FieldForward
returns-in-FieldForward c = recorded_field _ c.in-FieldForward.is c.written-in-FieldForward.ensures.0 c.written-in-FieldForward.ensures.1

pub returns-in-VariableElement : goal.returns-in-VariableElement
returns-in-VariableElement c = recorded_element _ c.in-VariableElement.is c.unwritten-in-VariableElement.ensures

pub returns-in-JaggedReference : goal.returns-in-JaggedReference
returns-in-JaggedReference c = recorded_reference _ c.in-JaggedReference.is c.unwritten-in-JaggedReference.ensures

pub returns-in-JaggedInline : goal.returns-in-JaggedInline
returns-in-JaggedInline c = recorded_inline _ c.in-JaggedInline.is c.unwritten-in-JaggedInline.ensures

pub returns-in-NestedJagged : goal.returns-in-NestedJagged
returns-in-NestedJagged c = recorded_nested _ c.in-NestedJagged.is c.unwritten-in-NestedJagged.ensures
