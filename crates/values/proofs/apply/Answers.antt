use mathlib.Core.Bool.{not}
use mathlib.Core.Path.{refl, ap, ◌∙◌}
use Rattle.fixed_meaning.specs.Value.{operation_of, truth}
use Rattle.values.specs.declared.Operation.TheVariants.{Add, Subtract, Multiply, Divide, Remainder, Equal, Unequal, Less, Greater, AtMost, AtLeast}
use Rattle.values.specs.Meant.{value_meant}
use Rattle.values.proofs.Arithmetic.{in_range}
use Rattle.values.proofs.Operations.{truth_is, same_test, by_kind, by_kind_back}
use Rattle.values.proofs.apply.Goals as goal

pub returns-in-Add : goal.returns-in-Add
unfolding operation_of
returns-in-Add c = ap value_meant c.ok_or.ensures.value ∙ in_range _ _ c.checked_add.ensures ∙ by_kind_back Add c.in-Add.is c.args.l c.args.r c.ranges.l c.ranges.r _ refl

pub returns-in-Subtract : goal.returns-in-Subtract
unfolding operation_of
returns-in-Subtract c = ap value_meant c.ok_or-in-Subtract.ensures.value ∙ in_range _ _ c.checked_sub.ensures ∙ by_kind_back Subtract c.in-Subtract.is c.args.l c.args.r c.ranges.l c.ranges.r _ refl

pub returns-in-Multiply : goal.returns-in-Multiply
unfolding operation_of
returns-in-Multiply c = ap value_meant c.ok_or-in-Multiply.ensures.value ∙ in_range _ _ c.checked_mul.ensures ∙ by_kind_back Multiply c.in-Multiply.is c.args.l c.args.r c.ranges.l c.ranges.r _ refl

pub returns-in-Divide : goal.returns-in-Divide
unfolding operation_of
returns-in-Divide c = c.divide.ensures ∙ by_kind_back Divide c.in-Divide.is c.args.l c.args.r c.ranges.l c.ranges.r _ refl

pub returns-in-Remainder : goal.returns-in-Remainder
unfolding operation_of
returns-in-Remainder c = c.remainder.ensures ∙ by_kind_back Remainder c.in-Remainder.is c.args.l c.args.r c.ranges.l c.ranges.r _ refl

pub returns-in-Equal : goal.returns-in-Equal
unfolding operation_of
returns-in-Equal c = truth_is _ _ c.from.ensures ∙ ap truth (same_test c.args.l c.args.r c.ranges.l c.ranges.r) ∙ by_kind Equal c.in-Equal.is _ _ _ refl

pub returns-in-Unequal : goal.returns-in-Unequal
unfolding operation_of
returns-in-Unequal c = truth_is _ _ c.from-in-Unequal.ensures ∙ ap (λ t. truth (not t)) (same_test c.args.l c.args.r c.ranges.l c.ranges.r) ∙ by_kind Unequal c.in-Unequal.is _ _ _ refl

pub returns-in-Less : goal.returns-in-Less
unfolding operation_of
returns-in-Less c = truth_is _ _ c.from-in-Less.ensures ∙ by_kind_back Less c.in-Less.is c.args.l c.args.r c.ranges.l c.ranges.r _ refl

pub returns-in-Greater : goal.returns-in-Greater
unfolding operation_of
returns-in-Greater c = truth_is _ _ c.from-in-Greater.ensures ∙ by_kind_back Greater c.in-Greater.is c.args.l c.args.r c.ranges.l c.ranges.r _ refl

pub returns-in-AtMost : goal.returns-in-AtMost
unfolding operation_of
returns-in-AtMost c = truth_is _ _ c.from-in-AtMost.ensures ∙ by_kind_back AtMost c.in-AtMost.is c.args.l c.args.r c.ranges.l c.ranges.r _ refl

pub returns-in-AtLeast : goal.returns-in-AtLeast
unfolding operation_of
returns-in-AtLeast c = truth_is _ _ c.from-in-AtLeast.ensures ∙ by_kind_back AtLeast c.in-AtLeast.is c.args.l c.args.r c.ranges.l c.ranges.r _ refl
