-- `sizes::all_of_size` meets its contract: the variants from here on pass as all of them do.
use native.Mathlib.Omega.{arith}
use mathlib.Core.Path.{sym, ◌∙◌}
use Rattle.bundle.proofs.TypeTrees.{type_there}
use Rattle.bundle.proofs.PartTrees.{head_no, member_type_reads}
use Rattle.sizes.proofs.PrimitiveLaws.{passing_next, all_not, all_other, all_none}
use Rattle.sizes.proofs.all_of_size.Goals as goal

pub returns-in_default : goal.returns-in_default
returns-in_default c = absurd (head_no _ 0x52 _ _ _ (omega (arith, c.loop-test.true)) c.loop.invariant.reads _ (sym c.in_default.is ∙ c.member_head_at.ensures))

pub primitive_at-requires : goal.primitive_at-requires
primitive_at-requires c = (member_type_reads _ 0x52 _ _ _ (omega (arith, c.loop-test.true)) c.loop.invariant.reads _ (sym c.in-Ok.is ∙ c.member_head_at.ensures))

pub returns-in_default-primitive_at : goal.returns-in_default-primitive_at
returns-in_default-primitive_at c = sym (sym c.loop.invariant.same ∙ all_other _ _ _ _ (omega (arith, c.loop-test.true)) c.loop.invariant.reads _ (sym c.in-Ok.is ∙ c.member_head_at.ensures) (sym c.in_default-primitive_at.is ∙ c.primitive_at.ensures) _)

pub returns-then-w-size : goal.returns-then-w-size
returns-then-w-size c = sym (sym c.loop.invariant.same ∙ all_not _ _ _ _ (omega (arith, c.loop-test.true)) c.loop.invariant.reads _ (sym c.in-Ok.is ∙ c.member_head_at.ensures) _ (sym c.in-Some.is ∙ c.primitive_at.ensures) _ c.if-w-size.true)

pub overflow_add-next : goal.overflow_add-next
overflow_add-next c = omega (arith, type_there _ _ _ (member_type_reads _ 0x52 _ _ _ (omega (arith, c.loop-test.true)) c.loop.invariant.reads _ (sym c.in-Ok.is ∙ c.member_head_at.ensures)))

pub loop-preserved : goal.loop-preserved
loop-preserved c = passing_next _ _ _ _ _ c.loop.invariant c.loop-test.true _ (sym c.in-Ok.is ∙ c.member_head_at.ensures) _ (sym c.in-Some.is ∙ c.primitive_at.ensures) c.if-w-size.false

pub returns : goal.returns
returns c = sym (sym c.loop.invariant.same ∙ all_none _ _ _ _ _ (omega (arith, c.loop-test.false)))
