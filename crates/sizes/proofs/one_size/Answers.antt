-- `sizes::one_size` meets its contract: the size is that of the first variant.
use native.Mathlib.Omega.{arith}
use mathlib.Core.Path.{sym, ◌∙◌}
use Rattle.bundle.proofs.PartTrees.{head_no, member_type_reads}
use Rattle.sizes.proofs.PrimitiveLaws.{one_is, one_other, one_none}
use Rattle.sizes.proofs.one_size.Goals as goal

pub returns-then-count-eq0 : goal.returns-then-count-eq0
returns-then-count-eq0 c = sym (one_none _ _ _ _ c.if-count-eq0.true)

pub returns-in_default : goal.returns-in_default
returns-in_default c = absurd (head_no _ 0x52 _ _ _ (omega arith) c.requires _ (sym c.in_default.is ∙ c.member_head_at.ensures))

pub primitive_at-requires : goal.primitive_at-requires
primitive_at-requires c = member_type_reads _ 0x52 _ _ _ (omega arith) c.requires _ (sym c.in-Ok.is ∙ c.member_head_at.ensures)

pub returns : goal.returns
returns c = c.all_of_size.ensures ∙ one_is _ _ _ _ (omega arith) c.requires _ (sym c.in-Ok.is ∙ c.member_head_at.ensures) _ (sym c.in-Some.is ∙ c.primitive_at.ensures)

pub returns-in_default-primitive_at : goal.returns-in_default-primitive_at
returns-in_default-primitive_at c = sym (one_other _ _ _ _ (omega arith) c.requires _ (sym c.in-Ok.is ∙ c.member_head_at.ensures) (sym c.in_default-primitive_at.is ∙ c.primitive_at.ensures))
