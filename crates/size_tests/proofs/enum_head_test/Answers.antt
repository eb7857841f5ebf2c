-- `size_tests::enum_head_test` meets its contract.
use native.Mathlib.Omega.{arith}
use mathlib.Core.Path.{sym, ◌∙◌}
use Rattle.size_tests.proofs.HeadTestLaws.{was_ok, was_err, head_there, no_count_lem, no_tag, variants_reads, enum_constant, enum_tested}
use Rattle.size_tests.proofs.enum_head_test.Goals as goal
use Rattle.size_tests.proofs.enum_head_test.Goals.{then-is_constant_to, else-is_constant_to}

pub overflow_add-at : goal.overflow_add-at
overflow_add-at c = omega (arith, head_there _ _ c.requires.1)

pub count_at-requires : goal.count_at-requires
count_at-requires c = omega (arith, head_there _ _ c.requires.1)

pub returns-in_err-n : goal.returns-in_err-n
returns-in_err-n c = absurd (no_count_lem _ _ c.requires.1 c.requires.2 (was_err c.count_at.ensures c.ok.ensures.value c.in_err-n.was).1)

pub returns-in_err-after : goal.returns-in_err-after
returns-in_err-after c = absurd (no_tag _ _ c.requires.1 c.requires.2 (was_ok c.count_at.ensures c.ok.ensures.value c.in_ok-n.was) (was_err c.expr_at.ensures c.ok-2.ensures.value c.in_err-after.was).1)

pub one_size-passed-requires : goal.one_size-passed-requires
one_size-passed-requires c = variants_reads _ _ c.requires.1 c.requires.2 (was_ok c.count_at.ensures c.ok.ensures.value c.in_ok-n.was) (was_ok c.expr_at.ensures c.ok-2.ensures.value c.in_ok-after.was)

pub returns : goal.returns
returns c = rw c.then_some.ensures (elim c.if-is_constant_to.branch [
  | then-is_constant_to w ↦ enum_constant _ _ c.requires.1 c.requires.2 (was_ok c.count_at.ensures c.ok.ensures.value c.in_ok-n.was) (was_ok c.expr_at.ensures c.ok-2.ensures.value c.in_ok-after.was) (w.passed-is ∙ w.if-is_constant_to.true) (sym w.if-is_constant_to.true ∙ c.is_constant_to.ensures)
  | else-is_constant_to w ↦ enum_tested _ _ c.requires.1 c.requires.2 (was_ok c.count_at.ensures c.ok.ensures.value c.in_ok-n.was) (was_ok c.expr_at.ensures c.ok-2.ensures.value c.in_ok-after.was) (sym w.if-is_constant_to.false ∙ c.is_constant_to.ensures) (w.passed-is ∙ w.one_size-passed.ensures)
])
