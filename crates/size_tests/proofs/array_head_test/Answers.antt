-- `size_tests::array_head_test` meets its contract.
use native.Mathlib.Omega.{arith}
use Rattle.size_tests.proofs.HeadTestLaws.{array_there, size_reads, array_tested}
use Rattle.size_tests.proofs.array_head_test.Goals as goal

pub overflow_add-at : goal.overflow_add-at
overflow_add-at c = omega (arith, array_there _ _ c.requires.1 c.requires.2)

pub is_constant-requires : goal.is_constant-requires
is_constant-requires c = record { reads = size_reads _ _ c.requires.1 c.requires.2; s_len_bound = c.requires.0 }

pub returns : goal.returns
returns c = rw c.then_some.ensures (array_tested _ _ c.requires.1 c.requires.2 c.is_constant.ensures)
