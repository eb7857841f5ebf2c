-- `size_tests::head_test` meets its contract.
use Rattle.size_tests.proofs.HeadTestLaws.{jagged_head}
use Rattle.size_tests.proofs.head_test.Goals as goal

pub returns-in-Jagged : goal.returns-in-Jagged
returns-in-Jagged c = rw c.in-Jagged.is (jagged_head _ _ c.requires.1)
