use Rattle.size_tests.proofs.TestLaws.{type_ready, type_tested, type_no}
use Rattle.size_tests.proofs.type_test.Goals as goal

pub inline_type_test-requires : goal.inline_type_test-requires
inline_type_test-requires c = (c.requires.1.small, type_ready c.args.definitions.now.table c.requires.1 _ c.requires.2 _ _ c.in-Ok.ensures)

pub returns-in-Ok : goal.returns-in-Ok
returns-in-Ok c = (type_tested c.args.definitions.now.table c.requires.1 _ c.requires.2 _ _ c.in-Ok.ensures c.inline_type_test.ensures.0, c.inline_type_test.ensures.1)

pub returns-in-Err : goal.returns-in-Err
returns-in-Err c = absurd (type_no _ _ _ _ c.requires.0 c.in-Err.ensures)
