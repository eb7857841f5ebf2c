use Prim.Native.Nat.{◌+◌, ◌-◌, ◌*◌}
use Rattle.size_tests.specs.Scans.{is_jagged}
use Rattle.size_tests.proofs.TestLaws.{Testing}
use Rattle.size_tests.proofs.+tests.Given as goal

abbrev pub decreases-inline_type_test : goal.decreases-inline_type_test
decreases-inline_type_test l = 1 + 2 * l.left

abbrev pub decreases-named_type_test : goal.decreases-named_type_test
decreases-named_type_test l = 2 * l.left

abbrev pub invariant-inline_type_test-loop-next : goal.invariant-inline_type_test-loop-next
invariant-inline_type_test-loop-next l = Testing l.definitions.bytes.now (is_jagged l.test) l.left l.at l.end l.kept l.from

abbrev pub decreases-inline_type_test-loop-next : goal.decreases-inline_type_test-loop-next
decreases-inline_type_test-loop-next l = l.end - l.from
