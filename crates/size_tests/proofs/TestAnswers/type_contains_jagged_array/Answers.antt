use mathlib.Core.Path.{refl, ◌∙◌}
use Rattle.size_tests.proofs.TestLaws.{jagged_inline_lem}
use Rattle.size_tests.proofs.TestAnswers.type_contains_jagged_array.Goals as goal

pub returns : goal.returns
returns c = (c.type_test.ensures.0 ∙ jagged_inline_lem _ _ _, refl)
