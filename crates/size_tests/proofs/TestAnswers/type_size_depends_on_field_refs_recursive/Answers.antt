use mathlib.Core.Path.{refl, ◌∙◌}
use Rattle.size_tests.proofs.TestLaws.{size_inline}
use Rattle.size_tests.proofs.TestAnswers.type_size_depends_on_field_refs_recursive.Goals as goal

pub returns : goal.returns
returns c = (c.type_test.ensures.0 ∙ size_inline _ _ _, refl)
