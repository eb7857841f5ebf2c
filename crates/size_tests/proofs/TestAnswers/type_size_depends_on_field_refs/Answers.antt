use mathlib.Core.Path.{refl, ◌∙◌}
use Rattle.size_tests.proofs.TestLaws.{ready_definition, size_answer}
use Rattle.size_tests.proofs.TestAnswers.type_size_depends_on_field_refs.Goals as goal

pub named_type_test-requires : goal.named_type_test-requires
named_type_test-requires c = (c.requires, c.args.self.now.acyclic.small, ready_definition c.args.self.now.definitions.table c.args.self.now.acyclic _ c.args.self.now.sizes_kept _ c.requires)

pub returns : goal.returns
returns c = (c.named_type_test.ensures.0 ∙ size_answer _ _, refl)
