use Rattle.sizes.proofs.TestLaws.{kept_start}
use Rattle.size_tests.proofs.TestAnswers.new.Goals as goal

pub invariant_of-result : goal.invariant_of-result
invariant_of-result c = record { acyclic = c.requires; sizes_kept = kept_start _ _; jagged_kept = kept_start _ _ }
