use Rattle.sizes.proofs.PathLaws.{found_split}
use Rattle.checks.proofs.ForwardChecks.{referred}
use Rattle.checks.proofs.reference_at.Goals as goal

pub returns : goal.returns
returns c = referred (found_split _ _ _ _ c.in_ok-p.ensures) c.requires.2 c.path_length.ensures
