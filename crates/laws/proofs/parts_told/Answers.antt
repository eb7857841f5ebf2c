use Rattle.laws.proofs.Told.{told}
use Rattle.laws.proofs.parts_told.Goals as goal

pub returns : goal.returns
returns c = told
