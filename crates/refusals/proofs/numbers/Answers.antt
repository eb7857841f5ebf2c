use Rattle.refusals.proofs.Laws.{numbers}
use Rattle.refusals.proofs.numbers.Goals as goal

pub returns : goal.returns
returns c = numbers
