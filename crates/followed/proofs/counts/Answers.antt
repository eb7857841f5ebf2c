use Rattle.followed.proofs.Gathered.{counts}
use Rattle.followed.proofs.counts.Goals as goal

pub returns : goal.returns
returns c = counts
