use Rattle.laws.proofs.Gathered.{in_the_tree}
use Rattle.laws.proofs.names_in_bytes.Goals as goal

pub returns : goal.returns
returns c = in_the_tree
