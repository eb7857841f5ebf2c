use Rattle.checks.proofs.ChainChecks.{found_chain}
use Rattle.search.proofs.Wanted.{wanted_on}
use Rattle.cycles.proofs.find_layout_dependency_chain.Goals as goal

pub find-requires : goal.find-requires
find-requires c = (c.requires.1.index, c.requires.2)

pub returns : goal.returns
returns c = (wanted_on c.find.ensures.0 (λ l. found_chain c.requires.0 c.requires.1 c.args.from c.args.to), c.find.ensures.1)
