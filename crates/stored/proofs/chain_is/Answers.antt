-- `stored::chain_is` meets its contract: the count and the names behind it.
use Rattle.stored.specs.Stored.{chain_bytes}
use Rattle.stored.proofs.Parts.{plain_numbers}
use Rattle.stored.proofs.chain_is.Goals as goal

pub returns : goal.returns
unfolding chain_bytes
returns c = plain_numbers c.headed.result 2 c.args.followed c.args.names.now c.args.due.now c.headed.ensures
