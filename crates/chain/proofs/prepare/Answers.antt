use Rattle.chain.proofs.Numbers.{tied, prepared}
use Rattle.chain.proofs.prepare.Goals as goal

pub link-requires : goal.link-requires
link-requires c = (tied c.args.direction c.number-m.ensures c.requires.has_edges.few c.clear.ensures.1, c.clear.ensures.0)

pub returns : goal.returns
returns c = prepared c.args.direction c.number-m.ensures c.requires.has_edges.few c.clear.ensures.1 c.link.ensures
