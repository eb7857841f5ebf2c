use Rattle.refusal.specs.Numbers.{number}
use Rattle.responses.proofs.Responding.{holds_refusal}
use Rattle.responses.proofs.put_refusal.Goals as goal

pub returns : goal.returns
returns c = rw c.from.ensures (holds_refusal c.args.out.now (number c.args.refusal) c.requires)
