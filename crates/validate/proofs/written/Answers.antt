use mathlib.Core.Path.{ap}
use Rattle.validate.specs.Validating.{record_with}
use Rattle.validate.proofs.written.Goals as goal

pub returns : goal.returns
returns c = (ap (record_with c.args.kind) c.read_path.ensures.0, c.read_path.ensures.1)
