-- `field_index::last_lead` meets its contract.
use native.Mathlib.Omega.{arith}
use Rattle.field_index.proofs.Shown.{lead_part}
use Rattle.field_index.proofs.last_lead.Goals as goal

pub returns : goal.returns
returns c = lead_part c.requires.0 c.requires.1 _ (omega arith) c.last_in.ensures
