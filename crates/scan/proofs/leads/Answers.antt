-- `scan::leads` meets its contract.
use Rattle.scan.proofs.ScanLaws.{lead_is}
use Rattle.scan.proofs.leads.Goals as goal

pub returns : goal.returns
returns c = lead_is _ _ _ c.type_is.ensures
