use Rattle.writer.proofs.BufferLaws.{bundle_stored, bundle_stored_reads}
use Rattle.writer.proofs.bundle_stored.Goals as goal

pub returns : goal.returns
returns c = record { bytes = bundle_stored; reads = bundle_stored_reads }
