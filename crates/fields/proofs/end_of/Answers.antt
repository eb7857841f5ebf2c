use Rattle.bundle.proofs.LookupLaws.{place_ends}
use Rattle.fields.proofs.end_of.Goals as goal

pub overflow_sub-result : goal.overflow_sub-result
overflow_sub-result c = (place_ends c.args.definitions.now.table _ c.requires).0
