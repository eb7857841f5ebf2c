use Rattle.fixed_meaning.proofs.Within.{extent_equation}
use Rattle.fixed_laws.proofs.Fields.{struct_in_order, struct_multiple, union_multiple, union_holds}
use Rattle.fixed_laws.proofs.Exchanged.{exchanged}
use Rattle.fixed_laws.proofs.Aligned.{aligned}
use Rattle.fixed_laws.proofs.layouts.Goals as goal

pub returns : goal.returns
returns c = record {
  in_order = struct_in_order;
  struct_multiple = struct_multiple;
  union_multiple = union_multiple;
  union_holds = union_holds;
  reference = extent_equation;
  exchanged = exchanged;
  aligned = aligned;
}
