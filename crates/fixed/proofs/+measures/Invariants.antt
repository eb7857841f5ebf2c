use Prim.Native.Nat.{◌+◌, ◌*◌}
use Rattle.bundle.specs.View.{member_kind}
use Rattle.extents.specs.Meant.{mark}
use Rattle.fixed.proofs.WalkLaws.{Joining}
use Rattle.fixed.proofs.+measures.Given as goal

abbrev pub decreases-measure_array : goal.decreases-measure_array
decreases-measure_array l = 4 * l.depth + 3

abbrev pub decreases-measure_enum : goal.decreases-measure_enum
decreases-measure_enum l = 4 * l.depth + 3

abbrev pub decreases-measure_group : goal.decreases-measure_group
decreases-measure_group l = 4 * l.depth + 3

abbrev pub decreases-measure_member : goal.decreases-measure_member
decreases-measure_member l = 4 * l.depth + 1

abbrev pub decreases-measure_members : goal.decreases-measure_members
decreases-measure_members l = 4 * l.depth + 2

abbrev pub decreases-measure_type : goal.decreases-measure_type
decreases-measure_type l = 4 * l.depth

abbrev pub invariant-measure_members-loop : goal.invariant-measure_members-loop
invariant-measure_members-loop l = Joining l.definitions.bytes.now l.kept l.depth (member_kind l.member) (mark l.packing) l.n l.at l.so l.next l.counter
