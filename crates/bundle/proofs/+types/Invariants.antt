use Prim.Native.Nat.{◌+◌, ◌-◌, ◌*◌}
use mathlib.Core.Path.{◌≡◌}
use Rattle.meaning.specs.ReadType.{read_ty, read_members}
use Rattle.bundle.specs.View.{member_kind, step_of}
use Rattle.bundle.proofs.+types.Given as goal

abbrev pub decreases-array_at : goal.decreases-array_at
decreases-array_at l = 4 * l.depth + 3

abbrev pub decreases-enum_at : goal.decreases-enum_at
decreases-enum_at l = 4 * l.depth + 3

abbrev pub decreases-group_at : goal.decreases-group_at
decreases-group_at l = 4 * l.depth + 3

abbrev pub decreases-member_at : goal.decreases-member_at
decreases-member_at l = 4 * l.depth + 1

abbrev pub decreases-members_at : goal.decreases-members_at
decreases-members_at l = 4 * l.depth + 2

abbrev pub decreases-type_at : goal.decreases-type_at
decreases-type_at l = 4 * l.depth

abbrev pub invariant-members_at-loop : goal.invariant-members_at-loop
invariant-members_at-loop l = step_of (read_members (read_ty l.depth) (member_kind l.member) (l.count - l.counter) l.s l.next) ≡ step_of (read_members (read_ty l.depth) (member_kind l.member) l.count l.s l.at)
