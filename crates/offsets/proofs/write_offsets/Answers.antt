-- `offsets::write_offsets` meets its contract.
use native.Mathlib.Omega.{arith}
use mathlib.Core.Path.{refl}
use Rattle.extents.specs.Meant.{extent_meant, members_meant}
use Rattle.fixed.proofs.WalkLaws.{member_read}
use Rattle.offsets.proofs.PlacingLaws.{writing_start, writing_end, writing_most, writing_next}
use Rattle.offsets.proofs.write_offsets.Goals as goal

pub loop-i-init : goal.loop-i-init
loop-i-init c = writing_start _ c.requires.fields_read c.requires.in_bounds.0 c.requires.ended _ refl refl

pub measure_member-m-requires : goal.measure_member-m-requires
measure_member-m-requires c = member_read c.loop-i.invariant.joining c.loop-i-test.true

pub overflow_cast-offsets : goal.overflow_cast-offsets
overflow_cast-offsets c = omega (arith, writing_most c.loop-i.invariant c.loop-i-test.true c.measure_member-m.ensures c.field_offset.ensures)

pub loop-i-preserved : goal.loop-i-preserved
unfolding members_meant extent_meant
loop-i-preserved c = writing_next c.loop-i.invariant c.loop-i-test.true c.measure_member-m.ensures c.field_offset.ensures c.with_field-so.ensures

pub returns : goal.returns
returns c = writing_end c.loop-i.invariant (omega arith)
