-- `pass::validate_type` meets its contract: each shape has its validator.
use Rattle.fields.proofs.ShapeLaws.{shape_struct}
use Rattle.fields.proofs.Walking.{placed_reads}
use Rattle.validate.proofs.Validators.{shape_enum, shape_array, placed_among, placed_room, placed_wrote, placed_plain, placed_ref}
use Rattle.cycles.proofs.Sharing.{unchanged}
use Rattle.pass.proofs.validate_type.Goals as goal

pub place_of-place-requires : goal.place_of-place-requires
place_of-place-requires c = c.requires.i_in_bounds.0

pub shape_at-shape-requires : goal.shape_at-shape-requires
shape_at-shape-requires c = placed_reads c.args.checks.now.opened.definitions.table c.requires.i_in_bounds.0 c.place_of-place.ensures

pub validate_struct-requires : goal.validate_struct-requires
validate_struct-requires c = record { among = placed_among c.args.checks.now.opened.definitions.table c.requires.i_in_bounds.0 c.place_of-place.ensures; edges_in_bounds = (c.requires.room, shape_struct _ _ _ c.in-Struct.is c.shape_at-shape.ensures, placed_room _ _ _ c.place_of-place.ensures c.requires.i_in_bounds.1) }

pub validate_enum_tag_constraints-requires : goal.validate_enum_tag_constraints-requires
validate_enum_tag_constraints-requires c = record { room = c.requires.room; among = placed_among c.args.checks.now.opened.definitions.table c.requires.i_in_bounds.0 c.place_of-place.ensures; enum_at = (shape_enum _ _ c.in-Enum.is c.shape_at-shape.ensures, placed_room _ _ _ c.place_of-place.ensures c.requires.i_in_bounds.1) }

pub validate_array_size_constraints-requires : goal.validate_array_size_constraints-requires
validate_array_size_constraints-requires c = record { room = c.requires.room; among = placed_among c.args.checks.now.opened.definitions.table c.requires.i_in_bounds.0 c.place_of-place.ensures; array_at = (shape_array _ _ c.in-Array.is c.shape_at-shape.ensures, placed_room _ _ _ c.place_of-place.ensures c.requires.i_in_bounds.1) }

pub shape_of-work-in-Struct : goal.shape_of-work-in-Struct
shape_of-work-in-Struct c = c.validate_struct.auto.work

pub returns-in-Struct : goal.returns-in-Struct
returns-in-Struct c = (placed_wrote _ _ _ c.place_of-place.ensures c.validate_struct.ensures, unchanged)

pub shape_of-work-in-Enum : goal.shape_of-work-in-Enum
shape_of-work-in-Enum c = c.validate_enum_tag_constraints.auto.work

pub returns-in-Enum : goal.returns-in-Enum
returns-in-Enum c = (placed_wrote _ _ _ c.place_of-place.ensures c.validate_enum_tag_constraints.ensures.0, c.validate_enum_tag_constraints.ensures.1)

pub shape_of-work-in-Array : goal.shape_of-work-in-Array
shape_of-work-in-Array c = c.validate_array_size_constraints.auto.work

pub returns-in-Array : goal.returns-in-Array
returns-in-Array c = let w = c.validate_array_size_constraints.ensures in (placed_wrote _ _ _ c.place_of-place.ensures w.0, w.1)

pub returns-in-TypeRef : goal.returns-in-TypeRef
returns-in-TypeRef c = (placed_ref _ _ _ c.place_of-place.ensures c.in-TypeRef.is c.shape_at-shape.ensures _, unchanged)

pub returns-in-Plain : goal.returns-in-Plain
returns-in-Plain c = (placed_plain _ _ _ c.place_of-place.ensures c.in-Plain.is c.shape_at-shape.ensures _, unchanged)
