-- `pass::validate_struct` meets its contract.
use Rattle.search.proofs.Lists.{list_room, list_back}
use Rattle.pass.proofs.validate_struct.Goals as goal

pub validate_struct_field_constraints-requires : goal.validate_struct_field_constraints-requires
validate_struct_field_constraints-requires c = record { among = c.requires.among; in_bounds = (list_room c.args.notes.now.opened.layout.edges c.args.work.now c.requires.edges_in_bounds.0, c.requires.edges_in_bounds.1, c.requires.edges_in_bounds.2) }

pub shape_of-work : goal.shape_of-work
shape_of-work c = (list_back c.args.notes.now.opened.layout.edges c.args.work.now c.requires.edges_in_bounds.0 c.validate_struct_field_constraints.new.list c.validate_struct_field_constraints.auto.list).1.size

pub returns : goal.returns
returns c = c.validate_struct_field_constraints.ensures
