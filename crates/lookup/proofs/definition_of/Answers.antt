use native.Mathlib.Omega.{arith}
use Rattle.bundle.proofs.NameLaws.{table_part, table_few, name_first_lem, name_none}
use Rattle.lookup.proofs.definition_of.Goals as goal

pub place_of-requires : goal.place_of-requires
place_of-requires c = table_part c.args.definitions.now.table

pub returns-in_err-r : goal.returns-in_err-r
returns-in_err-r c = rw c.from_residual.ensures (name_none c.args.definitions.now.table c.in_err-r.ensures)

pub bounds-places-r : goal.bounds-places-r
bounds-places-r c = omega (arith, table_few c.args.definitions.now.table, c.args.definitions.now.table.size, c.in_ok-r.ensures.within)

pub returns : goal.returns
returns c = name_first_lem c.args.definitions.now.table c.in_ok-r.ensures
