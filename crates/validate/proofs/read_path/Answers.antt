use native.Mathlib.Omega.{arith}
use Rattle.sizes.specs.Scan.{path_at}
use Rattle.validate.proofs.Writing.{path_few, path_padded}
use Rattle.validate.proofs.read_path.Goals as goal

pub path_length-n-requires : goal.path_length-n-requires
path_length-n-requires c = omega (arith, c.requires)

pub overflow_cast-result : goal.overflow_cast-result
overflow_cast-result c = record { fits = omega (arith, path_few c.args.s.now c.args.path (c.type_inv.s c.args.path).fits, c.path_length-n.ensures) }

pub returns : goal.returns
returns c = (path_padded (path_at c.args.s.now c.args.path) c.path_length-n.ensures c.name_of.ensures c.name_of-2.ensures c.name_of-3.ensures c.name_of-4.ensures, path_few c.args.s.now c.args.path (c.type_inv.s c.args.path).fits)
