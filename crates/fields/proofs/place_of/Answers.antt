use native.Mathlib.Omega.{arith}
use Rattle.bundle.proofs.LookupLaws.{placed_at, place_there}
use Rattle.fields.proofs.place_of.Goals as goal

pub u16_at-requires : goal.u16_at-requires
u16_at-requires c = omega (arith, place_there c.args.definitions.now.table _ c.requires, (placed_at c.args.definitions.now.table _ c.requires).behind)
