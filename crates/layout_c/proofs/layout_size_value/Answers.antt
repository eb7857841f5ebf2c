use native.Mathlib.Omega.{arith}
use mir.Syntax.{w64}
use mir.ValLaws.{to_z-of_z}
use Rattle.layout_c.proofs.CallLaws.{value_given, value_not_given}
use Rattle.layout_c.proofs.layout_size_value.Goals as goal

pub returns-in-Ok : goal.returns-in-Ok
returns-in-Ok c = rw (to_z-of_z w64 c.in-Ok.z (record { sfits = omega arith })) (value_given _ _ _ _ c.in-Ok.ensures)

pub returns-in-Err : goal.returns-in-Err
returns-in-Err c = value_not_given _ _ (λ i. omega (arith, c.type_inv.bundle i)) _ _ _ c.in-Err.ensures c.from.ensures
