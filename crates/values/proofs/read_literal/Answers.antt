use native.Mathlib.Omega.{arith}
use mathlib.Core.Path.{refl, ap, sym, ◌∙◌}
use lib.IntN.{nat_abs}
use Rattle.values.specs.declared.Literal.TheVariants.{Signed64, Signed32, Signed16, Signed8}
use Rattle.values.proofs.Arithmetic.{back}
use Rattle.values.proofs.Literals.{unsigned, signed}
use Rattle.values.proofs.read_literal.Goals as goal

pub returns-in-Unsigned : goal.returns-in-Unsigned
returns-in-Unsigned c = rw c.in-Unsigned.is (c.plus.ensures ∙ unsigned 1 _ (omega arith))

pub returns-in-Signed64 : goal.returns-in-Signed64
returns-in-Signed64 c = c.complement_of.ensures ∙ signed Signed64 _ _ c.in-Signed64.is refl (omega arith) (omega arith)

pub returns-in-Signed32 : goal.returns-in-Signed32
returns-in-Signed32 c = c.complement_of-in-Signed32.ensures ∙ signed Signed32 _ _ c.in-Signed32.is (ap (λ z. nat_abs (back z)) (sym c.from.ensures)) (omega arith) (omega arith)

pub returns-in-Signed16 : goal.returns-in-Signed16
returns-in-Signed16 c = c.complement_of-in-Signed16.ensures ∙ signed Signed16 _ _ c.in-Signed16.is (ap (λ z. nat_abs (back z)) (sym c.from-in-Signed16.ensures)) (omega arith) (omega arith)

pub returns-in-Signed8 : goal.returns-in-Signed8
returns-in-Signed8 c = c.complement_of-in-Signed8.ensures ∙ signed Signed8 _ _ c.in-Signed8.is (ap (λ z. nat_abs (back z)) (sym c.from-in-Signed8.ensures)) (omega arith) (omega arith)
