-- `acceptance::definitions_at` meets its contract. The invariant: the first definitions are placed, and what is left ends as the whole does.
use native.Mathlib.Omega.{arith}
use mathlib.Core.Path.{refl, sym, ◌∙◌}
use lib.ListN.{length-set}
use Rattle.refusal.proofs.NumberLaws.{handed_on}
use Rattle.records.proofs.DefinitionLaws.{placing_start, placing_there, placing_next, placing_refused, placing_end}
use Rattle.acceptance.proofs.definitions_at.Goals as goal

pub loop-i-init : goal.loop-i-init
loop-i-init c = (refl, placing_start _ _ _ _ c.requires.2 c.requires.3)

pub overflow_add-places : goal.overflow_add-places
overflow_add-places c = omega (arith, placing_there c.loop-i.invariant.1 c.loop-i-test.true _ (sym c.in_ok-after.was ∙ c.definition_at.ensures), c.requires.0)

pub overflow_cast-places : goal.overflow_cast-places
overflow_cast-places c = record { fits = omega (arith, placing_there c.loop-i.invariant.1 c.loop-i-test.true _ (sym c.in_ok-after.was ∙ c.definition_at.ensures), c.requires.0) }

pub loop-i-preserved : goal.loop-i-preserved
loop-i-preserved c = (rw length-set c.loop-i.invariant.0, placing_next c.loop-i.invariant.1 c.loop-i-test.true c.requires.1 _ (sym c.in_ok-after.was ∙ c.definition_at.ensures))

pub returns-in_err-after : goal.returns-in_err-after
returns-in_err-after c = rw (handed_on _ c.from_residual.ensures.1) (placing_refused c.loop-i.invariant.1 c.loop-i-test.true _ (sym c.in_err-after.was ∙ c.definition_at.ensures))

pub overflow_cast-places-2 : goal.overflow_cast-places-2
overflow_cast-places-2 c = record { fits = omega (arith, c.loop-i.invariant.1.far, c.loop-i.invariant.1.size, c.loop-i.invariant.0, c.requires.0, c.requires.1, c.requires.2) }

pub shape_of-places : goal.shape_of-places
shape_of-places c = rw length-set c.loop-i.invariant.0

pub returns : goal.returns
returns c = placing_end c.loop-i.invariant.1 (omega arith) c.requires.1
