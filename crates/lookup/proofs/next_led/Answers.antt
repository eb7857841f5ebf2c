-- `lookup::next_led` meets its contract.
use native.Mathlib.Omega.{arith}
use mathlib.Core.Path.{refl}
use Rattle.lookup.proofs.LedLaws.{seeking_start, seeking_end, name_there, led_first, seeking_next}
use Rattle.lookup.proofs.next_led.Goals as goal

pub loop-next-init : goal.loop-next-init
loop-next-init c = seeking_start c.requires

pub u16_at-requires : goal.u16_at-requires
u16_at-requires c = omega (arith, name_there c.loop-next.invariant c.in-Some.ensures)

pub returns-in-Some-definition_of : goal.returns-in-Some-definition_of
returns-in-Some-definition_of c = led_first c.loop-next.invariant c.in-Some.ensures c.u16_at.ensures c.in-Some-definition_of.ensures.0 c.in-Some-definition_of.ensures.1

pub loop-next-preserved : goal.loop-next-preserved
loop-next-preserved c = seeking_next c.loop-next.invariant c.in-Some.ensures c.u16_at.ensures refl c.in_default-definition_of.ensures

pub returns : goal.returns
returns c = seeking_end c.loop-next.invariant c.in_default.ensures
