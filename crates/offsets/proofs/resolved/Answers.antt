-- `offsets::resolved` meets its contract.
use native.Mathlib.Omega.{arith}
use mathlib.Core.Path.{refl}
use Rattle.bundle.proofs.LookupLaws.{place_there}
use Rattle.offsets.proofs.PlacingLaws.{following_start, following_plain, ref_there, following_none, following_next, following_end}
use Rattle.offsets.proofs.resolved.Goals as goal

pub loop-init : goal.loop-init
loop-init c = following_start c.args.definitions.now.table c.requires.1 _ c.requires.0

pub leads-requires : goal.leads-requires
leads-requires c = place_there c.args.definitions.now.table _ c.loop.invariant.below

pub returns-then-not-leads : goal.returns-then-not-leads
returns-then-not-leads c = following_plain c.args.definitions.now.table c.requires.1 c.loop.invariant c.leads.ensures c.if-not-leads.true

pub u16_at-requires : goal.u16_at-requires
u16_at-requires c = omega (arith, ref_there c.args.definitions.now.table c.requires.1 c.loop.invariant c.leads.ensures c.if-not-leads.false)

pub returns-in_default : goal.returns-in_default
returns-in_default c = following_none c.args.definitions.now.table c.requires.1 c.loop.invariant c.leads.ensures c.if-not-leads.false c.u16_at.ensures refl c.loop-test.true c.in_default.ensures

pub loop-preserved : goal.loop-preserved
loop-preserved c = following_next c.args.definitions.now.table c.requires.1 c.loop.invariant c.leads.ensures c.if-not-leads.false c.u16_at.ensures c.in-Some.ensures.0 c.loop-test.true c.in-Some.ensures.1

pub returns : goal.returns
returns c = following_end c.args.definitions.now.table c.requires.1 c.loop.invariant c.loop-test.false
