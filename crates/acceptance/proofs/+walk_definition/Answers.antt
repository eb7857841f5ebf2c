-- `acceptance::walk_definition` meets its contract: each way out is a law of `WalkLaws` or `CircleLaws`. The measure is the number of
-- definitions not walked yet.
use native.Mathlib.Omega.{arith}
use Rattle.bundle.proofs.LookupLaws.{place_ends}
use Rattle.acceptance.specs.Circles.{loops}
use Rattle.acceptance.proofs.CircleLaws.{one_walked, one_way, decided_true, decided_loop}
use Rattle.acceptance.proofs.WalkLaws.{place_less, walking_start, walking_end, walking_inside, walking_next}
use Rattle.acceptance.proofs.+walk_definition.Goals as goal

pub returns-in-Walked : goal.returns-in-Walked
returns-in-Walked t c = one_walked c.requires.1 c.in-Walked.is

pub returns-in-OnWay : goal.returns-in-OnWay
returns-in-OnWay t c = one_way c.requires.1 c.in-OnWay.is

pub overflow_sub-end : goal.overflow_sub-end
overflow_sub-end t c = (place_ends c.args.definitions.now.table _ c.requires.0).0

pub loop-j-init : goal.loop-j-init
loop-j-init t c = walking_start c.args.definitions.now.table c.requires.0 c.requires.1

pub walk_definition-requires : goal.walk_definition-requires
walk_definition-requires t c = (omega (arith, c.decreases, c.loop-j.invariant.fewer, place_less c.args.definitions.now.table c.requires.0 c.requires.1 c.in-Unseen.is), (omega (arith, c.in-Some.ensures.below, c.args.definitions.now.table.count), walking_inside c.loop-j.invariant c.in-Some.ensures))

pub returns-then-not-walk_definition : goal.returns-then-not-walk_definition
returns-then-not-walk_definition t c = loops (decided_loop c.walk_definition.ensures c.if-not-walk_definition.true).1

pub loop-j-preserved : goal.loop-j-preserved
loop-j-preserved t c = walking_next c.loop-j.invariant c.in-Some.ensures (decided_true c.walk_definition.ensures c.if-not-walk_definition.false)

pub returns : goal.returns
returns t c = walking_end c.args.definitions.now.table c.requires.0 c.requires.1 c.loop-j.invariant c.in_default.ensures
