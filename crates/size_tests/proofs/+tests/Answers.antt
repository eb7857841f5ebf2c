-- `size_tests::named_type_test` and `inline_type_test` meet their contracts: each way out is a law of `TestLaws`. The measure is the number of
-- definitions that may still be gone through.
use native.Mathlib.Omega.{arith}
use mathlib.Core.Path.{refl, sym}
use Rattle.bundle.proofs.LookupLaws.{place_ends}
use Rattle.size_tests.proofs.TestLaws.{testing_start, testing_end, testing_holds, name_there, testing_inside, testing_yes, testing_next, testing_past, some_left, definition_holds, definition_test, definition_tested, definition_kept}
use Rattle.size_tests.proofs.+tests.Goals as goal

pub inline_type_test-loop-next-init : goal.inline_type_test-loop-next-init
inline_type_test-loop-next-init t c = testing_start c.requires.1

pub inline_type_test-returns-then-not-leads : goal.inline_type_test-returns-then-not-leads
inline_type_test-returns-then-not-leads t c = (testing_holds c.loop-next.invariant _ c.walk_of-walk.ensures c.in-Some.ensures c.leads.ensures c.if-not-leads.true, c.loop-next.invariant.others.ready.keeps)

pub inline_type_test-u16_at-requires : goal.inline_type_test-u16_at-requires
inline_type_test-u16_at-requires t c = omega (arith, name_there c.loop-next.invariant _ c.walk_of-walk.ensures c.in-Some.ensures c.leads.ensures c.if-not-leads.false)

pub inline_type_test-named_type_test-requires : goal.inline_type_test-named_type_test-requires
inline_type_test-named_type_test-requires t c = (omega (arith, c.decreases), (omega (arith, c.in-Some-definition_of.ensures.1, c.args.definitions.now.table.count), c.requires.0, testing_inside c.loop-next.invariant _ c.walk_of-walk.ensures c.in-Some.ensures c.leads.ensures c.if-not-leads.false c.args.definitions.now.table c.u16_at.ensures c.in-Some-definition_of.ensures.0 c.in-Some-definition_of.ensures.1))

pub inline_type_test-returns-then-named_type_test : goal.inline_type_test-returns-then-named_type_test
inline_type_test-returns-then-named_type_test t c = (testing_yes c.loop-next.invariant _ c.walk_of-walk.ensures c.in-Some.ensures c.leads.ensures c.if-not-leads.false c.args.definitions.now.table c.u16_at.ensures c.in-Some-definition_of.ensures.0 c.named_type_test.ensures.0 c.if-named_type_test.true, c.named_type_test.ensures.1)

pub inline_type_test-loop-next-preserved-else-named_type_test : goal.inline_type_test-loop-next-preserved-else-named_type_test
inline_type_test-loop-next-preserved-else-named_type_test t c = testing_next c.loop-next.invariant _ c.walk_of-walk.ensures c.in-Some.ensures c.leads.ensures c.if-not-leads.false c.args.definitions.now.table c.u16_at.ensures c.in-Some-definition_of.ensures.0 c.in-Some-definition_of.ensures.1 c.named_type_test.ensures.0 c.if-named_type_test.false c.named_type_test.ensures.1

pub inline_type_test-loop-next-preserved : goal.inline_type_test-loop-next-preserved
inline_type_test-loop-next-preserved t c = testing_past c.loop-next.invariant _ c.walk_of-walk.ensures c.in-Some.ensures c.leads.ensures c.if-not-leads.false c.args.definitions.now.table c.u16_at.ensures refl c.in_default-definition_of.ensures

pub inline_type_test-returns : goal.inline_type_test-returns
inline_type_test-returns t c = (testing_end c.loop-next.invariant _ c.walk_of-walk.ensures c.in_default.ensures, c.loop-next.invariant.others.ready.keeps)

pub named_type_test-returns-in-Some : goal.named_type_test-returns-in-Some
named_type_test-returns-in-Some t c = (sym (c.requires.2.keeps.answers _ _ c.in-Some.is), c.requires.2.keeps)

pub named_type_test-overflow_sub-end : goal.named_type_test-overflow_sub-end
named_type_test-overflow_sub-end t c = (place_ends c.args.definitions.now.table _ c.requires.0).0

pub named_type_test-returns-in_default-head_test : goal.named_type_test-returns-in_default-head_test
named_type_test-returns-in_default-head_test t c =
    let q = definition_holds c.args.definitions.now.table c.requires.0 c.requires.2 c.in_default-head_test.ensures in
    (q, definition_kept c.args.definitions.now.table c.requires.0 c.requires.2 c.requires.2.keeps q)

pub named_type_test-overflow_sub-left : goal.named_type_test-overflow_sub-left
named_type_test-overflow_sub-left t c = omega (arith, some_left c.args.definitions.now.table c.requires.0 c.requires.2)

pub named_type_test-inline_type_test-holds-requires : goal.named_type_test-inline_type_test-holds-requires
named_type_test-inline_type_test-holds-requires t c = (omega (arith, c.decreases, some_left c.args.definitions.now.table c.requires.0 c.requires.2), (c.requires.1, definition_test c.args.definitions.now.table c.requires.0 c.requires.2 c.in-Some-head_test.ensures))

pub named_type_test-returns : goal.named_type_test-returns
named_type_test-returns t c =
    let q = definition_tested c.args.definitions.now.table c.requires.0 c.requires.2 c.in-Some-head_test.ensures c.inline_type_test-holds.ensures.0 in
    (q, definition_kept c.args.definitions.now.table c.requires.0 c.requires.2 c.inline_type_test-holds.ensures.1 q)
