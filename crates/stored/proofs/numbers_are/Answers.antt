-- `stored::numbers_are` meets its contract: the invariant is that of `Comparing`.
use native.Mathlib.Omega.{arith}
use mathlib.Core.Path.{sym, ap, ap₂, ◌∙◌}
use lib.ListN.{take, length-map}
use Rattle.std.specs.Prelude.{Some, None}
use Rattle.std.proofs.lemmas.List.{get_or-map}
use Rattle.std.proofs.lemmas.Bool.Decides.{Decides-eqb}
use Rattle.std.proofs.lemmas.Slice.Eq.{strip_prefix_is}
use Rattle.stored.proofs.Parts.{comparing_not, comparing_next, comparing_end, number_low}
use Rattle.stored.proofs.numbers_are.Goals as goal

pub returns-in_default : goal.returns-in_default
returns-in_default g c =
    let h = length-map c.args.list.now g.N.Number.value in
    let e = get_or-map g.N.Number.value c.args.list.now c.loop-number.number-index c.number-item.result 0 c.loop-number-test.true in
    comparing_not c.loop-number.invariant c.wide.result (take c.BYTES.result c.to_le_bytes.result) (omega (arith, h, c.loop-number-test.true))
    (c.wide.ensures.same ∙ ap g.N.Number.value c.number-item.is ∙ sym e)
    (ap₂ take c.BYTES.ensures c.to_le_bytes.ensures ∙ number_low g.N.Number.BYTES c.wide.result c.requires)
    (strip_prefix_is Decides-eqb _ _ None c.in_default.ensures.cases)

pub loop-number-preserved : goal.loop-number-preserved
loop-number-preserved g c =
    let h = length-map c.args.list.now g.N.Number.value in
    let e = get_or-map g.N.Number.value c.args.list.now c.loop-number.number-index c.number-item.result 0 c.loop-number-test.true in
    comparing_next c.loop-number.invariant c.wide.result (take c.BYTES.result c.to_le_bytes.result) (omega (arith, h, c.loop-number-test.true))
    (c.wide.ensures.same ∙ ap g.N.Number.value c.number-item.is ∙ sym e)
    (ap₂ take c.BYTES.ensures c.to_le_bytes.ensures ∙ number_low g.N.Number.BYTES c.wide.result c.requires)
    _ (strip_prefix_is Decides-eqb _ _ (Some c.in-Some.after) c.in-Some.ensures.cases)

pub returns : goal.returns
returns g c =
    let h = length-map c.args.list.now g.N.Number.value in
    comparing_end c.loop-number.invariant c.is_empty.result (omega (arith, h, c.loop-number-test.false)) c.is_empty.ensures
