-- `stored::layout_is` meets its contract: the size, and the alignment and offsets behind it.
use native.Mathlib.Omega.{arith}
use mathlib.Core.Path.{◌∙◌}
use Rattle.std.specs.Prelude.{Some, None}
use Rattle.std.proofs.lemmas.Bool.Decides.{Decides-eqb}
use Rattle.std.proofs.lemmas.Slice.Eq.{strip_prefix_is}
use Rattle.stored.proofs.Parts.{part_not, part_whether, number_low, plain_numbers, layout_parts}
use Rattle.stored.proofs.layout_is.Goals as goal

pub returns-in_default : goal.returns-in_default
returns-in_default c =
    let f = c.to_le_bytes.ensures ∙ number_low 8 c.args.size (omega arith) in
    λ d. part_not c.args.due.now c.to_le_bytes.result _ _ f (strip_prefix_is Decides-eqb _ _ None c.in_default.ensures.cases)
    (d ∙ layout_parts c.args.size c.args.alignment c.args.offsets.now)

pub returns : goal.returns
returns c =
    let f = c.to_le_bytes.ensures ∙ number_low 8 c.args.size (omega arith) in
    let n = plain_numbers c.headed.result 4 c.args.alignment c.args.offsets.now c.in-Some.rest.now c.headed.ensures in
    rw (layout_parts c.args.size c.args.alignment c.args.offsets.now)
    (part_whether c.headed.result c.args.due.now c.to_le_bytes.result c.in-Some.rest.now _ _ f (strip_prefix_is Decides-eqb _ _ (Some c.in-Some.rest) c.in-Some.ensures.cases) n)
