-- `stored::headed` meets its contract: the number and those behind it.
use native.Mathlib.Omega.{arith}
use mathlib.Core.Path.{◌∙◌}
use Rattle.std.specs.Prelude.{Some, None}
use Rattle.std.proofs.lemmas.Bool.Decides.{Decides-eqb}
use Rattle.std.proofs.lemmas.Slice.Eq.{strip_prefix_is}
use Rattle.stored.proofs.Parts.{part_not, part_whether, number_low}
use Rattle.stored.proofs.headed.Goals as goal

pub returns-in_default : goal.returns-in_default
returns-in_default g c =
    part_not c.args.due.now c.to_le_bytes.result _ _ (c.to_le_bytes.ensures ∙ number_low 8 c.args.head (omega arith))
    (strip_prefix_is Decides-eqb _ _ None c.in_default.ensures.cases)

pub returns : goal.returns
returns g c =
    part_whether c.numbers_are.result c.args.due.now c.to_le_bytes.result c.in-Some.rest.now _ _ (c.to_le_bytes.ensures ∙ number_low 8 c.args.head (omega arith))
    (strip_prefix_is Decides-eqb _ _ (Some c.in-Some.rest) c.in-Some.ensures.cases)
    c.numbers_are.ensures
