use mathlib.Core.Path.{ap, ◌∙◌}
use Rattle.meaning.specs.Kinds.{form_parts}
use Rattle.renumber.proofs.PartLaws.{behind_byte, behind_name, behind_last, behind_all}
use Rattle.renumber.proofs.behind_next.Goals as goal

pub returns-then-left-gt0 : goal.returns-then-left-gt0
returns-then-left-gt0 c =
    let a = c.args in
    behind_byte a.left.0 a.left.1 a.left.2 a.kind c.if-left-gt0.true

pub returns-then-left-gt0-2 : goal.returns-then-left-gt0-2
returns-then-left-gt0-2 c =
    let a = c.args in
    behind_name a.left.0 a.left.1 a.left.2 a.kind c.if-left-gt0.false c.if-left-gt0-2.true

pub returns-then-left-gt0-3 : goal.returns-then-left-gt0-3
returns-then-left-gt0-3 c =
    let a = c.args in
    behind_last a.left.0 a.left.1 a.left.2 a.kind c.if-left-gt0.false c.if-left-gt0-2.false c.if-left-gt0-3.true

pub returns : goal.returns
returns c =
    let a = c.args in
    let at = c in
    c.parts_of.ensures ∙ ap form_parts c.form_of.ensures.form
    ∙ behind_all a.left.0 a.left.1 a.left.2 a.kind at.if-left-gt0.false at.if-left-gt0-2.false at.if-left-gt0-3.false
