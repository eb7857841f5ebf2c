use mathlib.Core.Bool.{not}
use mathlib.Core.Path.{ap, ◌∙◌}
use Rattle.fields.proofs.Lookups.{defined, undefined}
use Rattle.checks.proofs.ElementChecks.{struct_nowhere, struct_no, struct_yes}
use Rattle.checks.proofs.is_no_struct.Goals as goal
use Rattle.checks.proofs.is_no_struct.Goals.{in-Struct, in_default-matches}

pub returns-in_default : goal.returns-in_default
returns-in_default c = struct_nowhere _ _ (undefined c.args.definitions.now.table _ c.in_default.ensures)

pub returns : goal.returns
returns c =
    let d = defined c.args.definitions.now.table c.in-Some.ensures in
    elim c.match-matches.branch [
      | in-Struct w ↦ ap not w.matches-is ∙ struct_yes d c.place_of-at.ensures.at _ c.shape_at.ensures w.in-Struct.is
      | in_default-matches w ↦ ap not w.matches-is ∙ struct_no d c.place_of-at.ensures.at _ c.shape_at.ensures w.in_default-matches.not-Struct
    ]
