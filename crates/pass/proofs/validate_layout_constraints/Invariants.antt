use Rattle.cycles.specs.Shared.{bytes_of, Unchanged}
use Rattle.validate.proofs.Validators.{Defining}
use Rattle.pass.proofs.validate_layout_constraints.Given as goal

abbrev pub invariant-loop-i : goal.invariant-loop-i
invariant-loop-i l =
    Defining (bytes_of l.initial.checks) l.initial.work l.initial.report l.work l.i l.report × Unchanged l.initial.checks l.checks
