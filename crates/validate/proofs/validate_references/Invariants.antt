use Prim.Native.Nat.{◌-◌}
use Rattle.bundle.specs.Definitions.{bundle_of}
use Rattle.search.specs.Work.{Lent}
use Rattle.containers.specs.Containers.{Known}
use Rattle.cycles.specs.Shared.{Unchanged}
use Rattle.validate.specs.Validating.{is_tag, check_reference}
use Rattle.validate.proofs.Writing.{Referencing}
use Rattle.validate.proofs.validate_references.Given as goal

abbrev pub invariant-loop-next : goal.invariant-loop-next
invariant-loop-next l =
    Referencing l.bytes (check_reference (is_tag l.references.site) (bundle_of l.bytes) l.i l.name) l.references.at l.references.end l.initial.work l.initial.report l.work l.next l.report × Lent l.initial.checks.opened.layout.edges l.initial.checks.edges.now l.name l.work × Known l.bytes l.name l.known × Unchanged l.initial.checks l.checks

abbrev pub decreases-loop-next : goal.decreases-loop-next
decreases-loop-next l =
    l.references.end - l.next
