-- `validate::validate_references` meets its contract: the invariant is that of `Writing`.
use borrow.Author.Tests.{lt-ltb}
use Prim.Native.Nat.{◌+◌, ◌*◌}
use native.Mathlib.Omega.{arith}
use mathlib.Core.Path.{◌∙◌}
use lib.ListN.{length-set}
use Rattle.sizes.proofs.ScanLaws.{nothing_left}
use Rattle.search.proofs.Lists.{lent_anew}
use Rattle.search.proofs.Wanted.{wanted_part}
use Rattle.containers.proofs.Keeping.{known_start}
use Rattle.validate.proofs.Shared.{check_before}
use Rattle.validate.proofs.Writing.{falls, meant_fits, meant_room, meant_wrote, referencing_start, referencing_room, referencing_next, referencing_end}
use Rattle.search.specs.Work.{Lent}
use Rattle.sizes.specs.Paths.{Fit}
use Rattle.containers.specs.Containers.{Known}
use Rattle.cycles.proofs.Sharing.{unchanged, still, before, twice}
use Rattle.validate.proofs.validate_references.Goals as goal

pub loop-next-init : goal.loop-next-init
loop-next-init c = (referencing_start _ _ _ _ _ _ c.requires.end_in_bounds.1 c.requires.end_in_bounds.2, lent_anew c.args.work.now c.requires.room, known_start _ _ c.requires.among.defined, unchanged)

pub reference_at-requires : goal.reference_at-requires
reference_at-requires c = (c.requires.end_in_bounds.0, c.args.checks.now.opened.layout_of.small, c.loop-next.invariant.0.fits)

pub shape_of-work-in_default : goal.shape_of-work-in_default
shape_of-work-in_default c = c.loop-next.invariant.0.list_size ∙ length-set c.args.work.now 0 0

pub returns-in_default : goal.returns-in_default
returns-in_default c = (referencing_end c.loop-next.invariant.0 c.in_default.ensures, c.loop-next.invariant.3)

pub check_reference-check-requires : goal.check_reference-check-requires
check_reference-check-requires c =
    let u = c.loop-next.invariant.3 in
    record {
      lent = still u (λ o e. Lent o.layout.edges e c.args.subject.place.name c.loop-next.work) c.loop-next.invariant.1;
      fit = still u (λ o e. Fit o.definitions.bytes.now c.in-Some.path × Known o.definitions.bytes.now c.args.subject.place.name c.loop-next.known) (c.in-Some.ensures.fit, c.loop-next.invariant.2);
    }

pub put_check-requires : goal.put_check-requires
put_check-requires c = let p = (wanted_part (6 * c.args.checks.now.opened.layout.edges + 3) c.check_reference-check.new.work (check_before c.loop-next.invariant.3 _ _ c.args.subject.place.name c.in-Some.path c.check_reference-check.new.work _ c.check_reference-check.ensures.0)) in record { i_lt_definition_limit = (c.requires.among.number, meant_fits p); room = meant_room p _ (referencing_room c.loop-next.invariant.0 c.in-Some.ensures _ (p.holds.means _)) }

pub loop-next-smaller : goal.loop-next-smaller
loop-next-smaller c = falls c.loop-next-test.true c.in-Some.ensures.forward

pub loop-next-preserved-then-is_some : goal.loop-next-preserved-then-is_some
loop-next-preserved-then-is_some c =
    let e = c.check_reference-check.ensures in
    let u = c.loop-next.invariant.3 in
    let p = wanted_part (6 * c.args.checks.now.opened.layout.edges + 3) c.check_reference-check.new.work (check_before u _ _ c.args.subject.place.name c.in-Some.path c.check_reference-check.new.work _ e.0) in (
      referencing_next c.loop-next.invariant.0 c.in-Some.ensures _ (p.holds.means _) c.check_reference-check.auto.work (meant_wrote p _ (lt-ltb _ _) c.put_check.ensures),
      before u (λ o e. Lent o.layout.edges e c.args.subject.place.name c.check_reference-check.new.work) e.1,
      before u (λ o _. Known o.definitions.bytes.now c.args.subject.place.name c.check_reference-check.new.known) e.2,
      twice u e.3,
    )

pub shape_of-work : goal.shape_of-work
shape_of-work c = c.loop-next.invariant.0.list_size ∙ length-set c.args.work.now 0 0

pub returns : goal.returns
returns c = (referencing_end c.loop-next.invariant.0 (nothing_left _ _ _ (omega arith)), c.loop-next.invariant.3)
