use native.Mathlib.Omega.{arith}
use mathlib.Core.Path.{refl, sym}
use lib.ListN.{length}
use lib.Seq.{length-take-le}
use Rattle.validate.proofs.Writing.{put_fine, put_some, fits_found}
use Rattle.validate.proofs.put_check.Goals as goal

pub returns-in_default : goal.returns-in_default
returns-in_default c = put_fine _ _ _ _ _ c.in_default.not-Some _

pub record_of-n-requires : goal.record_of-n-requires
record_of-n-requires c = (length c.args.list.now, fits_found _ _ c.in-Some.is c.requires.i_lt_definition_limit.1)

pub overflow_cast-i : goal.overflow_cast-i
overflow_cast-i c = record { fits = omega (arith, c.requires.i_lt_definition_limit.0) }

pub slice_bounds-put_violation-end-2 : goal.slice_bounds-put_violation-end-2
slice_bounds-put_violation-end-2 c = sym (length-take-le _ _ (c.record_of-n.ensures.room _ (fits_found _ _ c.in-Some.is c.requires.i_lt_definition_limit.1)).1)

pub returns : goal.returns
returns c =
    let f = fits_found _ _ c.in-Some.is c.requires.i_lt_definition_limit.1 in
    let r = c.record_of-n.ensures in
    rw c.in-Some.is (put_some r _ _ _ f refl refl (c.put_violation-report.ensures r.names r.few r.path))
