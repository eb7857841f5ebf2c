use Rattle.refusal.proofs.NumberLaws.{handed_on}
use Rattle.records.proofs.LayoutLaws.{bundle_refused}
use Rattle.records.proofs.RecordLaws.{bundle_overlong, bundle_bad}
use Rattle.acceptance.proofs.bundle_at.Goals as goal

pub returns-then-s-gt-BYTE_LIMIT : goal.returns-then-s-gt-BYTE_LIMIT
returns-then-s-gt-BYTE_LIMIT c = bundle_refused _ _ (bundle_overlong _ c.if-s-gt-BYTE_LIMIT.true)

pub returns-in_err-header : goal.returns-in_err-header
returns-in_err-header c = rw (handed_on _ c.from_residual.ensures.1) (bundle_refused _ _ (bundle_bad _ _ c.if-s-gt-BYTE_LIMIT.false c.in_err-header.ensures))

pub rest_at-requires : goal.rest_at-requires
rest_at-requires c = (c.if-s-gt-BYTE_LIMIT.false, c.requires, c.in_ok-header.ensures)

pub returns : goal.returns
returns c = c.rest_at.ensures
