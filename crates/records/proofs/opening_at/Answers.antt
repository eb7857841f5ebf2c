-- `records::opening_at` meets its contract: its kind byte, and then its body.
use mathlib.Core.Path.{sym, ◌∙◌}
use Rattle.meaning.specs.ReadBundle.{opening, record_body}
use Rattle.refusal.proofs.NumberLaws.{handed_on}
use Rattle.bundle.proofs.Forms.{record_form}
use Rattle.bundle.proofs.HeadLaws.{kind_there, only_refused}
use Rattle.records.proofs.RecordLaws.{opening_ok, opening_cut}
use Rattle.records.proofs.opening_at.Goals as goal

pub skip_bytes-requires : goal.skip_bytes-requires
skip_bytes-requires c = (kind_there _ _ _ _ (sym c.in_ok-body.was ∙ c.behind_kind.ensures)).1.1

pub returns : goal.returns
returns c = sym (opening_ok _ _ _ _ _ _ _ (record_form c.args.form) (sym c.in_ok-body.was ∙ rw c.record_kind.ensures at c.behind_kind.ensures) _ (sym c.in_ok-skip_bytes.was ∙ rw c.record_length.ensures at c.skip_bytes.ensures))

pub returns-in_err-body : goal.returns-in_err-body
unfolding opening
returns-in_err-body c = handed_on _ c.from_residual.ensures.1 ∙ sym (only_refused _ _ _ record_body _ (sym c.in_err-body.was ∙ rw c.record_kind.ensures at c.behind_kind.ensures))

pub returns-in_err-skip_bytes : goal.returns-in_err-skip_bytes
returns-in_err-skip_bytes c = handed_on _ c.from_residual-in_err-skip_bytes.ensures.1 ∙ sym (opening_cut _ _ _ _ _ _ _ (record_form c.args.form) (sym c.in_ok-body.was ∙ rw c.record_kind.ensures at c.behind_kind.ensures) _ (sym c.in_err-skip_bytes.was ∙ rw c.record_length.ensures at c.skip_bytes.ensures))
