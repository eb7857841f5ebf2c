-- `bundle::member_head_at` meets its contract: its kind byte, and then its body.
use mathlib.Core.Path.{sym, ◌∙◌}
use Rattle.meaning.specs.ReadType.{member_head, member_body}
use Rattle.refusal.proofs.NumberLaws.{handed_on}
use Rattle.bundle.proofs.Forms.{kind_form}
use Rattle.bundle.proofs.HeadLaws.{member_ends, only_refused}
use Rattle.bundle.proofs.member_head_at.Goals as goal

pub returns : goal.returns
returns c = c.skip_bytes.ensures ∙ rw c.value_width.ensures (sym (member_ends _ _ _ _ _ (kind_form c.args.member) (sym c.in_ok-body.was ∙ rw c.member_kind.ensures at c.behind_kind.ensures)))

pub returns-in_err-body : goal.returns-in_err-body
unfolding member_head
returns-in_err-body c = handed_on _ c.from_residual.ensures.1 ∙ sym (only_refused _ _ _ member_body _ (sym c.in_err-body.was ∙ rw c.member_kind.ensures at c.behind_kind.ensures))
