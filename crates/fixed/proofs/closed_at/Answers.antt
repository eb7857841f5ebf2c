use native.Mathlib.Omega.{arith}
use mathlib.Core.Logic.{⊎_elim}
use mathlib.Core.Path.{◌∙◌}
use Rattle.extents.proofs.Parts.{members_vary, closed_packing}
use Rattle.fixed.proofs.WalkLaws.{fixed_closed, varying_closed}
use Rattle.fixed.proofs.closed_at.Goals as goal
use Rattle.fixed.proofs.closed_at.Goals.{in-Field, in-EnumVariant}

pub returns : goal.returns
returns c =
    (rw (c.packing_of.ensures, c.number_at.ensures) at c.close.ensures)
    ∙ closed_packing _ _ _
    ∙ elim c.match-member.branch [
      | in-Field w ↦ rw w.fixed-is (fixed_closed _ _ _ (⊎_elim (λ e. rw e (omega arith)) (λ e. rw e (omega arith)) w.in-Field.is))
      | in-EnumVariant w ↦ rw (w.fixed-is, w.vary.ensures, members_vary c.args.so) (varying_closed _ _ _ (⊎_elim (λ e. rw e (omega arith)) (λ e. rw e (omega arith)) w.in-EnumVariant.is))
    ]
