-- `stored::is_due` meets its contract, for a result and for a refusal.
use native.Mathlib.Omega.{arith}
use mathlib.Core.Logic.{⊎_elim}
use mathlib.Core.Path.{sym, ap, ◌∙◌}
use lib.ListN.{take}
use Rattle.stored.specs.Stored.{IsDue}
use Rattle.stored.proofs.Parts.{told, whether_same}
use Rattle.stored.proofs.is_due.Goals as goal

pub returns-in-Some : goal.returns-in-Some
unfolding IsDue
returns-in-Some c =
    let p = c.in-Some.ensures.lookup.0 in
    let e = p.2 ∙ ap (λ n. take n c.args.out.now) (omega arith) in
    rw c.in-Ok.is (whether_same c.eq.result (λ t. (p.1, sym t ∙ e)) (λ t. e ∙ sym t.1) (told c.eq.result _ _ c.eq.ensures))

pub returns-in-None : goal.returns-in-None
unfolding IsDue
returns-in-None c = rw c.in-Ok.is (λ t. ⊎_elim (λ h. omega arith) (λ h. omega (arith, t.0)) c.in-None.ensures.lookup.0)

pub returns-in-Err : goal.returns-in-Err
unfolding IsDue
returns-in-Err c = rw c.in-Err.is c.is_refusal.ensures
