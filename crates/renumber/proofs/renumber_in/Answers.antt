use native.Mathlib.Omega.{arith}
use Rattle.refusal.proofs.NumberLaws.{handed_on}
use Rattle.meaning.proofs.RenumberingLaws.{accepted_whole}
use Rattle.renumber.proofs.AnswerLaws.{opened_accepted, accepted_small, answers_refused, answers_narrow, answers_renumbered}
use Rattle.renumber.proofs.renumber_in.Goals as goal

pub returns-in_err-open : goal.returns-in_err-open
returns-in_err-open c = rw (handed_on _ c.from_residual.ensures.1) (answers_refused _ _ _ c.in_err-open.ensures)

pub returns-then-out-bundle : goal.returns-then-out-bundle
returns-then-out-bundle c = answers_narrow (λ i. omega (arith, c.type_inv.bundle i)) (opened_accepted (λ i. omega (arith, c.type_inv.bundle i)) c.in_ok-open.ensures) _ c.if-out-bundle.true

pub scan-requires : goal.scan-requires
scan-requires c =
    let a = opened_accepted (λ i. omega (arith, c.type_inv.bundle i)) c.in_ok-open.ensures in
    record { s_len_bound = (accepted_small a, c.if-out-bundle.false); whole = (accepted_whole a, omega (arith, c.requires.1 (accepted_small a))) }

pub returns : goal.returns
returns c =
    answers_renumbered (λ i. omega (arith, c.type_inv.bundle i)) (opened_accepted (λ i. omega (arith, c.type_inv.bundle i)) c.in_ok-open.ensures) _ _ c.if-out-bundle.false c.scan.ensures
