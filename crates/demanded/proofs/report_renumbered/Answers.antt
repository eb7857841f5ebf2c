use native.Mathlib.Omega.{arith}
use Rattle.bundle.specs.Opened.{answer_meant}
use Rattle.demands.proofs.Renumbered.{reported_demand, refused_demand}
use Rattle.demanded.proofs.Told.{accepted_call, accepted_size, accepted_within, refused_call}
use Rattle.demanded.proofs.report_renumbered.Goals as goal

pub slice_bounds-report-end : goal.slice_bounds-report-end
slice_bounds-report-end c = accepted_within _ c.renumber-first.ensures c.in-Ok.is

pub slice_bounds-report-end-in-Ok : goal.slice_bounds-report-end-in-Ok
slice_bounds-report-end-in-Ok c = accepted_size _ c.renumber-first.ensures c.in-Ok.is

pub returns-in-Ok : goal.returns-in-Ok
unfolding answer_meant
returns-in-Ok c = reported_demand _ _ _ _ _ _ _ (λ i. omega (arith, c.type_inv.bundle i)) (accepted_call _ c.renumber-first.ensures c.in-Ok.is) c.report-second.ensures

pub returns-in-Err : goal.returns-in-Err
unfolding answer_meant
returns-in-Err c = refused_demand _ _ _ _ _ (λ i. omega (arith, c.type_inv.bundle i)) (refused_call _ c.renumber-first.ensures c.in-Err.is)
