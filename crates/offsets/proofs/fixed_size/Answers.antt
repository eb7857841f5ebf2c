-- `offsets::fixed_size` meets its contract: what the bytes are refused for, or what is due to the bundle that they are.
use Rattle.refusal.proofs.NumberLaws.{handed_on}
use Rattle.offsets.proofs.PlacingLaws.{opened_call, refused_call}
use Rattle.offsets.proofs.fixed_size.Goals as goal

pub returns-in_err-layout : goal.returns-in_err-layout
returns-in_err-layout c = rw (handed_on _ c.from_residual.ensures.1) (refused_call _ _ _ _ c.in_err-layout.ensures)

pub returns : goal.returns
returns c = opened_call c.in_ok-layout.ensures c.fixed_opened.ensures
