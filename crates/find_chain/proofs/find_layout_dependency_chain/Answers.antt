-- `find_chain::find_layout_dependency_chain` meets its contract: what the bytes are refused for, or what was found for the bundle that they are.
use Rattle.refusal.proofs.NumberLaws.{handed_on}
use Rattle.find_chain.proofs.Answering.{called, turned_down}
use Rattle.find_chain.proofs.find_layout_dependency_chain.Goals as goal

pub returns-in_err-layout : goal.returns-in_err-layout
returns-in_err-layout c = rw (handed_on _ c.from_residual.ensures.1) (turned_down _ _ _ _ c.in_err-layout.ensures)

pub returns-then-edges-gt-FEW_EDGES : goal.returns-then-edges-gt-FEW_EDGES
returns-then-edges-gt-FEW_EDGES c = let o = c.in_ok-layout.ensures in called _ _ o.0 o.1 c.find_in.ensures

pub returns : goal.returns
returns c = let o = c.in_ok-layout.ensures in called _ _ o.0 o.1 c.find_in-2.ensures
