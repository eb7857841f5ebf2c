-- `tree::enter` meets its contract.
use native.Mathlib.Omega.{arith}
use Rattle.tree.proofs.Growing.{entered_first, entered_new}
use Rattle.tree.proofs.enter.Goals as goal

pub returns-in-Err-None : goal.returns-in-Err-None
returns-in-Err-None c = entered_first (rw c.in-Err-None.field-0-is at c.in-Err-None.ensures) (omega arith) c.put.ensures c.requires.1

pub returns-in-Err-Some : goal.returns-in-Err-Some
returns-in-Err-Some c = entered_new c.requires.0 (rw c.in-Err-Some.field-0-is at c.in-Err-Some.ensures) (omega arith) c.put-in-Err-Some.ensures c.requires.1
