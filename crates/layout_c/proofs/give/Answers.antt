use mathlib.Core.Path.{refl}
use Rattle.bundle.specs.Opened.{answer_meant}
use Rattle.layout_c.specs.Convention.{code_of, written_after}
use Rattle.layout_c.proofs.give.Goals as goal

pub returns-in-Ok-clause-length_out : goal.returns-in-Ok-clause-length_out
unfolding answer_meant written_after
returns-in-Ok-clause-length_out c = rw c.in-Ok.is refl

pub returns-in-Ok-clause-code : goal.returns-in-Ok-clause-code
unfolding answer_meant code_of
returns-in-Ok-clause-code c = rw c.in-Ok.is refl

pub returns-in-Err-clause-length_out : goal.returns-in-Err-clause-length_out
unfolding answer_meant written_after
returns-in-Err-clause-length_out c = rw c.in-Err.is refl

pub returns-in-Err-clause-code : goal.returns-in-Err-clause-code
unfolding answer_meant code_of
returns-in-Err-clause-code c = rw c.in-Err.is c.from.ensures
