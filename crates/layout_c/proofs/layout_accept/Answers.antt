use native.Mathlib.Omega.{arith}
use mathlib.Core.Path.{ap, ◌∙◌}
use Rattle.layout_c.specs.Convention.{code_of}
use Rattle.layout_c.proofs.CallLaws.{accept_in_c}
use Rattle.layout_c.proofs.layout_accept.Goals as goal

pub returns : goal.returns
returns c = accept_in_c _ (λ i. omega (arith, c.type_inv.bundle i)) _ (c.give.ensures.code ∙ ap code_of c.accept.ensures)
