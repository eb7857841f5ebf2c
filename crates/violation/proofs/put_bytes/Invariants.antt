use mathlib.Core.List.{[], ◌∷◌}
use Rattle.names.specs.Documents.{byte}
use Rattle.violation.proofs.Putting.{Each}
use Rattle.violation.proofs.put_bytes.Given as goal

abbrev pub invariant-loop-byte : goal.invariant-loop-byte
invariant-loop-byte l = Each (λ b. byte b ∷ []) 1 l.list l.initial.out l.initial.next l.out l.next l.byte-index
