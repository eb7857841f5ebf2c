use mathlib.Core.List.{[], ◌∷◌}
use Rattle.names.specs.Documents.{name}
use Rattle.violation.proofs.Putting.{Each}
use Rattle.violation.proofs.put_path.Given as goal

abbrev pub invariant-loop-name : goal.invariant-loop-name
invariant-loop-name l = Each (λ n. name n ∷ []) 2 l.name-items l.initial.out l.initial.next l.out l.next l.name-index
