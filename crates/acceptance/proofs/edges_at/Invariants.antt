use Prim.Native.Nat.{◌-◌}
use mathlib.Core.Path.{◌≡◌}
use mathlib.Core.List.{[], ◌∷◌}
use Rattle.meaning.specs.ReadBundle.{read_edge}
use Rattle.bundle.specs.View.{step_of}
use Rattle.meaning.specs.Reader.{many}
use Rattle.acceptance.proofs.edges_at.Given as goal

abbrev pub invariant-loop : goal.invariant-loop
invariant-loop l = step_of (many ◌∷◌ [] read_edge (l.count - l.counter) l.s l.next) ≡ step_of (many ◌∷◌ [] read_edge l.count l.s l.at)
