use Rattle.chain.specs.Index.{names_in, name_in}
use Rattle.search_from.specs.Work.{before_in}
use Rattle.search_from.proofs.Filling.{Filling}
use Rattle.search_from.proofs.fill.Given as goal

abbrev pub invariant-loop-i : goal.invariant-loop-i
invariant-loop-i l = Filling (name_in l.count l.edges) (before_in l.work) (names_in l.edges) l.x l.n l.initial.list l.list l.y l.i
