use Rattle.sizes.proofs.PrimitiveLaws.{Passing}
use Rattle.sizes.proofs.all_of_size.Given as goal

abbrev pub invariant-loop : goal.invariant-loop
invariant-loop l = Passing l.depth l.s l.count l.at l.size l.counter l.next
