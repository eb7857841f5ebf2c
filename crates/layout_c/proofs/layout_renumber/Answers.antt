use Rattle.layout_c.proofs.CallLaws.{renumber_in_c}
use Rattle.layout_c.proofs.layout_renumber.Goals as goal

pub returns : goal.returns
returns c = renumber_in_c _ c.renumber.ensures c.give.ensures.length_out c.give.ensures.code
