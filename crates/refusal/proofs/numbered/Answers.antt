use Rattle.refusal.proofs.NumberLaws.{number_within, number_back, number_forth}
use Rattle.refusal.proofs.numbered.Goals as goal

pub returns : goal.returns
returns c = record { within = number_within; back = number_back; forth = number_forth }
