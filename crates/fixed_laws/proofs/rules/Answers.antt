use Rattle.fixed_laws.proofs.Decided.{fixed, unfixed, one_layout, one_number}
use Rattle.fixed_laws.proofs.rules.Goals as goal

pub returns : goal.returns
returns c = record { fixed = fixed; unfixed = unfixed; one_layout = one_layout; one_number = one_number }
