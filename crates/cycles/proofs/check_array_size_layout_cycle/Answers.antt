use Rattle.chain.proofs.Called.{answer_none, answer_stands}
use Rattle.checks.proofs.ChainChecks.{fine, type_part_lem, array_none, array_some}
use Rattle.search.proofs.Wanted.{wanted_is, wanted_on}
use Rattle.cycles.proofs.check_array_size_layout_cycle.Goals as goal

pub parse_field_reference-target-requires : goal.parse_field_reference-target-requires
parse_field_reference-target-requires c = c.requires.edges_prepared.2

pub find_layout_dependency_chain-requires : goal.find_layout_dependency_chain-requires
find_layout_dependency_chain-requires c = (c.requires.graph_of, c.requires.edges_prepared.0, c.requires.edges_prepared.1)

pub returns-in_err-n : goal.returns-in_err-n
returns-in_err-n c = rw c.from_residual.ensures (wanted_is (fine _ _ _ (array_none _ _ _ _ (type_part_lem c.requires.graph_of _ _ c.parse_field_reference-target.ensures) (answer_none c.find_layout_dependency_chain.ensures.0.holds c.in_err-n.was))), c.find_layout_dependency_chain.ensures.1)

pub returns : goal.returns
returns c = (wanted_on c.find_layout_dependency_chain.ensures.0 (λ l h. array_some _ _ _ _ (type_part_lem c.requires.graph_of _ _ c.parse_field_reference-target.ensures) c.requires.edges_prepared.2 (answer_stands h c.in_ok-n.was)), c.find_layout_dependency_chain.ensures.1)
