use Rattle.words.proofs.One.{asks_only, no_number, no_names}
use Rattle.words.proofs.order_of.Goals as goal

pub returns-in_err-parse_name-in-3-clause-asks : goal.returns-in_err-parse_name-in-3-clause-asks
returns-in_err-parse_name-in-3-clause-asks c = rw (c.in-3.is, c.from_residual-in_err-parse_name-in-3.ensures) (no_number _ _ c.in_err-parse_name-in-3.ensures)

pub returns-in_err-parse_name-in-4-clause-asks : goal.returns-in_err-parse_name-in-4-clause-asks
returns-in_err-parse_name-in-4-clause-asks c = rw (c.in-4.is, c.from_residual-in_err-parse_name-in-4.ensures) (no_names _ _ _ c.in_err-parse_name-in-4.ensures)

pub returns-in_ok-word_of-in-2-clause-asks : goal.returns-in_ok-word_of-in-2-clause-asks
returns-in_ok-word_of-in-2-clause-asks c = rw c.in-2.is (c.alone.ensures _ c.in_ok-word_of-in-2.ensures)

pub returns-in_ok-word_of-in-2-clause-asks_only : goal.returns-in_ok-word_of-in-2-clause-asks_only
returns-in_ok-word_of-in-2-clause-asks_only c = rw c.in-2.is (asks_only _ _ (c.alone.ensures _ c.in_ok-word_of-in-2.ensures))

pub returns-in_ok-parse_name-in-3-clause-asks_only : goal.returns-in_ok-parse_name-in-3-clause-asks_only
returns-in_ok-parse_name-in-3-clause-asks_only c = rw c.in-3.is (asks_only _ _ (c.ahead.ensures _ _ c.in_ok-word_of-in-3.ensures c.in_ok-parse_name-in-3.ensures))

pub returns-in_ok-parse_name-in-4-2-clause-asks_only : goal.returns-in_ok-parse_name-in-4-2-clause-asks_only
returns-in_ok-parse_name-in-4-2-clause-asks_only c = rw c.in-4.is (asks_only _ _ (c.between.ensures _ _ _ c.in_ok-word_of-in-4.ensures c.in_ok-parse_name-in-4.ensures c.in_ok-parse_name-in-4-2.ensures))
