-- `violation::put_violation` meets its contract: it writes the parts of the record one behind the other, or counts them.
use native.Mathlib.Omega.{arith}
use Rattle.std.proofs.Common.{rules, ◌≡◌, length}
use Rattle.violation.proofs.Putting.{record_puts, record_out, path_size}
use Rattle.violation.proofs.put_violation.Goals as goal

pub returns-then-out-at : goal.returns-then-out-at
returns-then-out-at c = λ names few same. record_out _ _ _ names _ c.if-out-at.true few

pub put_chain-requires-clause-length_bound : goal.put_chain-requires-clause-length_bound
put_chain-requires-clause-length_bound c =
    let sized : length c.args.found.path.names ≡ 4 = search rules in
    omega (arith, path_size c.args.found.path sized, c.put_byte-number.ensures.behind, c.put_two-named.ensures.behind, c.put_two-count.ensures.behind, c.put_path-link.ensures.behind, c.requires.length_bound)

pub returns : goal.returns
returns c = λ names few same.
    record_puts _ _ names _ c.from.ensures c.put_byte-number.ensures c.put_two-named.ensures c.put_two-count.ensures c.put_path-link.ensures c.put_chain.ensures few same
