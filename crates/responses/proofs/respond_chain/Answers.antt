use Rattle.std.proofs.Common.{arith, ℕ, sym, length-take-le}
use lib.ListN.{length-replicate}
use Rattle.decimal.proofs.Writing.{writes_values}
use Rattle.responses.proofs.Responding.{chain_within, passed_on, chains, chain_refused}
use Rattle.responses.proofs.respond_chain.Goals as goal

pub slice_bounds-list-end : goal.slice_bounds-list-end
slice_bounds-list-end c = chain_within c.in_ok-listed.ensures

pub slice_bounds-write_numbers-end : goal.slice_bounds-write_numbers-end
slice_bounds-write_numbers-end c = sym (length-take-le c.in_ok-listed.listed.names c.find_layout_dependency_chain.new.list (chain_within c.in_ok-listed.ensures))

pub write_numbers-requires : goal.write_numbers-requires
write_numbers-requires c =
    let n = chain_within c.in_ok-listed.ensures in
    omega (arith, n, length-take-le c.in_ok-listed.listed.names c.find_layout_dependency_chain.new.list n, c.find_layout_dependency_chain.auto, length-replicate {A = ℕ} 1025 0, c.requires)

pub returns : goal.returns
returns c = chains c.in_ok-listed.ensures (writes_values _ c.write_numbers.ensures)

pub returns-in_err-listed : goal.returns-in_err-listed
returns-in_err-listed c = passed_on _ _ _ c.from_residual.ensures.1 (chain_refused (λ i. omega (arith, c.type_inv.bundle i)) _ c.in_err-listed.ensures (omega (arith, length-replicate {A = ℕ} 1025 0)))
