use native.Mathlib.Omega.{arith}
use mathlib.Core.Path.{sym, ◌∙◌}
use Rattle.checks.proofs.ChainChecks.{fine}
use Rattle.checks.proofs.ForwardChecks.{forward_part, forward_not, forward_is}
use Rattle.cycles.proofs.check_enum_forward_reference_in_same_struct.Goals as goal

pub returns-in_err-field : goal.returns-in_err-field
returns-in_err-field c = rw c.from_residual.ensures (fine _ _ _ (forward_part _ _ _ _ c.requires.held.0 c.in_err-field.ensures))

pub returns-then-not-stands_before : goal.returns-then-not-stands_before
returns-then-not-stands_before c =
    fine _ _ _ (forward_not _ _ _ _ c.requires.held.0 _ c.in_ok-field.ensures (sym c.if-not-stands_before.true ∙ c.stands_before.ensures c.args.name c.requires.held.1))

pub set_chain-requires : goal.set_chain-requires
set_chain-requires c = omega (arith, c.requires.fit.1)

pub returns : goal.returns
returns c = forward_is _ _ _ _ c.requires.held.0 _ c.in_ok-field.ensures c.args.list.now (sym c.if-not-stands_before.false ∙ c.stands_before.ensures c.args.name c.requires.held.1) c.set_chain.ensures
