use native.Mathlib.Omega.{arith}
use borrow.Author.Tests.{ne_eqb}
use Rattle.fixed_meaning.specs.Value.{operation_of}
use Rattle.values.proofs.operation_of.Goals as goal

pub returns-in_default : goal.returns-in_default
unfolding operation_of
returns-in_default c =
    rw (
      ne_eqb 0x10 c.args.kind (λ e. omega arith),
      ne_eqb 0x11 c.args.kind (λ e. omega arith),
      ne_eqb 0x12 c.args.kind (λ e. omega arith),
      ne_eqb 0x13 c.args.kind (λ e. omega arith),
      ne_eqb 0x14 c.args.kind (λ e. omega arith),
      ne_eqb 0x1B c.args.kind (λ e. omega arith),
      ne_eqb 0x1C c.args.kind (λ e. omega arith),
      ne_eqb 0x1D c.args.kind (λ e. omega arith),
      ne_eqb 0x1E c.args.kind (λ e. omega arith),
      ne_eqb 0x1F c.args.kind (λ e. omega arith),
      ne_eqb 0x20 c.args.kind (λ e. omega arith),
    )
