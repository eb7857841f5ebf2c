-- The invariant is that of `Containing`.
use native.Mathlib.Omega.{arith}
use mathlib.Core.Path.{sym, ◌∙◌}
use Rattle.containers.proofs.Containing.{containing_start, containing_here, containing_next, containing_end}
use Rattle.containers.proofs.is_enum_referencing_same_container_struct.Goals as goal

pub returns-in_default : goal.returns-in_default
returns-in_default c e l = containing_end c.args.definitions.now.table (containing_start _ _ _) (omega (arith, c.in_default.ensures, c.args.definitions.now.table.count))

pub loop-i-init : goal.loop-i-init
loop-i-init c e l = rw c.in-Some.ensures.0 (containing_start _ _ _)

pub returns-then-contains : goal.returns-then-contains
returns-then-contains c e l = containing_here c.args.definitions.now.table (c.loop-i.invariant e l) c.loop-i-test.true (sym c.if-contains.true ∙ c.contains.ensures e l)

pub loop-i-preserved : goal.loop-i-preserved
loop-i-preserved c e l = containing_next c.args.definitions.now.table (c.loop-i.invariant e l) c.loop-i-test.true (sym c.if-contains.false ∙ c.contains.ensures e l)

pub returns : goal.returns
returns c e l = containing_end c.args.definitions.now.table (c.loop-i.invariant e l) (omega arith)
