-- `forward::find_later_field` meets its contract: the invariant is `Passed`.
use Prim.Native.Nat.{◌+◌, ◌*◌}
use mathlib.Core.Path.{◌≡◌, sym, ◌∙◌}
use native.Mathlib.Omega.{arith}
use Rattle.forward.proofs.LaterFields.{passed_here, passed_next}
use Rattle.forward.proofs.find_later_field.Goals as goal

pub returns-then-is_later_field : goal.returns-then-is_later_field
returns-then-is_later_field c = (
  passed_here c.loop-k.invariant (omega (arith, c.loop-k-test.true)) (sym c.if-is_later_field.true ∙ c.is_later_field.ensures),
  omega (arith, c.loop-k.invariant.ends, c.loop-k-test.true),
)

pub loop-k-preserved : goal.loop-k-preserved
loop-k-preserved c =
    let e : c.args.from + 3 * (c.loop-k.k + 1) ≡ c.args.from + 3 * c.loop-k.k + 3 = omega arith in
    rw e (passed_next c.loop-k.invariant (omega (arith, c.loop-k-test.true)) (sym c.if-is_later_field.false ∙ c.is_later_field.ensures))
