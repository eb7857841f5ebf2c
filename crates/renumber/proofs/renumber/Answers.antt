use Prim.Native.Nat.{ℕ}
use native.Mathlib.Omega.{arith}
use lib.ListN.{length-replicate}
use Rattle.renumber.proofs.renumber.Goals as goal

pub renumber_in-requires : goal.renumber_in-requires
renumber_in-requires c = let n = length-replicate {A = ℕ} 2050 0 in
    (omega (arith, n), λ _. omega (arith, n, c.if-bundle-le-SHORT_BYTES.true))

pub returns-then-bundle-le-SHORT_BYTES : goal.returns-then-bundle-le-SHORT_BYTES
returns-then-bundle-le-SHORT_BYTES c = c.renumber_in.ensures

pub renumber_in-requires-2 : goal.renumber_in-requires-2
renumber_in-requires-2 c = let n = length-replicate {A = ℕ} 33794 0 in
    (omega (arith, n), λ l. omega (arith, n, l))

pub returns : goal.returns
returns c = c.renumber_in-2.ensures
