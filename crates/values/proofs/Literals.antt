-- Literals.
use Prim.Native.Nat.{ℕ, zero, suc, ◌-◌, ◌*◌, ◌≤◌, ◌<◌}
use native.Mathlib.Omega.{arith}
use mathlib.Core.Bool.{Bool, true, false}
use mathlib.Core.Path.{◌≡◌, refl, ap}
use lib.Dec.{ltb, ltb→lt}
use lib.IntN.{ℤ, pos, negsuc, nat_abs, ◌+ℤ◌, ◌-ℤ◌}
use lib.Signed.{◌<ℤ◌}
use mir.Syntax.{w64}
use mir.Val.{SFits, to_z, of_z}
use mir.ValLaws.{to_z-of_z}
use borrow.Author.Tests.{ltb-true, ltb-false, le-leb, lt-leb, lt-ltb, le-ltb}
use Rattle.fixed_meaning.specs.Value.{unvalued, ranged, signed_limit, complement, literal_value}
use Rattle.values.specs.declared.Literal.{Literal}
use Rattle.values.specs.Meant.{literal_kind}

-- two's complement, by the distance of its least number, which is negative
from_distance : (z : ℤ) (n : ℕ) → z <ℤ pos 0 → nat_abs z ≤ n → z +ℤ pos (n - nat_abs z) ≡ complement (nat_abs z) n
unfolding complement
from_distance (pos a) n l h = absurd (omega (arith, ltb→lt a 0 l.lt))
from_distance (negsuc a) n l h = rw (le-ltb n (suc a) h) (go (2 * suc a) refl)
  where
    go : (m : ℕ) → m ≡ 2 * suc a → negsuc a +ℤ pos (n - suc a) ≡ pos n -ℤ pos m
    go zero e = absurd (omega arith)
    go (suc m) e = by_test (ltb n (suc m)) refl
      where
        by_test : (t : Bool) → ltb n (suc m) ≡ t → negsuc a +ℤ pos (n - suc a) ≡ pos n -ℤ pos (suc m)
        by_test true d = rw (lt-ltb (n - suc a) (suc a) (omega (arith, ltb-true n (suc m) d)), d) (ap negsuc (omega arith))
        by_test false d = rw (le-ltb (n - suc a) (suc a) (omega (arith, ltb-false n (suc m) d)), d) (ap pos (omega arith))

-- the same, where the number has come back from its bits
module _ (z : ℤ) (f : SFits w64 z) (limit n : ℕ) (e : limit ≡ nat_abs (to_z w64 (of_z w64 z))) where
  pub before_limit : n < limit → ranged (pos n) ≡ ranged (complement (nat_abs z) n)
  unfolding complement
  before_limit h = rw (lt-ltb n (nat_abs z) (rw (e, to_z-of_z w64 z f) at h))

  pub from_limit : z <ℤ pos 0 → limit ≤ n → to_z w64 (of_z w64 z) +ℤ pos (n - limit) ≡ complement (nat_abs z) n
  from_limit l h = rw (e, to_z-of_z w64 z f) (from_distance z n l (rw (e, to_z-of_z w64 z f) at h))

-- by the kind
pub unsigned : (k n : ℕ) → k ≤ 4 → ranged (pos n) ≡ literal_value k n
unfolding literal_value
unsigned k n h = rw (le-leb k 4 h)

pub signed : {l : Literal} (m : Literal) (n limit : ℕ) → l ≡ m → signed_limit (literal_kind m) ≡ limit → 4 < literal_kind m → literal_kind m ≤ 8 → ranged (complement limit n) ≡ literal_value (literal_kind l) n
unfolding literal_value
signed m n limit e d l h = rw (e, lt-leb (literal_kind m) 4 l, le-leb (literal_kind m) 8 h, d)

pub no_literal : (k n : ℕ) → 8 < k → unvalued 15 ≡ literal_value k n
unfolding literal_value
no_literal k n h = rw (lt-leb k 4 (omega arith), lt-leb k 8 h)
