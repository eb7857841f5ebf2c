-- The kept answers before any test was made.
use Rattle.std.specs.Prelude.{Option, Some, None}
use Prim.Native.Nat.{ℕ, zero, suc}
use native.Mathlib.Omega.{arith}
use mathlib.Core.Bool.{Bool}
use mathlib.Core.List.{List}
use mathlib.Core.Path.{◌≡◌, refl}
use lib.ListN.{replicate, get_or}
use Rattle.sizes.specs.Tests.{Kept}

-- nothing is known yet
unknown : (n i : ℕ) → ◌≡◌ {A = Option Bool} (get_or (replicate n None) i None) None
unknown zero i = refl
unknown (suc n) zero = refl
unknown (suc n) (suc i) = unknown n i

no_some : {o : Option Bool} {holds : Bool} → o ≡ None → o ≡ Some holds → ⊥
no_some p e = let z : ◌≡◌ {A = ℕ} 0 1 = cc in omega arith

pub kept_start : (s : List ℕ) (j : Bool) → Kept s j (replicate 256 None)
kept_start s j = record { size = refl; answers = λ i holds e. absurd (no_some (unknown 256 i) e) }
