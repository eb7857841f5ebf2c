-- A test that passes at each number below a bound, tried at all of them.
use Prim.Native.Nat.{ℕ, zero, suc, ◌<◌}
use native.Mathlib.Nat.{not-suc-le-zero, le_of_suc-le-suc, eq-or-lt_of_le}
use mathlib.Core.Bool.{Bool, true, ◌&&◌}
use mathlib.Core.Logic.{⊎_elim}
use lib.Dec.{T}
use Rattle.meaning.proofs.KindTable.{and_0, and_1}

-- the test passes at each number below n
abbrev pub every : (ℕ → Bool) → ℕ → Bool
every f zero = true
every f (suc n) = f n && every f n

pub every_at : (f : ℕ → Bool) (n k : ℕ) → T (every f n) → k < n → T (f k)
every_at f zero k t h = absurd (not-suc-le-zero h)
every_at f (suc n) k t h =
    ⊎_elim (λ e. rw e (and_0 (f n) (every f n) t)) (λ l. every_at f n k (and_1 (f n) (every f n) t) l) (eq-or-lt_of_le (le_of_suc-le-suc h))
