-- The order of walks, `Before`: fewer edges first, then dictionary order.
--     before_trans, before_irrefl      it is a strict order
--     at_most_antisym                   equal or before, both ways
use Prim.Native.Nat.{ℕ}
use mathlib.Core.Path.{◌≡◌, sym, ◌∙◌}
use mathlib.Core.Logic.{◌⊎◌, inl, inr}
use mathlib.Core.List.{List, [], ◌∷◌}
use native.Mathlib.Omega.{arith}
use Rattle.meaning.specs.Chain.{Earlier, Before, fewer, earlier}

earlier_trans : (u v w : List ℕ) → Earlier u v → Earlier v w → Earlier u w
earlier_trans [] [] w p q = absurd p
earlier_trans [] (b ∷ v) [] p q = absurd q
earlier_trans [] (b ∷ v) (c ∷ w) p q = tt
earlier_trans (a ∷ u) [] w p q = absurd p
earlier_trans (a ∷ u) (b ∷ v) [] p q = absurd q
earlier_trans (a ∷ u) (b ∷ v) (c ∷ w) (inl p) (inl q) = inl (omega arith)
earlier_trans (a ∷ u) (b ∷ v) (c ∷ w) (inl p) (inr q) = inl (omega arith)
earlier_trans (a ∷ u) (b ∷ v) (c ∷ w) (inr p) (inl q) = inl (omega arith)
earlier_trans (a ∷ u) (b ∷ v) (c ∷ w) (inr p) (inr q) = inr (p.0 ∙ q.0, earlier_trans u v w p.1 q.1)

earlier_irrefl : (u : List ℕ) → Earlier u u → ⊥
earlier_irrefl [] p = p
earlier_irrefl (a ∷ u) (inl p) = omega arith
earlier_irrefl (a ∷ u) (inr p) = earlier_irrefl u p.1

pub before_trans : {u v w : List ℕ} → Before u v → Before v w → Before u w
before_trans (fewer p) (fewer q) = fewer (omega arith)
before_trans (fewer p) (earlier l q) = fewer (omega arith)
before_trans (earlier k p) (fewer q) = fewer (omega arith)
before_trans {u} {v} {w} (earlier k p) (earlier l q) = earlier (k ∙ l) (earlier_trans u v w p q)

pub before_irrefl : {u : List ℕ} → Before u u → ⊥
before_irrefl (fewer p) = omega arith
before_irrefl {u} (earlier l p) = earlier_irrefl u p

abbrev AtMost : List ℕ → List ℕ → Type 0
AtMost u v = (u ≡ v) ⊎ Before u v

pub at_most_antisym : {u v : List ℕ} → AtMost u v → AtMost v u → u ≡ v
at_most_antisym (inl p) q = p
at_most_antisym (inr p) (inl q) = sym q
at_most_antisym (inr p) (inr q) = absurd (before_irrefl (before_trans p q))
