-- The order of walks, `Before`: fewer edges first, then dictionary order.
--     before_snoc, before_last         one edge more at the end of each
--     before_longer                    a list comes before what begins with it
--     before_total                     of two lists one comes before the other, or they are equal
--     AtMost                           equal or before, with the same laws
use Prim.Native.Nat.{ℕ, ◌+◌, ◌≤◌, ◌<◌}
use mathlib.Core.Path.{◌≡◌, refl, sym, ap, ◌∙◌, subst}
use mathlib.Core.Logic.{◌⊎◌, inl, inr, ⊎_elim, by_cases}
use mathlib.Core.List.{List, [], ◌∷◌, ◌++◌}
use native.Mathlib.Omega.{arith}
use native.Mathlib.Decide.{ℕ_discrete}
use lib.ListN.{length, length-append}
use Rattle.meaning.specs.Chain.{Earlier, Before, fewer, earlier}
use Rattle.meaning.proofs.Order.{before_trans}
use Rattle.meaning.proofs.Walks.{order}

-- what is decided by the first lists stays so, whatever follows
earlier_snoc : (u v : List ℕ) (a b : ℕ) → length u ≡ length v → Earlier u v → Earlier (u ++ a ∷ []) (v ++ b ∷ [])
earlier_snoc [] [] a b l p = absurd p
earlier_snoc [] (y ∷ v) a b l p = absurd (omega arith)
earlier_snoc (x ∷ u) [] a b l p = absurd p
earlier_snoc (x ∷ u) (y ∷ v) a b l (inl p) = inl p
earlier_snoc (x ∷ u) (y ∷ v) a b l (inr p) = inr (p.0, earlier_snoc u v a b (omega arith) p.1)

earlier_last : (u : List ℕ) (a b : ℕ) → a < b → Earlier (u ++ a ∷ []) (u ++ b ∷ [])
earlier_last [] a b p = inl p
earlier_last (x ∷ u) a b p = inr (refl, earlier_last u a b p)

length_snoc : (u : List ℕ) (a : ℕ) → length (u ++ a ∷ []) ≡ length u + 1
length_snoc u a = simp length-append

pub before_snoc : {u v : List ℕ} (a b : ℕ) → Before u v → Before (u ++ a ∷ []) (v ++ b ∷ [])
before_snoc {u} {v} a b (fewer p) = fewer (omega (arith, length_snoc u a, length_snoc v b))
before_snoc {u} {v} a b (earlier l p) = earlier (omega (arith, length_snoc u a, length_snoc v b)) (earlier_snoc u v a b l p)

pub before_last : (u : List ℕ) {a b : ℕ} → a < b → Before (u ++ a ∷ []) (u ++ b ∷ [])
before_last u {a} {b} p = earlier (length_snoc u a ∙ sym (length_snoc u b)) (earlier_last u a b p)

pub before_longer : (u v : List ℕ) (x : ℕ) → Before u (u ++ x ∷ v)
before_longer u v x = fewer (omega (arith, length-append u (x ∷ v)))

earlier_total : (u v : List ℕ) → length u ≡ length v → (u ≡ v) ⊎ (Earlier u v ⊎ Earlier v u)
earlier_total [] [] l = inl refl
earlier_total [] (b ∷ v) l = inr (inl tt)
earlier_total (a ∷ u) [] l = inr (inr tt)
earlier_total (a ∷ u) (b ∷ v) l = go (order a b) (earlier_total u v (omega arith))
  where
    go : (a < b) ⊎ ((a ≡ b) ⊎ (b < a)) → (u ≡ v) ⊎ (Earlier u v ⊎ Earlier v u)
        → (a ∷ u ≡ b ∷ v) ⊎ (Earlier (a ∷ u) (b ∷ v) ⊎ Earlier (b ∷ v) (a ∷ u))
    go (inl p) q = inr (inl (inl p))
    go (inr (inr p)) q = inr (inr (inl p))
    go (inr (inl p)) (inl q) = inl (cc)
    go (inr (inl p)) (inr (inl q)) = inr (inl (inr (p, q)))
    go (inr (inl p)) (inr (inr q)) = inr (inr (inr (sym p, q)))

pub before_total : (u v : List ℕ) → (u ≡ v) ⊎ (Before u v ⊎ Before v u)
before_total u v = go (order (length u) (length v))
  where
    go : (length u < length v) ⊎ ((length u ≡ length v) ⊎ (length v < length u)) → (u ≡ v) ⊎ (Before u v ⊎ Before v u)
    go (inl p) = inr (inl (fewer p))
    go (inr (inr p)) = inr (inr (fewer p))
    go (inr (inl p)) =
        ⊎_elim (λ (q : u ≡ v). inl q)
        (⊎_elim (λ (q : Earlier u v). inr (inl (earlier p q))) (λ (q : Earlier v u). inr (inr (earlier (sym p) q))))
        (earlier_total u v p)

abbrev pub AtMost : List ℕ → List ℕ → Type 0
AtMost u v = (u ≡ v) ⊎ Before u v

pub nil_at_most : (v : List ℕ) → AtMost [] v
nil_at_most [] = inl refl
nil_at_most (x ∷ v) = inr (fewer (omega arith))

pub before_at_most : {u v w : List ℕ} → Before u v → AtMost v w → Before u w
before_at_most {u} p (inl q) = subst (λ (x : List ℕ). Before u x) q p
before_at_most p (inr q) = before_trans p q

pub at_most_trans : {u v w : List ℕ} → AtMost u v → AtMost v w → AtMost u w
at_most_trans {u} {v} {w} (inl p) q = subst (λ (x : List ℕ). AtMost x w) (sym p) q
at_most_trans (inr p) q = inr (before_at_most p q)

-- the same edge more at the end of each
pub at_most_snoc : {u v : List ℕ} (a : ℕ) → AtMost u v → AtMost (u ++ a ∷ []) (v ++ a ∷ [])
at_most_snoc a (inl p) = inl (ap (λ (x : List ℕ). x ++ a ∷ []) p)
at_most_snoc a (inr p) = inr (before_snoc a a p)

-- a later edge at the end of the same list
pub at_most_last : (u : List ℕ) {a b : ℕ} → a ≤ b → AtMost (u ++ a ∷ []) (u ++ b ∷ [])
at_most_last u {a} {b} p =
    by_cases (ℕ_discrete a b) (λ (q : a ≡ b). inl (ap (λ (x : ℕ). u ++ x ∷ []) q))
    (λ (q : ¬ (a ≡ b)). inr (before_last u (omega arith)))
