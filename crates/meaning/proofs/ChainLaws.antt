-- What `first_walk` answers, said without it: a walk that comes before every other, or none where there is no walk.
--     shorten                                 where there is a walk, there is one of at most as many edges as the graph has
--     first_walk_some, first_walk_none          what an answer tells
--     first_walk_is, first_walk_no              what the answer is
--     chain_none, chain_some                  the same of `chain_of`
--     first_shortest, first_earliest          what `IsFirstWalk` says, in its two parts
--     chain_self                              the chain from a name to itself
--     none_from, none_to                      a name that no edge leads from, or to
use Prim.Native.Nat.{ℕ, zero, suc, ◌≤◌, ◌<◌}
use mathlib.Core.Path.{◌≡◌, refl, sym, ap, ◌∙◌, subst}
use mathlib.Core.Logic.{◌⊎◌, inl, inr, ⊎_elim, by_cases, ◌↔◌}
use mathlib.Core.List.{List, [], ◌∷◌}
use mathlib.Core.Option.{Option, none, some, map-eq-none_iff, map-eq-some_iff}
use native.Mathlib.Omega.{arith}
use native.Mathlib.Nat.{le_of_suc-le-suc}
use native.Mathlib.Decide.{ℕ_discrete}
use lib.ListN.{length, get_or}
use Rattle.meaning.specs.Chain.{Graph, IsWalk, Reaches, here, along, Earlier, Before, fewer, earlier, IsFirstWalk, walk_of, first_walk, names_on, chain_of}
use Rattle.meaning.proofs.Order.{at_most_antisym}
use Rattle.meaning.proofs.Walks.{first_some, first_none, walk_some, walk_none, order}
use Rattle.meaning.proofs.Pigeonhole.{Absent, Distinct, distinct_size}

module _ (g : Graph) where
  walk_below : (a b : ℕ) (es : List ℕ) → IsWalk g a es b → (i : ℕ) → i < length es → get_or es i 0 < g.count
  walk_below a b [] w i l = absurd (omega arith)
  walk_below a b (e ∷ es) w zero l = w.0
  walk_below a b (e ∷ es) w (suc i) l = walk_below (g.to e) b es w.2 i (le_of_suc-le-suc l)

  -- a walk of distinct edges does not follow e, or goes on from the end of e without e
  after_edge : (e a b : ℕ) (es : List ℕ) → IsWalk g a es b → Distinct es
      → Absent e es ⊎ ((ds : List ℕ) × IsWalk g (g.to e) ds b × Distinct (e ∷ ds))
  after_edge e a b [] w d = inl tt
  after_edge e a b (f ∷ es) w d =
      by_cases (ℕ_discrete e f)
      (λ (p : e ≡ f). inr (es, subst (λ (x : ℕ). IsWalk g (g.to x) es b) (sym p) w.2, subst (λ (x : ℕ). Distinct (x ∷ es)) (sym p) d))
      (λ (p : ¬ (e ≡ f)). ⊎_elim (λ (q : Absent e es). inl (p, q)) (λ q. inr q) (after_edge e (g.to f) b es w.2 d.1))

  -- a walk that follows no edge twice
  distinct_walk : (a b : ℕ) (es : List ℕ) → IsWalk g a es b → (ds : List ℕ) × IsWalk g a ds b × Distinct ds
  distinct_walk a b [] w = ([], w, tt)
  distinct_walk a b (e ∷ es) w =
      let s = distinct_walk (g.to e) b es w.2 in
      ⊎_elim
      (λ (q : Absent e s.0). (e ∷ s.0, (w.0, w.1, s.1), (q, s.2)))
      (λ q. (e ∷ q.0, (w.0, w.1, q.1), q.2))
      (after_edge e (g.to e) b s.0 s.1 s.2)

  pub shorten : (a b : ℕ) (es : List ℕ) → IsWalk g a es b → (ds : List ℕ) × IsWalk g a ds b × (length ds ≤ g.count)
  shorten a b es w =
      let s = distinct_walk a b es w in
      (s.0, s.1, distinct_size s.0 g.count s.2 (walk_below a b s.0 s.1))

  pub first_walk_none : (a b : ℕ) → first_walk g a b ≡ none → (fs : List ℕ) → IsWalk g a fs b → ⊥
  unfolding first_walk
  first_walk_none a b h fs w =
      let s = shorten a b fs w in
      walk_none g (length s.0) a b (first_none (λ n. walk_of g n a b) (suc g.count) h (length s.0) (omega arith)) s.0 s.1 refl

  pub first_walk_some : (a b : ℕ) (es : List ℕ) → first_walk g a b ≡ some es → IsFirstWalk g a b es
  unfolding first_walk
  first_walk_some a b es h = record { walk = w.walk; first = λ fs v. at fs v (order (length fs) n) }
    where
      t : (i : ℕ) × (i < suc g.count) × (walk_of g i a b ≡ some es) × ((j : ℕ) → j < i → walk_of g j a b ≡ none)
      t = first_some (λ n. walk_of g n a b) (suc g.count) es h

      n : ℕ
      n = t.0

      w : Rattle.meaning.proofs.Walks.IsFirstOf g n a b es
      w = walk_some g n a b es t.2

      at : (fs : List ℕ) → IsWalk g a fs b → (length fs < n) ⊎ ((length fs ≡ n) ⊎ (n < length fs)) → (es ≡ fs) ⊎ Before es fs
      at fs v (inl p) = absurd (walk_none g (length fs) a b (t.3 (length fs) p) fs v refl)
      at fs v (inr (inl p)) = ⊎_elim (λ (q : es ≡ fs). inl q) (λ (q : Earlier es fs). inr (earlier (w.size ∙ sym p) q)) (w.first fs v p)
      at fs v (inr (inr p)) = inr (fewer (omega (arith, w.size)))

  pub first_walk_is : (a b : ℕ) (es : List ℕ) → IsFirstWalk g a b es → first_walk g a b ≡ some es
  first_walk_is a b es f = go (first_walk g a b) refl
    where
      go : (o : Option (List ℕ)) → first_walk g a b ≡ o → o ≡ some es
      go none q = absurd (first_walk_none a b q es f.walk)
      go (some ds) q =
          let s = first_walk_some a b ds q in
          ap {B = Option (List ℕ)} some (at_most_antisym (s.first es f.walk) (f.first ds s.walk))

  pub first_walk_no : (a b : ℕ) → ((fs : List ℕ) → IsWalk g a fs b → ⊥) → first_walk g a b ≡ none
  first_walk_no a b f = go (first_walk g a b) refl
    where
      go : (o : Option (List ℕ)) → first_walk g a b ≡ o → o ≡ none
      go none q = refl
      go (some ds) q = absurd (f ds (first_walk_some a b ds q).walk)

  pub reaches_walk : {a b : ℕ} → Reaches g a b → (es : List ℕ) × IsWalk g a es b
  reaches_walk here = ([], refl)
  reaches_walk (along e l p) = let w = reaches_walk p in (e ∷ w.0, (l, refl, w.1))

  pub walk_reaches : (a b : ℕ) (es : List ℕ) → IsWalk g a es b → Reaches g a b
  walk_reaches a b [] w = subst (λ (x : ℕ). Reaches g a x) w here
  walk_reaches a b (e ∷ es) w = subst (λ (x : ℕ). Reaches g x b) w.1 (along e w.0 (walk_reaches (g.to e) b es w.2))

  -- there is no chain exactly where a does not reach b
  pub chain_none : (a b : ℕ) → (chain_of g a b ≡ none) ↔ (Reaches g a b → ⊥)
  unfolding chain_of
  chain_none a b = (
    λ h p. let w = reaches_walk p in first_walk_none a b ((map-eq-none_iff (names_on g a) (first_walk g a b)).0 h) w.0 w.1,
    λ h. rw (first_walk_no a b (λ fs w. h (walk_reaches a b fs w))),
  )

  -- a chain is the names on a walk before which no other comes
  pub chain_some : (a b : ℕ) (names : List ℕ) → chain_of g a b ≡ some names → (es : List ℕ) × IsFirstWalk g a b es × (names_on g a es ≡ names)
  unfolding chain_of
  chain_some a b names h =
      let t = (map-eq-some_iff (names_on g a) (first_walk g a b)).0 h in
      (t.0, first_walk_some a b t.0 t.1, t.2)

  -- no walk has fewer edges than the first
  pub first_shortest : (a b : ℕ) (es fs : List ℕ) → IsFirstWalk g a b es → IsWalk g a fs b → length es ≤ length fs
  first_shortest a b es fs f w = ⊎_elim (λ (p : es ≡ fs). omega (arith, ap length p)) (λ (p : Before es fs). size p) (f.first fs w)
    where
      size : {u v : List ℕ} → Before u v → length u ≤ length v
      size (fewer p) = omega arith
      size (earlier p q) = omega arith

  -- of the walks with as many edges it is the first in dictionary order
  pub first_earliest : (a b : ℕ) (es fs : List ℕ) → IsFirstWalk g a b es → IsWalk g a fs b → length fs ≡ length es → (es ≡ fs) ⊎ Earlier es fs
  first_earliest a b es fs f w l = ⊎_elim (λ (p : es ≡ fs). inl p) (λ (p : Before es fs). at l p) (f.first fs w)
    where
      at : {u v : List ℕ} → length v ≡ length u → Before u v → (u ≡ v) ⊎ Earlier u v
      at k (fewer p) = absurd (omega arith)
      at k (earlier p q) = inr q

  -- from a name to itself no edge is followed
  pub chain_self : (a : ℕ) → chain_of g a a ≡ some (a ∷ [])
  unfolding chain_of
  chain_self a = rw (first_walk_is a a [] (record { walk = refl; first = λ fs w. empty fs }))
    where
      empty : (fs : List ℕ) → ([] ≡ fs) ⊎ Before [] fs
      empty [] = inl refl
      empty (f ∷ fs) = inr (fewer (omega arith))

  -- a walk ends where it starts, or where an edge does
  walk_end : (a b : ℕ) (es : List ℕ) → IsWalk g a es b → (a ≡ b) ⊎ ((e : ℕ) × (e < g.count) × (g.to e ≡ b))
  walk_end a b [] w = inl w
  walk_end a b (e ∷ es) w = ⊎_elim (λ (p : g.to e ≡ b). inr (e, w.0, p)) (λ t. inr t) (walk_end (g.to e) b es w.2)

  pub none_from : (a b : ℕ) → ((e : ℕ) → e < g.count → g.from e ≡ a → ⊥) → (a ≡ b → ⊥) → chain_of g a b ≡ none
  unfolding chain_of
  none_from a b no_edge ne = rw (first_walk_no a b no_walk)
    where
      no_walk : (es : List ℕ) → IsWalk g a es b → ⊥
      no_walk [] w = ne w
      no_walk (e ∷ es) w = no_edge e w.0 w.1

  pub none_to : (a b : ℕ) → ((e : ℕ) → e < g.count → g.to e ≡ b → ⊥) → (a ≡ b → ⊥) → chain_of g a b ≡ none
  unfolding chain_of
  none_to a b no_edge ne =
      rw (first_walk_no a b (λ es w. ⊎_elim ne (λ (t : (e : ℕ) × (e < g.count) × (g.to e ≡ b)). no_edge t.0 t.1 t.2) (walk_end a b es w)))
