-- The chain from a number, read off from how far each number is and from the hops.
--     hops_taken, -passed            one edge more, from the last to the first
--     hop_on                          a hop leads to a number that is one edge nearer
--     first_along                     the first walk goes along the hops
--     chain_along, chain_no           so does the chain; where no walk leads there is none
--     chain_size                      where a number is marked, the chain has as many names as it is far
use Prim.Native.Nat.{ℕ, zero, suc, ◌+◌, ◌≤◌, ◌<◌}
use mathlib.Core.Path.{◌≡◌, refl, sym, ap, ◌∙◌, subst}
use mathlib.Core.Logic.{◌⊎◌, inl, inr, ⊎_elim, by_cases}
use mathlib.Core.List.{List, [], ◌∷◌}
use mathlib.Core.Option.{Option, none, some}
use native.Mathlib.Omega.{arith}
use native.Mathlib.Decide.{ℕ_discrete, dec_lt}
use lib.ListN.{length, length-map}
use Rattle.meaning.specs.Chain.{Graph, IsWalk, Earlier, Before, fewer, earlier, IsFirstWalk, first_walk, names_on, chain_of}
use Rattle.meaning.proofs.ChainLaws.{first_walk_none, first_walk_some, first_walk_is, first_walk_no, first_shortest}
use Rattle.meaning.proofs.Walks.{order}
use Rattle.search.specs.Seeking.{Nearer, HopOf, Hops}
use Rattle.search.specs.Work.{along}
use Rattle.search.proofs.Breadth.{Far}

pub chain_no : (g : Graph) (x b : ℕ) → ((es : List ℕ) → IsWalk g x es b → ⊥) → chain_of g x b ≡ none
unfolding chain_of
chain_no g x b empty = rw (first_walk_no g x b empty)

module _ {g : Graph} {m : ℕ} {far : ℕ → ℕ} where
  module _ {hop : ℕ → ℕ} {e k : ℕ} (one : k ≡ e + 1) (hops : Hops g m far hop k) where
    -- an edge from e on is e or one of those after it
    after : {d : ℕ} → e ≤ d → (d ≡ e → ⊥) → k ≤ d
    after l ne = omega arith

    pub hops_passed : (far (g.from e) ≡ far (g.to e) + 1 → ⊥) → Hops g m far hop e
    hops_passed miss x d a p q n =
        let h = hops x d a (after p (λ z. not_e d z n)) q n in
        record {
          edge = h.edge;
          past = omega (arith, h.past);
          inside = h.inside;
          nearer = h.nearer;
          to = h.to;
          first = λ c u v w. h.first c (after u (λ z. not_e c z w)) v w;
        }
      where
        not_e : (d : ℕ) → d ≡ e → Nearer g far x d → ⊥
        not_e d z n = let w = subst (λ (y : ℕ). Nearer g far x y) z n in miss (ap far w.0 ∙ w.1)

    pub hops_taken : {hop' : ℕ → ℕ} → e < g.count → far (g.from e) ≡ far (g.to e) + 1 → hop' (g.from e) ≡ g.to e
        → ((x : ℕ) → (x ≡ g.from e → ⊥) → hop' x ≡ hop x) → Hops g m far hop' e
    hops_taken {hop'} l near here others x d a p q n =
        by_cases (ℕ_discrete x (g.from e))
        (λ (z : x ≡ g.from e).
        rw z (record { edge = e; past = omega arith; inside = l; nearer = (refl, near); to = here; first = λ c u v _. omega arith }))
        (λ (z : ¬ (x ≡ g.from e)).
        let h = hops x d a (after p (λ w. z (sym n.0 ∙ ap g.from w))) q n in
        record {
          edge = h.edge;
          past = omega (arith, h.past);
          inside = h.inside;
          nearer = h.nearer;
          to = others x z ∙ h.to;
          first = λ c u v w. h.first c (after u (λ y. z (sym w.0 ∙ ap g.from y))) v w;
        })

  module _ {b : ℕ} (ends : (d : ℕ) → d < g.count → (g.from d < m) × (g.to d < m)) (f : Far g b m far) where
    -- the first edge of a walk
    nearer : (x : ℕ) (d : ℕ) (es : List ℕ) → x < m → IsWalk g x (d ∷ es) b → length es + 2 ≤ far x → Nearer g far x d
    nearer x d es a w l =
        let to = (ends d w.0).1 in
        let r = f.nearest (g.to d) x to a es w.2 (omega arith) in
        let v = f.walks (g.to d) to r in
        let k = f.least x a (omega arith) (d ∷ v.0) (w.0, w.1, v.1) in
        (w.1, omega (arith, f.least (g.to d) to r es w.2, v.2, k))

    module _ (hop : ℕ → ℕ) (hops : Hops g m far hop 0) where
      hop_of : (x k : ℕ) → x < m → far x ≡ suc (suc k) → HopOf g far hop 0 x
      hop_of x k a e = let w = f.walks x a (omega arith) in go w.0 w.1 w.2
        where
          go : (es : List ℕ) → IsWalk g x es b → length es + 1 ≡ far x → HopOf g far hop 0 x
          go [] w s = absurd (omega arith)
          go (d ∷ es) w s = hops x d a (omega arith) w.0 (nearer x d es a w (omega arith))

      pub hop_on : (x k : ℕ) → x < m → far x ≡ suc (suc k) → (hop x < m) × (far (hop x) ≡ suc k)
      hop_on x k a e =
          let h = hop_of x k a e in
          rw h.to ((ends h.edge h.inside).1, omega (arith, h.nearer.1))

      pub first_along : (k x : ℕ) → x < m → far x ≡ suc k → (es : List ℕ) × IsFirstWalk g x b es × (length es ≡ k) × (names_on g x es ≡ along hop k x)
      unfolding along
      first_along zero x a e = ([], record { walk = w; first = λ fs _. empty fs }, refl, refl)
        where
          w : IsWalk g x [] b
          w = let t = f.walks x a (omega arith) in go t.0 t.1 t.2
            where
              go : (es : List ℕ) → IsWalk g x es b → length es + 1 ≡ far x → x ≡ b
              go [] w s = w
              go (d ∷ es) w s = absurd (omega arith)

          empty : (fs : List ℕ) → ([] ≡ fs) ⊎ Before [] fs
          empty [] = inl refl
          empty (d ∷ fs) = inr (fewer (omega arith))
      first_along (suc k) x a e =
          let h = hop_of x k a e in
          let r = first_along k (g.to h.edge) (ends h.edge h.inside).1 (omega (arith, h.nearer.1)) in (
            h.edge ∷ r.0,
            record { walk = (h.inside, h.nearer.0, r.1.walk); first = later h r.0 r.1 r.2 },
            ap suc r.2,
            ap (λ (ns : List ℕ). x ∷ ns) (r.3 ∙ ap (along hop k) (sym h.to)),
          )
        where
          later : (h : HopOf g far hop 0 x) (es : List ℕ) → IsFirstWalk g (g.to h.edge) b es → length es ≡ k
              → (fs : List ℕ) → IsWalk g x fs b → (h.edge ∷ es ≡ fs) ⊎ Before (h.edge ∷ es) fs
          later h es r s [] w = absurd (omega (arith, f.least x a (omega arith) [] w))
          later h es r s (d ∷ fs) w =
              by_cases (dec_lt k (length fs)) (λ (l : k < length fs). inr (fewer (omega arith)))
              (λ (l : ¬ (k < length fs)).
              let n = nearer x d fs a w (omega arith) in
              let size : length fs ≡ k = omega (arith, f.least x a (omega arith) (d ∷ fs) w) in
              at d fs w n size (order d h.edge))
            where
              at : (d : ℕ) (fs : List ℕ) → IsWalk g x (d ∷ fs) b → Nearer g far x d → length fs ≡ k
                  → (d < h.edge) ⊎ ((d ≡ h.edge) ⊎ (h.edge < d)) → (h.edge ∷ es ≡ d ∷ fs) ⊎ Before (h.edge ∷ es) (d ∷ fs)
              at d fs w n size (inl p) = absurd (h.first d (omega arith) p n)
              at d fs w n size (inr (inl p)) =
                  ⊎_elim (λ (q : es ≡ fs). inl (cc)) (λ (q : Before es fs). inr (earlier (omega arith) (inr (sym p, within (omega arith) q))))
                  (r.first fs (subst (λ (y : ℕ). IsWalk g (g.to y) fs b) p w.2))
                where
                  within : {u v : List ℕ} → length u ≡ length v → Before u v → Earlier u v
                  within l (fewer p) = absurd (omega arith)
                  within l (earlier p q) = q
              at d fs w n size (inr (inr p)) = inr (earlier (omega arith) (inl p))

      pub chain_along : (k x : ℕ) → x < m → far x ≡ suc k → chain_of g x b ≡ some (along hop k x)
      unfolding chain_of
      chain_along k x a e =
          let t = first_along k x a e in
          rw (first_walk_is g x b t.0 t.1) (ap {B = Option (List ℕ)} some t.3)

    pub chain_size : (x : ℕ) → x < m → 0 < far x → (names : List ℕ) × (chain_of g x b ≡ some names) × (length names ≡ far x)
    unfolding chain_of
    chain_size x a l = let w = f.walks x a l in go w.0 w.1 w.2 (first_walk g x b) refl
      where
        go : (ws : List ℕ) → IsWalk g x ws b → length ws + 1 ≡ far x → (o : Option (List ℕ)) → first_walk g x b ≡ o
            → (names : List ℕ) × (chain_of g x b ≡ some names) × (length names ≡ far x)
        go ws w s none q = absurd (first_walk_none g x b q ws w)
        go ws w s (some es) q =
            let t = first_walk_some g x b es q in
            (names_on g x es, rw q, omega (arith, length-map es g.to, first_shortest g x b es ws t w, f.least x a l es t.walk))
