-- First walks from one start: each is one, they are ordered, and each but the empty one goes on from another by one edge.
--     chained                the three kinds of chain
--     walk_more              a walk and one edge more
--     first_one              a name has one first walk
--     last_first             a first walk without its last edge is the first walk to where that edge leads from
--     sooner_total, sooner_trans, sooner_irrefl       the order of the reachable names
--     last_sooner            the last name but one of a chain is sooner than the last
use Prim.Native.Nat.{ℕ, ◌<◌}
use mathlib.Core.Path.{◌≡◌, refl, sym, ap, ◌∙◌, subst}
use mathlib.Core.Logic.{◌⊎◌, inl, inr}
use mathlib.Core.List.{List, [], ◌∷◌, ◌++◌}
use mathlib.Core.Option.{Option, none, some}
use Rattle.meaning.specs.Chain.{Graph, IsWalk, Reaches, Before, IsFirstWalk, first_walk}
use Rattle.meaning.proofs.Order.{before_trans, before_irrefl, at_most_antisym}
use Rattle.meaning.proofs.ChainLaws.{first_walk_some, first_walk_none, reaches_walk}
use Rattle.followed.specs.Laws.{Sooner, LastButOne}
use Rattle.followed.proofs.Order.{AtMost, before_at_most, before_snoc, before_longer, before_total}

-- there is no chain, or it has one name, or more and so a last but one
pub data Chained (g : Graph) (a b : ℕ) : Type 0 where
  no_chain : (Reaches g a b → ⊥) → Chained g a b
  one_name : a ≡ b → Chained g a b
  more : {p : ℕ} → LastButOne g a b p → Chained g a b

-- a list has no last element, or one
last_or_none : (es : List ℕ) → (es ≡ []) ⊎ ((ds : List ℕ) × (e : ℕ) × (es ≡ ds ++ e ∷ []))
last_or_none [] = inl refl
last_or_none (d ∷ es) = inr (go (last_or_none es))
  where
    go : (es ≡ []) ⊎ ((ds : List ℕ) × (e : ℕ) × (es ≡ ds ++ e ∷ [])) → (ds : List ℕ) × (e : ℕ) × (d ∷ es ≡ ds ++ e ∷ [])
    go (inl q) = ([], d, ap (d ∷◌) q)
    go (inr q) = (d ∷ q.0, q.1, ap (d ∷◌) q.2)

module _ (g : Graph) where
  -- a walk leads to one name
  pub walk_end : (a x y : ℕ) (es : List ℕ) → IsWalk g a es x → IsWalk g a es y → x ≡ y
  walk_end a x y [] v w = sym v ∙ w
  walk_end a x y (e ∷ es) v w = walk_end (g.to e) x y es v.2 w.2

  -- a walk and one edge more
  pub walk_more : (a e : ℕ) (es : List ℕ) → IsWalk g a es (g.from e) → e < g.count → IsWalk g a (es ++ e ∷ []) (g.to e)
  walk_more a e [] w l = (l, sym w, refl)
  walk_more a e (d ∷ es) w l = (w.0, w.1, walk_more (g.to d) e es w.2 l)

  -- a walk and its last edge
  walk_last : (a b e : ℕ) (es : List ℕ) → IsWalk g a (es ++ e ∷ []) b → IsWalk g a es (g.from e) × (e < g.count) × (g.to e ≡ b)
  walk_last a b e [] w = (sym w.1, w.0, w.2)
  walk_last a b e (d ∷ es) w =
      let r = walk_last (g.to d) b e es w.2 in
      ((w.0, w.1, r.0), r.1, r.2)

  pub first_one : {a b : ℕ} {es fs : List ℕ} → IsFirstWalk g a b es → IsFirstWalk g a b fs → es ≡ fs
  first_one {es = es} {fs = fs} v w = at_most_antisym (v.first fs w.walk) (w.first es v.walk)

  pub last_first : (a b : ℕ) (es : List ℕ) (e : ℕ) → IsFirstWalk g a b (es ++ e ∷ []) → IsFirstWalk g a (g.from e) es
  last_first a b es e f = record { walk = w.0; first = λ fs v. at fs v (before_total es fs) }
    where
      w : IsWalk g a es (g.from e) × (e < g.count) × (g.to e ≡ b)
      w = walk_last a b e es f.walk

      at : (fs : List ℕ) → IsWalk g a fs (g.from e) → (es ≡ fs) ⊎ (Before es fs ⊎ Before fs es) → AtMost es fs
      at fs v (inl p) = inl p
      at fs v (inr (inl p)) = inr p
      at fs v (inr (inr p)) =
          absurd (before_irrefl (before_at_most (before_snoc e e p)
          (f.first (fs ++ e ∷ []) (subst (λ x. IsWalk g a (fs ++ e ∷ []) x) w.2 (walk_more a e fs v w.1)))))

  pub chained : (a b : ℕ) → Chained g a b
  chained a b = go (first_walk g a b) refl
    where
      at : (es : List ℕ) → IsFirstWalk g a b es → (es ≡ []) ⊎ ((ds : List ℕ) × (e : ℕ) × (es ≡ ds ++ e ∷ [])) → Chained g a b
      at es f (inl q) = one_name (subst (λ ds. IsWalk g a ds b) q f.walk)
      at es f (inr q) = more (record { edges = q.0; last = q.1; first = subst (IsFirstWalk g a b) q.2 f; from = refl })

      go : (o : Option (List ℕ)) → first_walk g a b ≡ o → Chained g a b
      go none q = no_chain (λ p. let w = reaches_walk g p in first_walk_none g a b q w.0 w.1)
      go (some es) q = at es (first_walk_some g a b es q) (last_or_none es)

  -- the first walk to where the start reaches
  pub first_there : {a b : ℕ} → Reaches g a b → (es : List ℕ) × IsFirstWalk g a b es
  first_there {a} {b} p = go (first_walk g a b) refl
    where
      go : (o : Option (List ℕ)) → first_walk g a b ≡ o → (es : List ℕ) × IsFirstWalk g a b es
      go none q = let w = reaches_walk g p in absurd (first_walk_none g a b q w.0 w.1)
      go (some es) q = (es, first_walk_some g a b es q)

  pub sooner_total : (a x y : ℕ) → Reaches g a x → Reaches g a y → (x ≡ y) ⊎ (Sooner g a x y ⊎ Sooner g a y x)
  sooner_total a x y p q = go (before_total v.0 w.0)
    where
      v : (es : List ℕ) × IsFirstWalk g a x es
      v = first_there p

      w : (es : List ℕ) × IsFirstWalk g a y es
      w = first_there q

      go : (v.0 ≡ w.0) ⊎ (Before v.0 w.0 ⊎ Before w.0 v.0) → (x ≡ y) ⊎ (Sooner g a x y ⊎ Sooner g a y x)
      go (inl e) = inl (walk_end a x y w.0 (subst (λ es. IsWalk g a es x) e v.1.walk) w.1.walk)
      go (inr (inl b)) = inr (inl (record { walk = v.0; later = w.0; is = v.1; other = w.1; before = b }))
      go (inr (inr b)) = inr (inr (record { walk = w.0; later = v.0; is = w.1; other = v.1; before = b }))

  pub sooner_trans : {a x y z : ℕ} → Sooner g a x y → Sooner g a y z → Sooner g a x z
  sooner_trans s t = record {
    walk = s.walk;
    later = t.later;
    is = s.is;
    other = t.other;
    before = before_trans s.before (subst (λ es. Before es t.later) (first_one t.is s.other) t.before);
  }

  pub sooner_irrefl : {a x : ℕ} → Sooner g a x x → ⊥
  sooner_irrefl s = before_irrefl (subst (λ es. Before es s.later) (first_one s.is s.other) s.before)

  -- the first walk to the last name but one
  pub last_walk : {a b p : ℕ} (l : LastButOne g a b p) → IsFirstWalk g a p l.edges
  last_walk {a} {b} l = subst (λ x. IsFirstWalk g a x l.edges) l.from (last_first a b l.edges l.last l.first)

  pub last_sooner : {a b p : ℕ} → LastButOne g a b p → Sooner g a p b
  last_sooner l = record {
    walk = l.edges;
    later = l.edges ++ l.last ∷ [];
    is = last_walk l;
    other = l.first;
    before = before_longer l.edges [] l.last;
  }
