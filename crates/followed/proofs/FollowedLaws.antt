-- The laws of the names that a search follows.
--     reachable_iff          `reachable` lists the names that the start reaches, each once
--     followed_iff           `followed_names` lists the names that are followed, each once
--     followed_at_most       they are at most as many as the reachable names, and those at most one more than the edges
--     none_followed          none are followed exactly from a name to itself
use Prim.Native.Nat.{ℕ, zero, suc, ◌≤◌, ◌<◌}
use mathlib.Core.Path.{◌≡◌, refl, sym, ap, subst, ◌∙◌}
use mathlib.Core.Logic.{◌↔◌, inl, inr, ⊎_elim, by_cases}
use mathlib.Core.List.Memᴰ
use mathlib.Core.List.{List, [], ◌∷◌, ◌++◌, map-append, Memᴰ}
use mathlib.Core.Bool.{true, false≢true}
use mathlib.Core.Option.{Option, none, some}
use native.Mathlib.Omega.{arith}
use native.Mathlib.Decide.{ℕ_discrete}
use lib.ListN.{length}
use lib.Seq.{append_snoc}
use Rattle.meaning.specs.Chain.{Graph, IsWalk, Reaches, here, IsFirstWalk, first_walk, names_on, chain_of}
use Rattle.meaning.proofs.Walks.{below_suc}
use Rattle.meaning.proofs.ChainLaws.{first_walk_some, first_walk_is, walk_reaches, chain_none, chain_self}
use Rattle.meaning.proofs.Pigeonhole.{Distinct}
use Rattle.followed.specs.Followed.{edge_names, mentioned, is_there, reachable, walk_up_to, last_but_one, names_up_to, names_for, followed_names, followed_count}
use Rattle.followed.specs.Laws.{LastButOne, IsFollowed, without_chain, last_but_one_lem, sooner}
use Rattle.followed.proofs.Order.{AtMost, nil_at_most}
use Rattle.followed.proofs.DistinctLists.{filter_mem, mem_filter, distinct_filter, mem_inserts, distinct_inserts, within_size}
use Rattle.followed.proofs.UpTo.{up_to_true, true_up_to, last_but_one_of}
use Rattle.followed.proofs.FirstWalks.{first_there, Chained, no_chain, one_name, more, chained, walk_end, last_walk, last_sooner, sooner_trans, sooner_irrefl}

-- What the tests on walks tell.

there : (o : Option (List ℕ)) → is_there o ≡ true → (es : List ℕ) × (o ≡ some es)
there none h = absurd (false≢true h)
there (some es) h = (es, refl)

both : (o p : Option (List ℕ)) → walk_up_to o p ≡ true → (es : List ℕ) × (fs : List ℕ) × (o ≡ some es) × (p ≡ some fs) × AtMost es fs
both none p h = absurd (false≢true h)
both (some es) none h = absurd (false≢true h)
both (some es) (some fs) h = (es, fs, refl, refl, up_to_true es fs h)

module _ (g : Graph) where
  -- an edge's end is among the names
  end_mem : (k e : ℕ) → e < k → Memᴰ (g.to e) (edge_names g k)
  end_mem zero e l = absurd (omega arith)
  end_mem (suc k) e l =
      ⊎_elim (λ (p : e ≡ k). Memᴰ.append_right (edge_names g k) (Memᴰ.tail (Memᴰ.head (ap g.to p))))
      (λ (p : e < k). Memᴰ.append_left (g.from k ∷ g.to k ∷ []) (end_mem k e p))
      (below_suc l)

  -- a list that has the start of a walk and the ends of all edges has the end of the walk
  walk_inside : (xs : List ℕ) → ((e : ℕ) → e < g.count → Memᴰ (g.to e) xs) → (a x : ℕ) (es : List ℕ) → Memᴰ a xs → IsWalk g a es x → Memᴰ x xs
  walk_inside xs ends a x [] m w = subst (λ y. Memᴰ y xs) w m
  walk_inside xs ends a x (e ∷ es) m w = walk_inside xs ends (g.to e) x es (ends e w.0) w.2

  walk_mentioned : (a x : ℕ) (es : List ℕ) → IsWalk g a es x → Memᴰ x (mentioned g a)
  unfolding mentioned
  walk_mentioned a x es =
      walk_inside (mentioned g a) (λ e l. mem_inserts (a ∷ []) (edge_names g g.count) (g.to e) (inr (end_mem g.count e l))) a x es
      (mem_inserts (a ∷ []) (edge_names g g.count) a (inl (Memᴰ.head refl)))

  walk_reachable : (a x : ℕ) (es : List ℕ) → first_walk g a x ≡ some es → Memᴰ x (reachable g a)
  unfolding reachable
  walk_reachable a x es e =
      mem_filter (λ y. is_there (first_walk g a y)) (mentioned g a) x
      (walk_mentioned a x es (first_walk_some g a x es e).walk) (ap is_there e)

  reachable_walk : (a x : ℕ) → Memᴰ x (reachable g a) → (es : List ℕ) × (first_walk g a x ≡ some es)
  unfolding reachable
  reachable_walk a x m = there (first_walk g a x) (filter_mem (λ y. is_there (first_walk g a y)) (mentioned g a) x m).1

  -- the names that a reaches
  pub reachable_iff : (a x : ℕ) → Memᴰ x (reachable g a) ↔ Reaches g a x
  reachable_iff a x = (
    λ m. let r = reachable_walk a x m in walk_reaches g a x r.0 (first_walk_some g a x r.0 r.1).walk,
    λ p. let f = first_there g p in walk_reachable a x f.0 (first_walk_is g a x f.0 f.1),
  )

  pub reachable_distinct : (a : ℕ) → Distinct (reachable g a)
  unfolding reachable mentioned
  reachable_distinct a =
      distinct_filter (λ y. is_there (first_walk g a y)) (mentioned g a) (distinct_inserts (a ∷ []) (edge_names g g.count) (tt, tt))

  -- Followed names.

  pub followed_all : (a b : ℕ) → (Reaches g a b → ⊥) → followed_names g a b ≡ reachable g a
  unfolding followed_names
  followed_all a b h = rw ((chain_none g a b).1 h) refl

  followed_self : (a : ℕ) → followed_names g a a ≡ []
  unfolding followed_names
  followed_self a = rw (chain_self g a) refl

  -- the names on a walk, the last apart
  names_last : (a b : ℕ) (es : List ℕ) → IsWalk g a es b → (ns : List ℕ) × (names_on g a es ≡ ns ++ b ∷ [])
  names_last a b [] w = ([], ap (λ x. x ∷ []) w)
  names_last a b (e ∷ es) w =
      let r = names_last (g.to e) b es w.2 in
      (a ∷ r.0, ap (a ∷◌) r.1)

  last_named : (a p e : ℕ) (es : List ℕ) → IsWalk g a es p → last_but_one (names_on g a (es ++ e ∷ [])) ≡ some p
  last_named a p e es w =
      let r = names_last a p es w in
      ap (λ ns. last_but_one (a ∷ ns)) (map-append g.to es (e ∷ []))
      ∙ ap (λ ns. last_but_one (ns ++ g.to e ∷ [])) r.1
      ∙ ap last_but_one (append_snoc r.0 p (g.to e ∷ []))
      ∙ last_but_one_of r.0 p (g.to e)

  followed_chain : {a b p : ℕ} → LastButOne g a b p → followed_names g a b ≡ names_up_to g a (some p)
  unfolding followed_names chain_of
  followed_chain {a} {b} {p} l =
      rw (first_walk_is g a b (l.edges ++ l.last ∷ []) l.first)
      (ap (names_up_to g a) (last_named a p l.last l.edges (last_walk g l).walk))

  -- the names whose first walk is up to that of the last name but one are followed
  pub followed_up_to : {a b p x : ℕ} {es fs : List ℕ} → LastButOne g a b p → IsFirstWalk g a x es → IsFirstWalk g a p fs → AtMost es fs → IsFollowed g a b x
  followed_up_to {a} {b} {p} {x} {es} {fs} l v w (inl q) =
      last_but_one_lem (subst (LastButOne g a b) (walk_end g a p x fs w.walk (subst (λ ds. IsWalk g a ds x) q v.walk)) l)
  followed_up_to {es = es} {fs = fs} l v w (inr q) = sooner l (record { walk = es; later = fs; is = v; other = w; before = q })

  listed_followed : (a b x : ℕ) → Memᴰ x (followed_names g a b) → IsFollowed g a b x
  listed_followed a b x m = go (chained g a b)
    where
      go : Chained g a b → IsFollowed g a b x
      go (no_chain h) = without_chain h ((reachable_iff a x).0 (subst (Memᴰ x) (followed_all a b h) m))
      go (one_name e) = absurd (Memᴰ.not-nil (subst (Memᴰ x) (ap (followed_names g a) (sym e) ∙ followed_self a) m))
      go (more {p} l) =
          let f = filter_mem (λ y. walk_up_to (first_walk g a y) (first_walk g a p)) (reachable g a) x (subst (Memᴰ x) (followed_chain l) m) in
          let w = both (first_walk g a x) (first_walk g a p) f.1 in
          followed_up_to l (first_walk_some g a x w.0 w.2) (first_walk_some g a p w.1 w.3) w.4

  up_to_listed : {a b p x : ℕ} {es fs : List ℕ} → LastButOne g a b p → IsFirstWalk g a x es → IsFirstWalk g a p fs → AtMost es fs → Memᴰ x (followed_names g a b)
  up_to_listed {a} {b} {p} {x} {es} {fs} l v w q =
      rw (followed_chain l)
      (mem_filter (λ y. walk_up_to (first_walk g a y) (first_walk g a p)) (reachable g a) x
      (walk_reachable a x es (first_walk_is g a x es v))
      (rw (first_walk_is g a x es v, first_walk_is g a p fs w) (true_up_to es fs q)))

  followed_listed : (a b x : ℕ) → IsFollowed g a b x → Memᴰ x (followed_names g a b)
  followed_listed a b x (without_chain h p) = rw (followed_all a b h) ((reachable_iff a x).1 p)
  followed_listed a b x (last_but_one_lem l) = up_to_listed l (last_walk g l) (last_walk g l) (inl refl)
  followed_listed a b x (sooner l s) = up_to_listed l s.is s.other (inr s.before)

  pub followed_iff : (a b x : ℕ) → Memᴰ x (followed_names g a b) ↔ IsFollowed g a b x
  followed_iff a b x = (listed_followed a b x, followed_listed a b x)

  pub followed_distinct : (a b : ℕ) → Distinct (followed_names g a b)
  unfolding followed_names
  followed_distinct a b = go (chain_of g a b)
    where
      at : (o : Option ℕ) → Distinct (names_up_to g a o)
      at none = tt
      at (some p) = distinct_filter (λ y. walk_up_to (first_walk g a y) (first_walk g a p)) (reachable g a) (reachable_distinct a)

      go : (o : Option (List ℕ)) → Distinct (names_for g a o)
      go none = reachable_distinct a
      go (some names) = at (last_but_one names)

  -- Sizes.

  -- the start, and the ends of the first k edges
  ends : ℕ → ℕ → List ℕ
  ends a zero = a ∷ []
  ends a (suc k) = g.to k ∷ ends a k

  ends_length : (a k : ℕ) → length (ends a k) ≡ suc k
  unfolding ends
  ends_length a zero = refl
  ends_length a (suc k) = ap suc (ends_length a k)

  start_end : (a k : ℕ) → Memᴰ a (ends a k)
  unfolding ends
  start_end a zero = Memᴰ.head refl
  start_end a (suc k) = Memᴰ.tail (start_end a k)

  edge_end : (a k e : ℕ) → e < k → Memᴰ (g.to e) (ends a k)
  unfolding ends
  edge_end a zero e l = absurd (omega arith)
  edge_end a (suc k) e l = ⊎_elim (λ (p : e ≡ k). Memᴰ.head (ap g.to p)) (λ (p : e < k). Memᴰ.tail (edge_end a k e p)) (below_suc l)

  pub reachable_at_most : (a : ℕ) → length (reachable g a) ≤ suc g.count
  reachable_at_most a =
      subst (λ n. length (reachable g a) ≤ n) (ends_length a g.count)
      (within_size (reachable g a) (ends a g.count) (reachable_distinct a)
      (λ x m. let r = reachable_walk a x m in
      walk_inside (ends a g.count) (edge_end a g.count) a x r.0 (start_end a g.count) (first_walk_some g a x r.0 r.1).walk))

  followed_reached : {a b x : ℕ} → IsFollowed g a b x → Reaches g a x
  followed_reached (without_chain h p) = p
  followed_reached {a} {b} {x} (last_but_one_lem l) = walk_reaches g a x l.edges (last_walk g l).walk
  followed_reached {a} {b} {x} (sooner l s) = walk_reaches g a x s.walk s.is.walk

  pub followed_at_most : (a b : ℕ) → followed_count g a b ≤ length (reachable g a)
  unfolding followed_count
  followed_at_most a b =
      within_size (followed_names g a b) (reachable g a) (followed_distinct a b) (λ x m. (reachable_iff a x).1 (followed_reached ((followed_iff a b x).0 m)))

  -- The start and the end.

  pub start_followed : (a b : ℕ) → (a ≡ b → ⊥) → IsFollowed g a b a
  start_followed a b ne = go (chained g a b)
    where
      go : Chained g a b → IsFollowed g a b a
      go (no_chain h) = without_chain h here
      go (one_name e) = absurd (ne e)
      go (more l) = followed_up_to l (record { walk = refl; first = λ fs w. nil_at_most fs }) (last_walk g l) (nil_at_most l.edges)

  pub end_not_followed : (a b : ℕ) → IsFollowed g a b b → ⊥
  end_not_followed a b (without_chain h p) = h p
  end_not_followed a b (last_but_one_lem l) = sooner_irrefl g (last_sooner g l)
  end_not_followed a b (sooner l s) = sooner_irrefl g (sooner_trans g s (last_sooner g l))

  pub none_followed : (a b : ℕ) → (followed_count g a b ≡ 0) ↔ (a ≡ b)
  unfolding followed_count
  none_followed a b = (
    λ z. by_cases (ℕ_discrete a b) (λ (e : a ≡ b). e) (λ (ne : ¬ (a ≡ b)). absurd (empty z ((followed_iff a b a).1 (start_followed a b ne)))),
    λ e. subst (λ c. length (followed_names g a c) ≡ 0) e (ap length (followed_self a)),
  )
    where
      empty : {x : ℕ} {xs : List ℕ} → length xs ≡ 0 → Memᴰ x xs → ⊥
      empty z (Memᴰ.head e) = omega arith
      empty z (Memᴰ.tail m) = omega arith
