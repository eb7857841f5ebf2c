-- How many names a search follows, by its queue.
--     followed_found      where it ends at an edge from entry h: the entries up to h
--     followed_none       where no edge is left: all entries
use Prim.Native.Nat.{ℕ, ◌+◌, ◌≤◌, ◌<◌}
use mathlib.Core.Path.{◌≡◌, refl, sym, ap, ap₂, ◌∙◌, subst}
use mathlib.Core.Logic.{inr, by_cases}
use mathlib.Core.List.{List, [], ◌∷◌, ◌++◌}
use native.Mathlib.Omega.{arith}
use native.Mathlib.Decide.{ℕ_discrete}
use lib.ListN.{length, length-append}
use Rattle.meaning.specs.Chain.{Graph, Before, IsFirstWalk}
use Rattle.meaning.proofs.ChainLaws.{reaches_walk, walk_reaches}
use Rattle.followed.specs.Followed.{followed_count}
use Rattle.followed.specs.Laws.{LastButOne, IsFollowed, without_chain, last_but_one_lem, sooner}
use Rattle.followed.proofs.FirstWalks.{first_one}
use Rattle.followed.proofs.Counting.{counted}
use Rattle.search_from.specs.Queue.{Queue}
use Rattle.search_from.proofs.Breadth.{entry_first, entry_of, first_found, all_found, none_found}

-- lists that are equal with one element more at the end, and that element
snoc_same : (us vs : List ℕ) (a b : ℕ) → us ++ a ∷ [] ≡ vs ++ b ∷ [] → (us ≡ vs) × (a ≡ b)
snoc_same [] [] a b e = (refl, cc)
snoc_same [] (v ∷ vs) a b e = absurd (omega (arith, ap length e, length-append vs (b ∷ [])))
snoc_same (u ∷ us) [] a b e = absurd (omega (arith, ap length e, length-append us (a ∷ [])))
snoc_same (u ∷ us) (v ∷ vs) a b e =
    let rest : us ++ a ∷ [] ≡ vs ++ b ∷ [] = cc in
    let same = snoc_same us vs a b rest in
    let first : u ≡ v = cc in
    (ap₂ ◌∷◌ first same.0, same.1)

module _ (g : Graph) (start : ℕ) (name : ℕ → ℕ) (path : ℕ → List ℕ) (n h e : ℕ) (q : Queue g start name path n h e) where
  module _ (l : h < n) (m : e < g.count) (from : g.from e ≡ name h) (absent : (i : ℕ) → i < n → name i ≡ g.to e → ⊥) where
    -- the search ends at an edge from entry h
    pub followed_found : followed_count g start (g.to e) ≡ h + 1
    followed_found = counted g start (g.to e) name (h + 1) (λ i j a b. q.apart i j a (omega arith)) there back
      where
        found : IsFirstWalk g start (g.to e) (path h ++ e ∷ [])
        found = first_found g start name path n h e q l m from absent

        last : LastButOne g start (g.to e) (name h)
        last = record { edges = path h; last = e; first = found; from = from }

        first : (i : ℕ) → i < n → IsFirstWalk g start (name i) (path i)
        first i a = entry_first g start name path n h e q i a

        -- the last name but one of the chain is that of entry h
        here : (x : ℕ) → LastButOne g start (g.to e) x → name h ≡ x
        here x o = sym from ∙ ap g.from (sym (snoc_same o.edges (path h) o.last e (first_one g o.first found)).1) ∙ o.from

        there : (x : ℕ) → IsFollowed g start (g.to e) x → (i : ℕ) × (i < h + 1) × (name i ≡ x)
        there x (without_chain no_chain p) = absurd (no_chain (walk_reaches g start (g.to e) (path h ++ e ∷ []) found.walk))
        there x (last_but_one_lem o) = (h, omega arith, here x o)
        there x (sooner {p = p} o s) =
            let walk : IsFirstWalk g start (name h) s.later = subst (λ (y : ℕ). IsFirstWalk g start y s.later) (sym (here p o)) s.other in
            let before : Before s.walk (path h) = subst (λ (es : List ℕ). Before s.walk es) (first_one g walk (first h l)) s.before in
            let r = entry_of g start name path n h e q l x s.walk s.is.walk (inr before) in
            (r.0, omega (arith, r.1), r.2)

        back : (i : ℕ) → i < h + 1 → IsFollowed g start (g.to e) (name i)
        back i a =
            by_cases (ℕ_discrete i h) (λ (p : i ≡ h). subst (λ (j : ℕ). IsFollowed g start (g.to e) (name j)) (sym p) (last_but_one_lem last))
            (λ (p : ¬ (i ≡ h)).
            sooner last
            (record { walk = path i; later = path h; is = first i (omega arith); other = first h l; before = q.rising i h (omega arith) l }))

  -- no edge is left
  pub followed_none : n ≤ h → (b : ℕ) → ((i : ℕ) → i < n → name i ≡ b → ⊥) → followed_count g start b ≡ n
  followed_none l b absent =
      counted g start b name n q.apart reached
      (λ i a. without_chain (λ p. let w = reaches_walk g p in none_found g start name path n h e q l b absent w.0 w.1)
      (walk_reaches g start (name i) (path i) (q.walks i a)))
    where
      reached : (x : ℕ) → IsFollowed g start b x → (i : ℕ) × (i < n) × (name i ≡ x)
      reached x (without_chain no_chain p) = let w = reaches_walk g p in all_found g start name path n h e q l x w.0 w.1
      reached x (last_but_one_lem o) = absurd (none_found g start name path n h e q l b absent (o.edges ++ o.last ∷ []) o.first.walk)
      reached x (sooner o s) = all_found g start name path n h e q l x s.walk s.is.walk
