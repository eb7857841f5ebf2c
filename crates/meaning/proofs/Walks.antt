-- `walk_of g n a b` is the first walk of n edges in dictionary order, and none where there is none.
--     first_some, first_none                what `first_of` finds, and what it passes
--     walk_some, walk_none                  `walk_of` by what it answers
use Prim.Native.Nat.{ℕ, zero, suc, ◌<◌}
use mathlib.Core.Path.{◌≡◌, refl, sym, ap, ◌∙◌, subst}
use mathlib.Core.Logic.{◌⊎◌, inl, inr, ⊎_elim, by_cases}
use mathlib.Core.Bool.{Bool, true, false}
use mathlib.Core.List.{List, [], ◌∷◌}
use mathlib.Core.Option.{Option, none, some, map, or_else, none-ne-some, some-ne-none, some-injective, map-eq-none_iff, map-eq-some_iff}
use native.Mathlib.Omega.{arith}
use native.Mathlib.Nat.{suc_inj, eq-or-lt_of_le, le_of_suc-le-suc}
use native.Mathlib.Decide.{dec_lt}
use borrow.Author.Tests.{eqb-true, eq-eqb}
use lib.Dec.{eqb}
use lib.ListN.{length}
use Rattle.meaning.specs.Chain.{Graph, IsWalk, Earlier, only_if, first_of, walk_of}

-- j below k + 1 is k or below k
pub below_suc : {j k : ℕ} → j < suc k → (j ≡ k) ⊎ (j < k)
below_suc l = eq-or-lt_of_le (le_of_suc-le-suc l)

-- two numbers in one of three orders
pub order : (a b : ℕ) → (a < b) ⊎ ((a ≡ b) ⊎ (b < a))
order a b = by_cases (dec_lt a b) (λ (p : a < b). inl p) (λ (p : ¬ (a < b)). inr (by_cases (dec_lt b a) (λ (q : b < a). inr q) (λ (q : ¬ (b < a)). inl (omega arith))))

pub first_none : {A : Type 0} (f : ℕ → Option A) (k : ℕ) → first_of f k ≡ none → (j : ℕ) → j < k → f j ≡ none
unfolding first_of or_else
first_none f zero e j l = absurd (omega arith)
first_none {A} f (suc k) e j l = go (first_of f k) refl (first_none f k)
  where
    go : (o : Option A) → first_of f k ≡ o → (first_of f k ≡ none → (i : ℕ) → i < k → f i ≡ none) → f j ≡ none
    go none q ih = ⊎_elim (λ (s : j ≡ k). ap f s ∙ (rw q at e)) (λ (s : j < k). ih q j s) (below_suc l)
    go (some x) q ih = absurd (some-ne-none x (rw q at e))

pub first_some : {A : Type 0} (f : ℕ → Option A) (k : ℕ) (x : A) → first_of f k ≡ some x
    → (i : ℕ) × (i < k) × (f i ≡ some x) × ((j : ℕ) → j < i → f j ≡ none)
unfolding first_of or_else
first_some f zero x e = absurd (none-ne-some x e)
first_some {A} f (suc k) x e = go (first_of f k) refl (first_some f k)
  where
    go : (o : Option A) → first_of f k ≡ o
        → ((y : A) → first_of f k ≡ some y → (i : ℕ) × (i < k) × (f i ≡ some y) × ((j : ℕ) → j < i → f j ≡ none))
        → (i : ℕ) × (i < suc k) × (f i ≡ some x) × ((j : ℕ) → j < i → f j ≡ none)
    go none q ih = (k, omega arith, (rw q at e), first_none f k q)
    go (some y) q ih =
        let h = ih x (q ∙ (rw q at e)) in
        (h.0, omega arith, h.2, h.3)

module _ (g : Graph) where
  -- a walk of n + 1 edges from a to b that begins with the edge e
  abbrev step : ℕ → ℕ → ℕ → ℕ → Option (List ℕ)
  step n a b e = only_if (eqb (g.from e) a) (map (λ es. e ∷ es) (walk_of g n (g.to e) b))

  step_some : (n a b e : ℕ) (es : List ℕ) → step n a b e ≡ some es
      → (ds : List ℕ) × (g.from e ≡ a) × (walk_of g n (g.to e) b ≡ some ds) × (e ∷ ds ≡ es)
  unfolding only_if
  step_some n a b e es = go (eqb (g.from e) a) refl
    where
      go : (t : Bool) → eqb (g.from e) a ≡ t → only_if t (map (λ ds. e ∷ ds) (walk_of g n (g.to e) b)) ≡ some es
          → (ds : List ℕ) × (g.from e ≡ a) × (walk_of g n (g.to e) b ≡ some ds) × (e ∷ ds ≡ es)
      go true q h =
          let s = (map-eq-some_iff (λ (ds : List ℕ). e ∷ ds) (walk_of g n (g.to e) b)).0 h in
          (s.0, eqb-true _ _ q, s.1, s.2)
      go false q h = absurd (none-ne-some es h)

  step_none : (n a b e : ℕ) → g.from e ≡ a → step n a b e ≡ none → walk_of g n (g.to e) b ≡ none
  unfolding only_if
  step_none n a b e s h =
      (map-eq-none_iff (λ (ds : List ℕ). e ∷ ds) (walk_of g n (g.to e) b)).0 (rw (eq-eqb (g.from e) a s) at h)

  pub walk_none : (n a b : ℕ) → walk_of g n a b ≡ none → (fs : List ℕ) → IsWalk g a fs b → length fs ≡ n → ⊥
  unfolding walk_of only_if
  walk_none zero a b h [] w l = some-ne-none [] (rw (eq-eqb a b w) at h)
  walk_none zero a b h (f ∷ fs) w l = omega arith
  walk_none (suc n) a b h [] w l = omega arith
  walk_none (suc n) a b h (f ∷ fs) w l =
      walk_none n (g.to f) b (step_none n a b f w.1 (first_none (step n a b) g.count h f w.0)) fs w.2 (suc_inj l)

  -- what `walk_of` answers is a walk of n edges, and each other comes later in dictionary order
  pub record IsFirstOf (n a b : ℕ) (es : List ℕ) : Type 0 where
    pub walk : IsWalk g a es b
    pub size : length es ≡ n
    pub first : (fs : List ℕ) → IsWalk g a fs b → length fs ≡ n → (es ≡ fs) ⊎ Earlier es fs

  -- no edges
  walk_zero : (a b : ℕ) (es : List ℕ) → walk_of g zero a b ≡ some es → IsFirstOf zero a b es
  unfolding walk_of only_if
  walk_zero a b es = go (eqb a b) refl
    where
      nil : (fs : List ℕ) → length fs ≡ 0 → ([] ≡ fs) ⊎ Earlier [] fs
      nil [] l = inl refl
      nil (f ∷ fs) l = absurd (omega arith)

      go : (t : Bool) → eqb a b ≡ t → only_if t (some []) ≡ some es → IsFirstOf zero a b es
      go true q h =
          subst (λ (x : List ℕ). IsFirstOf zero a b x) (some-injective [] es h)
          (record { walk = eqb-true a b q; size = refl; first = λ fs w l. nil fs l })
      go false q h = absurd (none-ne-some es h)

  -- the edge e, and then the first walk of n edges from its end, where no edge before e goes on
  walk_suc : (n a b e : ℕ) (ds : List ℕ) → e < g.count → g.from e ≡ a → IsFirstOf n (g.to e) b ds
      → ((f : ℕ) → f < e → step n a b f ≡ none) → IsFirstOf (suc n) a b (e ∷ ds)
  walk_suc n a b e ds l s ih none_before =
      record { walk = (l, s, ih.walk); size = ap suc ih.size; first = later }
    where
      at : (f : ℕ) (fs : List ℕ) → IsWalk g a (f ∷ fs) b → length fs ≡ n → (f < e) ⊎ ((f ≡ e) ⊎ (e < f)) → (e ∷ ds ≡ f ∷ fs) ⊎ Earlier (e ∷ ds) (f ∷ fs)
      at f fs w m (inl p) = absurd (walk_none n (g.to f) b (step_none n a b f w.1 (none_before f p)) fs w.2 m)
      at f fs w m (inr (inl p)) =
          ⊎_elim (λ (q : ds ≡ fs). inl (cc)) (λ (q : Earlier ds fs). inr (inr (sym p, q)))
          (ih.first fs (subst (λ (x : ℕ). IsWalk g (g.to x) fs b) p w.2) m)
      at f fs w m (inr (inr p)) = inr (inl p)

      later : (fs : List ℕ) → IsWalk g a fs b → length fs ≡ suc n → (e ∷ ds ≡ fs) ⊎ Earlier (e ∷ ds) fs
      later [] w m = absurd (omega arith)
      later (f ∷ fs) w m = at f fs w (suc_inj m) (order f e)

  pub walk_some : (n a b : ℕ) (es : List ℕ) → walk_of g n a b ≡ some es → IsFirstOf n a b es
  unfolding walk_of
  walk_some zero a b es h = walk_zero a b es h
  walk_some (suc n) a b es h =
      let t = first_some (step n a b) g.count es h in
      let s = step_some n a b t.0 es t.2 in
      subst (λ (x : List ℕ). IsFirstOf (suc n) a b x) s.3
      (walk_suc n a b t.0 s.0 t.1 s.1 (walk_some n (g.to t.0) b s.0 s.2) t.3)
