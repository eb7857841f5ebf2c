-- A chain between renamed names over renamed edges is the renamed chain.
use Prim.Native.Nat.{ℕ, zero, suc, ◌≤◌, ◌<◌}
use mathlib.Core.Path.{◌≡◌, refl, ap, ap₂, ◌∙◌}
use mathlib.Core.List.{List, [], ◌∷◌, map, map-id}
use mathlib.Core.Option
use mathlib.Core.Option.{Option, none, some, or_else, map-eq-some_iff}
use native.Mathlib.Omega.{arith}
use lib.Dec.{eqb}
use lib.ListN.{length, length-map}
use Rattle.meaning.specs.Chain.{Graph, IsWalk, only_if, first_of, walk_of, first_walk, names_on, chain_of}
use Rattle.meaning.proofs.ChainLaws.{first_walk_some}
use Rattle.meaning.proofs.Walks.{first_some, walk_some}

first_of_same : {A : Type 0} (f g : ℕ → Option A) (k : ℕ) → ((i : ℕ) → i < k → f i ≡ g i) → first_of f k ≡ first_of g k
unfolding first_of
first_of_same f g zero e = refl
first_of_same f g (suc k) e = ap₂ or_else (first_of_same f g k (λ i l. e i (omega arith))) (e k (omega arith))

-- g' is g with every name put through f
pub record Renamed (f : ℕ → ℕ) (g g' : Graph) : Type 0 where
  pub count : g'.count ≡ g.count
  pub from : (e : ℕ) → e < g.count → g'.from e ≡ f (g.from e)
  pub to : (e : ℕ) → e < g.count → g'.to e ≡ f (g.to e)

module _ (f : ℕ → ℕ) (keeps : (m n : ℕ) → eqb (f m) (f n) ≡ eqb m n) (g g' : Graph) (R : Renamed f g g') where
  walk_of_map : (n a c : ℕ) → walk_of g' n (f a) (f c) ≡ walk_of g n a c
  unfolding walk_of
  walk_of_map zero a c = ap (λ t. only_if t (some [])) (keeps a c)
  walk_of_map (suc n) a c = ap (first_of _) R.count ∙ first_of_same _ _ g.count (λ e l. step e l (λ a'. walk_of_map n a' c))
    where
      step : (e : ℕ) → e < g.count → ((a' : ℕ) → walk_of g' n (f a') (f c) ≡ walk_of g n a' c)
          → only_if (eqb (g'.from e) (f a)) (Option.map (λ es. e ∷ es) (walk_of g' n (g'.to e) (f c)))
          ≡ only_if (eqb (g.from e) a) (Option.map (λ es. e ∷ es) (walk_of g n (g.to e) c))
      step e l ih =
          ap₂ (λ t o. only_if t (Option.map (λ es. e ∷ es) o)) (ap (λ x. eqb x (f a)) (R.from e l) ∙ keeps (g.from e) a)
          (ap (λ x. walk_of g' n x (f c)) (R.to e l) ∙ ih (g.to e))

  pub first_walk_map : (a c : ℕ) → first_walk g' (f a) (f c) ≡ first_walk g a c
  unfolding first_walk
  first_walk_map a c = ap (λ k. first_of (λ n. walk_of g' n (f a) (f c)) (suc k)) R.count ∙ first_of_same _ _ (suc g.count) (λ n l. walk_of_map n a c)

  -- the names behind the edges of a walk
  ends_map : (a c : ℕ) (es : List ℕ) → IsWalk g a es c → map g'.to es ≡ map f (map g.to es)
  ends_map a c [] w = refl
  ends_map a c (e ∷ es) w = ap₂ ◌∷◌ (R.to e w.0) (ends_map (g.to e) c es w.2)

  pub chain_of_map : (a c : ℕ) → chain_of g' (f a) (f c) ≡ Option.map (map f) (chain_of g a c)
  unfolding chain_of
  chain_of_map a c = ap (Option.map (names_on g' (f a))) (first_walk_map a c) ∙ go (first_walk g a c) refl
    where
      go : (o : Option (List ℕ)) → first_walk g a c ≡ o → Option.map (names_on g' (f a)) o ≡ Option.map (map f) (Option.map (names_on g a) o)
      go none q = refl
      go (some es) q = ap {B = Option (List ℕ)} (λ ns. some (f a ∷ ns)) (ends_map a c es (first_walk_some g a c es q).walk)

-- graphs whose edges have the same ends have the same chains
pub chain_of_same : (g g' : Graph) → Renamed (λ n. n) g g' → (a c : ℕ) → chain_of g' a c ≡ chain_of g a c
chain_of_same g g' R a c = chain_of_map (λ n. n) (λ m n. refl) g g' R a c ∙ kept (chain_of g a c)
  where
    kept : (o : Option (List ℕ)) → Option.map (map (λ n. n)) o ≡ o
    kept none = refl
    kept (some ns) = ap {B = Option (List ℕ)} some (map-id ns)

-- a chain has at most one name more than there are edges
pub chain_length : (g : Graph) (a c : ℕ) (ns : List ℕ) → chain_of g a c ≡ some ns → length ns ≤ suc g.count
unfolding chain_of first_walk
chain_length g a c ns h =
    let s = (map-eq-some_iff (names_on g a) (first_walk g a c)).0 h in
    let t = first_some (λ n. walk_of g n a c) (suc g.count) s.0 s.1 in
    omega (arith, (walk_some g t.0 a c s.0 t.2).size, length-map s.0 g.to, ap length s.2)
