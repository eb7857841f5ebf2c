-- The names that a search follows, put through a map of names.
--     followed_map        over edges whose names are put through a map that keeps equal and different, they are the mapped names
--     count_map           and as many
--     count_exchange      an exchange of a bundle's names keeps the count
use Prim.Native.Nat.{ℕ, zero, suc, ◌≤◌, ◌<◌}
use mathlib.Core.Path.{◌≡◌, refl, sym, ap, ap₂, ◌∙◌}
use mathlib.Core.List.{List, [], ◌∷◌, ◌++◌, map, map-append}
use mathlib.Core.Option
use mathlib.Core.Option.{Option, none, some}
use native.Mathlib.Omega.{arith}
use lib.Dec.{eqb}
use lib.ListN.{length, length-map}
use Rattle.names.specs.Names.{inserts, name_count, Names, Exchange}
use Rattle.names.proofs.Exchanged.{name_of}
use Rattle.meaning.specs.Tree.{Bundle}
use Rattle.meaning.specs.Violations.{graph}
use Rattle.meaning.specs.Renumbering.{bundle_names, map_bundle}
use Rattle.meaning.proofs.Renaming.{bundle_same}
use Rattle.meaning.proofs.Injective.{eqb_map, graph_map}
use Rattle.meaning.proofs.Equivariance.{extend, extend_name, extend_injective}
use Rattle.meaning.specs.Chain.{Graph, first_walk, chain_of}
use Rattle.meaning.proofs.Chains.{Renamed, first_walk_map, chain_of_map}
use Rattle.followed.specs.Followed.{filter, edge_names, mentioned, is_there, reachable, walk_up_to, last_but_one, names_up_to, names_for, followed_names, followed_count}
use Rattle.followed.proofs.DistinctLists.{filter_map, inserts_map}

module _ (f : ℕ → ℕ) (keeps : (m n : ℕ) → eqb (f m) (f n) ≡ eqb m n) (g g' : Graph) (R : Renamed f g g') where
  edge_names_map : (k : ℕ) → k ≤ g.count → edge_names g' k ≡ map f (edge_names g k)
  edge_names_map zero l = refl
  edge_names_map (suc k) l =
      ap₂ ◌++◌ (edge_names_map k (omega arith)) (ap₂ (λ x y. x ∷ y ∷ []) (R.from k l) (R.to k l))
      ∙ sym (map-append f (edge_names g k) (g.from k ∷ g.to k ∷ []))

  mentioned_map : (a : ℕ) → mentioned g' (f a) ≡ map f (mentioned g a)
  unfolding mentioned
  mentioned_map a =
      ap (λ k. inserts (f a ∷ []) (edge_names g' k)) R.count
      ∙ ap (inserts (f a ∷ [])) (edge_names_map g.count (omega arith))
      ∙ inserts_map f keeps (a ∷ []) (edge_names g g.count)

  pub reachable_map : (a : ℕ) → reachable g' (f a) ≡ map f (reachable g a)
  unfolding reachable
  reachable_map a =
      ap (filter (λ x. is_there (first_walk g' (f a) x))) (mentioned_map a)
      ∙ filter_map f (λ x. is_there (first_walk g a x)) (λ x. is_there (first_walk g' (f a) x)) (λ x. ap is_there (first_walk_map f keeps g g' R a x)) (mentioned g a)

  last_but_one_map : (names : List ℕ) → last_but_one (map f names) ≡ Option.map f (last_but_one names)
  last_but_one_map [] = refl
  last_but_one_map (x ∷ []) = refl
  last_but_one_map (x ∷ y ∷ []) = refl
  last_but_one_map (x ∷ y ∷ z ∷ zs) = last_but_one_map (y ∷ z ∷ zs)

  names_up_to_map : (a : ℕ) (o : Option ℕ) → names_up_to g' (f a) (Option.map f o) ≡ map f (names_up_to g a o)
  names_up_to_map a none = refl
  names_up_to_map a (some p) =
      ap (filter (λ x. walk_up_to (first_walk g' (f a) x) (first_walk g' (f a) (f p)))) (reachable_map a)
      ∙ filter_map f (λ x. walk_up_to (first_walk g a x) (first_walk g a p)) (λ x. walk_up_to (first_walk g' (f a) x) (first_walk g' (f a) (f p)))
      (λ x. ap₂ walk_up_to (first_walk_map f keeps g g' R a x) (first_walk_map f keeps g g' R a p)) (reachable g a)

  names_for_map : (a : ℕ) (o : Option (List ℕ)) → names_for g' (f a) (Option.map (map f) o) ≡ map f (names_for g a o)
  names_for_map a none = reachable_map a
  names_for_map a (some names) = ap (names_up_to g' (f a)) (last_but_one_map names) ∙ names_up_to_map a (last_but_one names)

  pub followed_map : (a b : ℕ) → followed_names g' (f a) (f b) ≡ map f (followed_names g a b)
  unfolding followed_names
  followed_map a b = ap (names_for g' (f a)) (chain_of_map f keeps g g' R a b) ∙ names_for_map a (chain_of g a b)

  pub count_map : (a b : ℕ) → followed_count g' (f a) (f b) ≡ followed_count g a b
  unfolding followed_count
  count_map a b = ap length (followed_map a b) ∙ length-map (followed_names g a b) f

-- the same of a bundle, a start and an end, and an exchange
pub count_exchange : (f : Exchange) (b : Bundle) → Names (bundle_names b) → (a c : ℕ) → a < name_count → c < name_count
    → followed_count (graph (map_bundle f.to b)) (f.to a) (f.to c) ≡ followed_count (graph b) a c
count_exchange f b ok a c la lc =
    ap (λ b'. followed_count (graph b') (f.to a) (f.to c)) (bundle_same f.to (extend f) b (λ n m. sym (extend_name f n (name_of ok m))))
    ∙ ap₂ (followed_count (graph (map_bundle (extend f) b))) (sym (extend_name f a la)) (sym (extend_name f c lc))
    ∙ count_map (extend f) (eqb_map (extend f) (extend_injective f)) (graph b) (graph (map_bundle (extend f) b)) (graph_map (extend f) (extend_injective f) b) a c
