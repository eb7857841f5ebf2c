-- What a search between numbers says of their names.
--     count_of, chain_none_of, chain_some_of      its count and its chain
--     count_lone, none_lone                       a name that no edge has
use Prim.Native.Nat.{ℕ, zero, suc, ◌+◌, ◌*◌, ◌<◌}
use mathlib.Core.Path.{◌≡◌, sym, ap, ap₂, ◌∙◌, subst}
use mathlib.Core.Logic.{by_cases}
use mathlib.Core.List.{List, [], ◌∷◌, ◌++◌, map, map-append}
use mathlib.Core.Option
use mathlib.Core.Option.{Option, none, some}
use native.Mathlib.Omega.{arith}
use native.Mathlib.Decide.{dec_lt}
use lib.ListN.{length, length-map, get_or}
use Rattle.meaning.specs.Chain.{Graph, IsWalk, Reaches, here, chain_of}
use Rattle.meaning.proofs.ChainLaws.{reaches_walk, chain_none, none_from, none_to}
use Rattle.meaning.proofs.Chains.{chain_of_map}
use Rattle.followed.specs.Followed.{reachable, followed_count}
use Rattle.followed.specs.Laws.{IsFollowed, without_chain, last_but_one_lem, sooner}
use Rattle.followed.proofs.Counting.{counted}
use Rattle.followed.proofs.FirstWalks.{last_walk}
use Rattle.followed.proofs.FollowedLaws.{followed_all}
use Rattle.followed.proofs.FollowedExchanges.{reachable_map, count_map}
use Rattle.std.specs.Prelude.{None}
use Rattle.table.specs.Table.{PlaceOf, member, Only}
use Rattle.table.proofs.Buckets.{PlaceOr}
use Rattle.chain.specs.Edges.{turned}
use Rattle.chain.specs.Index.{names_in, name_in, from_in, to_in, named, Indexed}
use Rattle.chain.proofs.Named.{f, keeps, name_of, renamed_turned}
use Rattle.search_from.specs.Queue.{leading, LeadingBelow}
use Rattle.search_from.specs.Work.{unturned}

module _ {count : ℕ} {edges : List ℕ} (s : Indexed count edges) (small : (i : ℕ) → get_or edges i 0 < 65536) where
  abbrev names : Graph
  names = turned 1 (named count edges)

  -- the numbers that lead to x, named
  leading_named : (before : ℕ → ℕ) (k x : ℕ) → LeadingBelow before (names_in edges) k x → map (f s small) (leading before k x) ≡ map (name_in count edges) (leading before k x)
  unfolding leading LeadingBelow
  leading_named before zero x l = ap (λ (y : ℕ). y ∷ []) (name_of s small x l)
  leading_named before (suc k) x l =
      map-append (f s small) (leading before k (before x)) (x ∷ [])
      ∙ ap₂ (λ (ys : List ℕ) (y : ℕ). ys ++ y ∷ []) (leading_named before k (before x) l.1) (name_of s small x l.0)
      ∙ sym (map-append (name_in count edges) (leading before k (before x)) (x ∷ []))

  -- no edge has a name without a number
  no_from : {a : ℕ} → PlaceOf edges (5 * count + 1) 256 (names_in edges) a None → (e : ℕ) → e < count → names.from e ≡ a → ⊥
  no_from out e k q = out (to_in edges e) (s.tos e k) q

  module _ {a b x y : ℕ} (p : Only (member edges (5 * count + 1) 256) (names_in edges) a x) (q : PlaceOr (member edges (5 * count + 1) 256) (names_in edges) b y) (ne : a ≡ b → ⊥) where
    start : f s small x ≡ a
    start = name_of s small x p.within ∙ p.here

    end : y < names_in edges → f s small y ≡ b
    end k = name_of s small y k ∙ q.here k

    -- no edge leads to a number that has no name
    walk_inside : (z w : ℕ) (es : List ℕ) → z < names_in edges → IsWalk (unturned count edges) z es w → w < names_in edges
    walk_inside z w [] k v = subst (λ (t : ℕ). t < names_in edges) v k
    walk_inside z w (e ∷ es) k v = walk_inside (from_in edges e) w es (s.froms e v.0) v.2

    unreached : (y < names_in edges → ⊥) → Reaches (unturned count edges) x y → ⊥
    unreached no_name r = let w = reaches_walk (unturned count edges) r in no_name (walk_inside x y w.0 p.within w.1)

    no_chain : (y < names_in edges → ⊥) → chain_of names a b ≡ none
    no_chain no_name = none_to names a b (λ e k r. no_name (omega (arith, q.only (from_in edges e) (s.froms e k) r, s.froms e k))) ne

    chain_of_lem : y < names_in edges → chain_of names a b ≡ Option.map (map (f s small)) (chain_of (unturned count edges) x y)
    chain_of_lem k = ap₂ (chain_of names) (sym start) (sym (end k)) ∙ chain_of_map (f s small) (keeps s small) (unturned count edges) names (renamed_turned s small) x y

    pub count_of : followed_count names a b ≡ followed_count (unturned count edges) x y
    unfolding followed_count
    count_of =
        by_cases (dec_lt y (names_in edges))
        (λ (k : y < names_in edges).
        ap₂ (followed_count names) (sym start) (sym (end k)) ∙ count_map (f s small) (keeps s small) (unturned count edges) names (renamed_turned s small) x y)
        (λ (k : ¬ (y < names_in edges)).
        ap length
        (followed_all names a b ((chain_none names a b).0 (no_chain k))
        ∙ ap (reachable names) (sym start)
        ∙ reachable_map (f s small) (keeps s small) (unturned count edges) names (renamed_turned s small) x)
        ∙ length-map (reachable (unturned count edges) x) (f s small)
        ∙ ap length (sym (followed_all (unturned count edges) x y (unreached k))))

    pub chain_none_of : chain_of (unturned count edges) x y ≡ none → chain_of names a b ≡ none
    chain_none_of e =
        by_cases (dec_lt y (names_in edges)) (λ (k : y < names_in edges). chain_of_lem k ∙ ap (Option.map (map (f s small))) e) (λ (k : ¬ (y < names_in edges)). no_chain k)

    pub chain_some_of : (before : ℕ → ℕ) (n : ℕ) → y < names_in edges → LeadingBelow before (names_in edges) n y → chain_of (unturned count edges) x y ≡ some (leading before n y)
        → chain_of names a b ≡ some (map (name_in count edges) (leading before n y))
    chain_some_of before n k leads e =
        chain_of_lem k ∙ ap (Option.map (map (f s small))) e ∙ ap {B = Option (List ℕ)} some (leading_named before n y leads)

  -- a name that no edge has
  module _ {a : ℕ} (p : PlaceOf edges (5 * count + 1) 256 (names_in edges) a None) (b : ℕ) (ne : a ≡ b → ⊥) where
    pub none_lone : chain_of names a b ≡ none
    none_lone = none_from names a b (no_from p) ne

    stays : (x : ℕ) (es : List ℕ) → IsWalk names a es x → a ≡ x
    stays x [] w = w
    stays x (e ∷ es) w = absurd (no_from p e w.0 w.1)

    pub count_lone : followed_count names a b ≡ 1
    count_lone =
        counted names a b (λ i. a) 1 (λ i j k h e. omega arith) (λ x w. (0, omega arith, there x w))
        (λ i k. without_chain ((chain_none names a b).0 none_lone) here)
      where
        there : (x : ℕ) → IsFollowed names a b x → a ≡ x
        there x (without_chain absent w) = let v = reaches_walk names w in stays x v.0 v.1
        there x (last_but_one_lem o) = stays x o.edges (last_walk names o).walk
        there x (sooner o w) = stays x w.walk w.is.walk
