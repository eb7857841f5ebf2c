-- The count of followed names as a relation, in the words of document 02's L3, and laws beside it. The relation cites none of the
-- definitions of Followed.antt. That the count is 0 from a name to itself is no case of it: there no name is followed, which is a law.
use Rattle.std.specs.Prelude.{ℕ, suc, ◌≤◌, ◌<◌, ◌↔◌, ◌⊎◌, ◌≡◌, length}
use mathlib.Core.List.{List, [], ◌∷◌, ◌++◌, Memᴰ}
use Rattle.names.specs.Names.{name_count, Names, Exchange}
use Rattle.meaning.specs.Tree.{Bundle}
use Rattle.meaning.specs.Chain.{Graph, Reaches, Before, IsFirstWalk}
use Rattle.meaning.specs.Violations.{graph}
use Rattle.meaning.specs.Renumbering.{bundle_names, map_bundle}
use Rattle.followed.specs.Followed.{reachable, followed_count}

-- the order of the names reachable from a: the chain of x has fewer edges than that of y, or as many and comes first by edge numbers
pub record Sooner (g : Graph) (a x y : ℕ) : Type 0 where
  pub walk : List ℕ
  pub later : List ℕ
  pub is : IsFirstWalk g a x walk
  pub other : IsFirstWalk g a y later
  pub before : Before walk later

-- p is the last name but one of the chain from a to b, which ends with an edge from p to b
pub record LastButOne (g : Graph) (a b p : ℕ) : Type 0 where
  pub edges : List ℕ
  pub last : ℕ
  pub first : IsFirstWalk g a b (edges ++ last ∷ [])
  pub from : g.from last ≡ p

-- the edges of x are followed by the search from a to b
pub data IsFollowed (g : Graph) (a b x : ℕ) : Type 0 where
  -- where there is no chain, those of all names reachable from a
  without_chain : (Reaches g a b → ⊥) → Reaches g a x → IsFollowed g a b x
  -- else those of the chain's last name but one, and of the names before it in the order
  last_but_one_lem : LastButOne g a b x → IsFollowed g a b x
  sooner : {p : ℕ} → LastButOne g a b p → Sooner g a x p → IsFollowed g a b x

-- no number stands twice in the list
abbrev pub Once : List ℕ → Type 0
Once [] = Unit {0}
Once (x ∷ xs) = (Memᴰ x xs → ⊥) × Once xs

-- there are k names with that property: a list of them has k places, and each stands there once
pub record Many (P : ℕ → Type 0) (k : ℕ) : Type 0 where
  pub names : List ℕ
  pub once : Once names
  pub all : (x : ℕ) → Memᴰ x names ↔ P x
  pub size : length names ≡ k

-- k is the count of the names whose edges the search from a to b follows
abbrev pub Count : Graph → ℕ → ℕ → ℕ → Type 0
Count g a b k = Many (IsFollowed g a b) k

pub record Counts : Type 0 where
  -- the meaning counts the followed names, and there is one count
  pub counts : (g : Graph) (a b : ℕ) → Count g a b (followed_count g a b)
  pub one_count : (g : Graph) (a b j k : ℕ) → Count g a b j → Count g a b k → j ≡ k
  -- the order is total on the reachable names, and strict
  pub total : (g : Graph) (a x y : ℕ) → Reaches g a x → Reaches g a y → (x ≡ y) ⊎ (Sooner g a x y ⊎ Sooner g a y x)
  pub strict : (g : Graph) (a x y z : ℕ) → Sooner g a x y → Sooner g a y z → Sooner g a x z × ((x ≡ z) → ⊥)
  -- the names that are reachable, each once
  pub reached : (g : Graph) (a : ℕ) → Many (Reaches g a) (length (reachable g a))
  -- at most all of them are followed, and these are at most one more than the edges
  pub at_most : (g : Graph) (a b : ℕ) → followed_count g a b ≤ length (reachable g a)
  pub few : (g : Graph) (a : ℕ) → length (reachable g a) ≤ suc g.count
  -- 0 exactly from a name to itself; the start is followed otherwise, and the end never
  pub self : (g : Graph) (a b : ℕ) → (followed_count g a b ≡ 0) ↔ (a ≡ b)
  pub start : (g : Graph) (a b : ℕ) → (a ≡ b → ⊥) → IsFollowed g a b a
  pub not_the_end : (g : Graph) (a b : ℕ) → IsFollowed g a b b → ⊥
  -- all reachable names where there is no chain
  pub all : (g : Graph) (a b : ℕ) → (Reaches g a b → ⊥) → followed_count g a b ≡ length (reachable g a)
  -- an exchange of names keeps the count
  pub exchange : (f : Exchange) (b : Bundle) → Names (bundle_names b) → (from to : ℕ) → from < name_count → to < name_count
      → followed_count (graph (map_bundle f.to b)) (f.to from) (f.to to) ≡ followed_count (graph b) from to
