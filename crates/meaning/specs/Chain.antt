-- What the chain from one name to another over numbered edges is.
use Rattle.std.specs.Prelude.{ℕ, zero, suc, ◌<◌, ◌≡◌, ◌⊎◌, Bool, true, false, List, [], ◌∷◌, map, eqb, length}
use Rattle.std.proofs.Math.Option
use Rattle.std.proofs.Math.Option.{Option, none, some, or_else}

-- numbered edges: edge e, for e below count, leads from the name `from e` to the name `to e`
pub record Graph : Type 0 where
  pub count : ℕ
  pub from : ℕ → ℕ
  pub to : ℕ → ℕ

-- the edges es lead, each from where the one before it ended, from a to b
abbrev pub IsWalk : Graph → ℕ → List ℕ → ℕ → Type 0
IsWalk g a [] b = a ≡ b
IsWalk g a (e ∷ es) b = (e < g.count) × (g.from e ≡ a) × IsWalk g (g.to e) es b

-- along edges a reaches b
pub data Reaches (g : Graph) : ℕ → ℕ → Type 0 where
  here : {a : ℕ} → Reaches g a a
  along : {b : ℕ} (e : ℕ) → e < g.count → Reaches g (g.to e) b → Reaches g (g.from e) b

-- dictionary order of lists of edge numbers
abbrev pub Earlier : List ℕ → List ℕ → Type 0
Earlier [] [] = ⊥
Earlier [] (f ∷ fs) = Unit {0}
Earlier (e ∷ es) [] = ⊥
Earlier (e ∷ es) (f ∷ fs) = (e < f) ⊎ ((e ≡ f) × Earlier es fs)

-- fewer edges first, and of as many edges the first in dictionary order
pub data Before (es fs : List ℕ) : Type 0 where
  fewer : length es < length fs → Before es fs
  earlier : length es ≡ length fs → Earlier es fs → Before es fs

-- es is a walk from a to b, and every other walk from a to b comes after it
pub record IsFirstWalk (g : Graph) (a b : ℕ) (es : List ℕ) : Type 0 where
  pub walk : IsWalk g a es b
  pub first : (fs : List ℕ) → IsWalk g a fs b → (es ≡ fs) ⊎ Before es fs

-- o where the test holds, else none
unfoldable pub only_if : {A : Type 0} → Bool → Option A → Option A
only_if true o = o
only_if false o = none

-- the first of f 0, f 1, .., f (k - 1) that is not none
unfoldable pub first_of : {A : Type 0} → (ℕ → Option A) → ℕ → Option A
first_of f zero = none
first_of f (suc k) = or_else (first_of f k) (f k)

-- the first walk of n edges from a to b, in dictionary order: it begins with the first edge from which one goes on
unfoldable pub walk_of : Graph → ℕ → ℕ → ℕ → Option (List ℕ)
walk_of g zero a b = only_if (eqb a b) (some [])
walk_of g (suc n) a b =
    first_of (λ e. only_if (eqb (g.from e) a) (Option.map (λ es. e ∷ es) (walk_of g n (g.to e) b))) g.count

-- the first walk of fewest edges, which has no more edges than there are
unfoldable pub first_walk : Graph → ℕ → ℕ → Option (List ℕ)
first_walk g a b = first_of (λ n. walk_of g n a b) (suc g.count)

-- the names on a walk from a: a, and the end of each edge
abbrev pub names_on : Graph → ℕ → List ℕ → List ℕ
names_on g a es = a ∷ map g.to es

-- the chain from a to b: the names on the first walk
unfoldable pub chain_of : Graph → ℕ → ℕ → Option (List ℕ)
chain_of g a b = Option.map (names_on g a) (first_walk g a b)
