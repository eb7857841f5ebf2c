-- What holds of a breadth-first search backwards from a number: how far each number is from it, and where its chain goes on. `far x` is
-- one more than the fewest edges from x, and 0 where x is not marked (yet).
use Rattle.std.specs.Prelude.{ℕ, ◌+◌, ◌≤◌, ◌<◌, ◌≡◌, ◌⊎◌, List, length}
use Rattle.meaning.specs.Chain.{Graph, IsWalk}

-- edge d to entry j comes, in the order of the search, before edge e to entry h
abbrev pub Passed : ℕ → ℕ → ℕ → ℕ → Type 0
Passed j d h e = (j < h) ⊎ ((j ≡ h) × (d < e))

-- some walk of k - 1 edges leads from x to b
abbrev pub Off : Graph → ℕ → ℕ → ℕ → Type 0
Off g b x k = (es : List ℕ) × IsWalk g x es b × (length es + 1 ≡ k)

-- a queue of n entries among m numbers, of a search to b that has followed each edge before edge e to entry h
pub record Seeking (g : Graph) (b m : ℕ) (far queue : ℕ → ℕ) (n h e : ℕ) : Type 0 where
  pub ends : (d : ℕ) → d < g.count → (g.from d < m) × (g.to d < m)
  pub target : (b < m) × (far b ≡ 1)
  pub walks : (x : ℕ) → x < m → 0 < far x → Off g b x (far x)
  pub inside : (i : ℕ) → i < n → queue i < m
  pub apart : (i j : ℕ) → i < j → j < n → queue i ≡ queue j → ⊥
  pub reached : (i : ℕ) → i < n → (0 < far (queue i)) × (far (queue i) ≤ i + 1)
  pub rising : (i j : ℕ) → i < j → j < n → far (queue i) ≤ far (queue j)
  pub near : h < n → (i : ℕ) → i < n → far (queue i) ≤ far (queue h) + 1
  pub entered : (x : ℕ) → x < m → 0 < far x → (i : ℕ) × (i < n) × (queue i ≡ x)
  pub covered : (j d : ℕ) → j < n → d < g.count → g.to d ≡ queue j → Passed j d h e
      → (0 < far (g.from d)) × (far (g.from d) ≤ far (queue j) + 1)
  pub head : h ≤ n

-- edge d leads from x to a number that is nearer
abbrev pub Nearer : Graph → (ℕ → ℕ) → ℕ → ℕ → Type 0
Nearer g far x d = (g.from d ≡ x) × (far x ≡ far (g.to d) + 1)

-- the first such edge from e on gives the hop of x
pub record HopOf (g : Graph) (far hop : ℕ → ℕ) (e x : ℕ) : Type 0 where
  pub edge : ℕ
  pub past : e ≤ edge
  pub inside : edge < g.count
  pub nearer : Nearer g far x edge
  pub to : hop x ≡ g.to edge
  pub first : (d : ℕ) → e ≤ d → d < edge → Nearer g far x d → ⊥

-- the hops by the edges from e on, of every number from which such an edge leads
abbrev pub Hops : Graph → ℕ → (ℕ → ℕ) → (ℕ → ℕ) → ℕ → Type 0
Hops g m far hop e = (x d : ℕ) → x < m → e ≤ d → d < g.count → Nearer g far x d → HopOf g far hop e x

-- y becomes entry n, so far off
pub record Pushed (far queue : ℕ → ℕ) (n y v : ℕ) (far' queue' : ℕ → ℕ) : Type 0 where
  pub here : far' y ≡ v
  pub others : (x : ℕ) → (x ≡ y → ⊥) → far' x ≡ far x
  pub last : queue' n ≡ y
  pub before : (i : ℕ) → i < n → queue' i ≡ queue i
