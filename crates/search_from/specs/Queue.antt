-- What holds of a breadth-first search from a number. Entry i of its queue is the number `name i`, and `path i` is the walk that led there,
-- which the code does not store. Of each number x that is marked, `long x` is the length of its chain and `before x` the number before it
-- on its chain; `long x` is 0 where x is not marked.
use Rattle.std.specs.Prelude.{ℕ, zero, suc, ◌+◌, ◌≤◌, ◌<◌, ◌≡◌, ◌⊎◌, List, [], ◌∷◌, ◌++◌, length}
use Rattle.std.proofs.Math.Option.{none, some}
use Rattle.meaning.specs.Chain.{Graph, IsWalk, Before, IsFirstWalk, chain_of}
use Rattle.followed.specs.Followed.{followed_count}

-- edge f from entry j comes, in the order of the search, before edge e from entry h
abbrev pub Passed : ℕ → ℕ → ℕ → ℕ → Type 0
Passed j f h e = (j < h) ⊎ ((j ≡ h) × (f < e))

-- one of the first n entries is b, with a walk that is es or comes before es
abbrev pub HasEntry : (ℕ → ℕ) → (ℕ → List ℕ) → ℕ → ℕ → List ℕ → Type 0
HasEntry name path n b es = (i : ℕ) × (i < n) × (name i ≡ b) × ((path i ≡ es) ⊎ Before (path i) es)

-- a queue of n entries of a search from `start` that has followed each edge before edge e from entry h
pub record Queue (g : Graph) (start : ℕ) (name : ℕ → ℕ) (path : ℕ → List ℕ) (n h e : ℕ) : Type 0 where
  pub root : (0 < n) × (path 0 ≡ [])
  pub walks : (i : ℕ) → i < n → IsWalk g start (path i) (name i)
  pub apart : (i j : ℕ) → i < j → j < n → name i ≡ name j → ⊥
  pub rising : (i j : ℕ) → i < j → j < n → Before (path i) (path j)
  pub below : h < n → (i : ℕ) → i < n → Before (path i) (path h ++ e ∷ [])
  pub covered : (j f : ℕ) → j < n → f < g.count → g.from f ≡ name j → Passed j f h e
      → HasEntry name path n (g.to f) (path j ++ f ∷ [])

-- entry i was marked along an edge from an entry before it
pub record Back (g : Graph) (name before : ℕ → ℕ) (path : ℕ → List ℕ) (i : ℕ) : Type 0 where
  pub entry : ℕ
  pub edge : ℕ
  pub lower : entry < i
  pub on : path i ≡ path entry ++ edge ∷ []
  pub to : g.to edge ≡ name i
  pub is : before (name i) ≡ name entry

-- such a search among m numbers
pub record Searching (g : Graph) (start m : ℕ) (long name before : ℕ → ℕ) (n h e : ℕ) : Type 0 where
  pub path : ℕ → List ℕ
  pub queue : Queue g start name path n h e
  pub ends : (d : ℕ) → d < g.count → (g.from d < m) × (g.to d < m)
  pub inside : (i : ℕ) → i < n → name i < m
  pub marked : (i : ℕ) → i < n → long (name i) ≡ length (path i) + 1
  pub short : (i : ℕ) → i < n → length (path i) ≤ i
  pub entered : (x : ℕ) → 0 < long x → (i : ℕ) × (i < n) × (name i ≡ x)
  pub back : (i : ℕ) → 0 < i → i < n → Back g name before path i

-- y becomes entry n: its chain has v names, and x stands before it there
pub record Marked (long name before : ℕ → ℕ) (n y x v : ℕ) (long' name' before' : ℕ → ℕ) : Type 0 where
  pub here : long' y ≡ v
  pub others : (z : ℕ) → (z ≡ y → ⊥) → long' z ≡ long z
  pub last : name' n ≡ y
  pub old : (i : ℕ) → i < n → name' i ≡ name i
  pub from : before' y ≡ x
  pub kept : (z : ℕ) → (z ≡ y → ⊥) → before' z ≡ before z

-- the numbers from k places before x up to x
unfoldable pub leading : (ℕ → ℕ) → ℕ → ℕ → List ℕ
leading before zero x = x ∷ []
leading before (suc k) x = leading before k (before x) ++ x ∷ []

-- all of them are below m
unfoldable pub LeadingBelow : (ℕ → ℕ) → ℕ → ℕ → ℕ → Type 0
LeadingBelow before m zero x = x < m
LeadingBelow before m (suc k) x = (x < m) × LeadingBelow before m k (before x)

-- the first walk to x is that to y, or comes before it
abbrev pub NotAfter : Graph → ℕ → ℕ → ℕ → Type 0
NotAfter g start x y = (es fs : List ℕ) → IsFirstWalk g start x es → IsFirstWalk g start y fs → (es ≡ fs) ⊎ Before es fs

-- What the marks say once the search from `start` to `to` is over, with the edges of k names followed. It has ended where `to` was marked:
-- nothing is marked that comes after it.
pub record Over (g : Graph) (start to m : ℕ) (long before : ℕ → ℕ) (k : ℕ) : Type 0 where
  pub followed : followed_count g start to ≡ k
  pub ended : 0 < long to → (x : ℕ) → 0 < long x → NotAfter g start x to
  pub none : long to ≡ 0 → chain_of g start to ≡ none
  pub some : (n : ℕ) → long to ≡ suc n → (chain_of g start to ≡ some (leading before n to)) × LeadingBelow before m n to

-- the edges of entry h are followed: the search goes on with n entries, `to` not among them, or it is over
pub data Onward (g : Graph) (start to m : ℕ) (long name before : ℕ → ℕ) (n h : ℕ) : Type 0 where
  on : long to ≡ 0 → Searching g start m long name before n (h + 1) 0 → Onward g start to m long name before n h
  over : 0 < long to → Over g start to m long before (h + 1) → Onward g start to m long name before n h
