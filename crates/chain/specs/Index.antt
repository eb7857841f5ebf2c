-- What is made once of a bundle's edges, for every search: their names numbered from 0, and the edges that lead to each number linked.
use Rattle.std.specs.Prelude.{ℕ, ◌+◌, ◌*◌, ◌/◌, ◌%◌, ◌≤◌, ◌<◌, ◌≡◌, List, length, get_or}
use Rattle.meaning.specs.Chain.{Graph}
use Rattle.table.specs.Table.{Members, member}
use Rattle.chain.specs.Edges.{end_at}

-- how many names there are
abbrev pub names_in : List ℕ → ℕ
names_in edges = get_or edges 0 0

-- the name of the number x
abbrev pub name_in : ℕ → List ℕ → ℕ → ℕ
name_in count edges x = member edges (5 * count + 1) 256 x

-- end i of the edges, two to an edge, as a number
abbrev pub end_in : List ℕ → ℕ → ℕ
end_in edges i = get_or edges (3 * (i / 2) + i % 2 + 1) 0

-- the number that edge e leads from, the one that it leads to, and the next edge that leads to the same
abbrev pub from_in : List ℕ → ℕ → ℕ
from_in edges e = get_or edges (3 * e + 1) 0

abbrev pub to_in : List ℕ → ℕ → ℕ
to_in edges e = get_or edges (3 * e + 2) 0

abbrev pub link_in : List ℕ → ℕ → ℕ
link_in edges e = get_or edges (3 * e + 3) 0

-- the first edge that leads to the number x
abbrev pub first_in : ℕ → List ℕ → ℕ → ℕ
first_in count edges x = get_or edges (3 * count + 1 + x) 0

-- the edges between numbers
abbrev pub numbered : ℕ → List ℕ → Graph
numbered count edges = record { count = count; from = from_in edges; to = to_in edges }

-- the edges between their names
abbrev pub named : ℕ → List ℕ → Graph
named count edges = record { count = count; from = λ e. name_in count edges (from_in edges e); to = λ e. name_in count edges (to_in edges e) }

-- x is the number of a name among m
abbrev pub Named : ℕ → List ℕ → ℕ → ℕ → ℕ → Type 0
Named count edges m x name = (x < m) × (name_in count edges x ≡ name)

-- m names are numbered, and the first k ends of the edges have their numbers
pub record Numbering (bytes : List ℕ) (at turn k count : ℕ) (edges : List ℕ) (m : ℕ) : Type 0 where
  pub members : Members edges (5 * count + 1) 256 m
  pub few : m ≤ k
  pub ends : (i : ℕ) → i < k → Named count edges m (end_in edges i) (end_at bytes at turn i)
  pub size : 9 * count + 257 ≤ length edges

-- the ends of the edges and the table of names are the same
pub record Same (count : ℕ) (edges edges' : List ℕ) : Type 0 where
  pub froms : (e : ℕ) → e < count → from_in edges' e ≡ from_in edges e
  pub tos : (e : ℕ) → e < count → to_in edges' e ≡ to_in edges e
  pub table : (i : ℕ) → 5 * count < i → get_or edges' i 0 ≡ get_or edges i 0
  pub size : length edges' ≡ length edges

-- no edge leads to a number below k, as far as the slice says
abbrev pub Cleared : ℕ → ℕ → List ℕ → Type 0
Cleared count k edges = (x : ℕ) → x < k → first_in count edges x ≡ count

-- each edge leads to a number below 2 count, and there is room for all of them
pub record Tied (count : ℕ) (edges : List ℕ) : Type 0 where
  pub few : count ≤ 1024
  pub room : 5 * count < length edges
  pub below : (e : ℕ) → e < count → to_in edges e < 2 * count

-- f is the first edge at or after e that leads to x, or the count where there is none
pub record NextTo (g : Graph) (x e f : ℕ) : Type 0 where
  pub past : e ≤ f
  pub small : f ≤ g.count
  pub here : f < g.count → g.to f ≡ x
  pub none : (d : ℕ) → e ≤ d → d < f → d < g.count → g.to d ≡ x → ⊥

-- the edges from e on are linked: to each number below m the first, and after each edge the next that leads to the same
pub record Linked (g : Graph) (m e : ℕ) (first next : ℕ → ℕ) : Type 0 where
  pub firsts : (x : ℕ) → x < m → NextTo g x e (first x)
  pub nexts : (d : ℕ) → e ≤ d → d < g.count → NextTo g (g.to d) (d + 1) (next d)

-- the edges from e on are linked, and all else is as it was
pub record Linking (count : ℕ) (edges : List ℕ) (e : ℕ) (edges' : List ℕ) : Type 0 where
  pub linked : Linked (numbered count edges) (2 * count) e (first_in count edges') (link_in edges')
  pub same : Same count edges edges'

-- the names of count edges are numbered, and the edges between numbers linked
pub record Indexed (count : ℕ) (edges : List ℕ) : Type 0 where
  pub few : count ≤ 1024
  pub size : 9 * count + 257 ≤ length edges
  pub small : names_in edges ≤ 2 * count
  pub members : Members edges (5 * count + 1) 256 (names_in edges)
  pub froms : (e : ℕ) → e < count → from_in edges e < names_in edges
  pub tos : (e : ℕ) → e < count → to_in edges e < names_in edges
  pub linked : Linked (numbered count edges) (names_in edges) 0 (first_in count edges) (link_in edges)

-- the count edges of g are prepared for searches
pub record Prepared (g : Graph) (count : ℕ) (edges : List ℕ) : Type 0 where
  pub index : Indexed count edges
  pub counted : g.count ≡ count
  pub froms : (e : ℕ) → e < count → (named count edges).from e ≡ g.from e
  pub tos : (e : ℕ) → e < count → (named count edges).to e ≡ g.to e
