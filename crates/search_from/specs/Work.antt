-- A search from a number in its slice, which has a place for each number and one more.
use Rattle.std.specs.Prelude.{ℕ, ◌+◌, ◌*◌, ◌≤◌, ◌<◌, ◌≡◌, List, length, get_or}
use Rattle.meaning.specs.Chain.{Graph}
use Rattle.chain.specs.Edges.{turned}
use Rattle.chain.specs.Index.{names_in, numbered}
use Rattle.search_from.specs.Queue.{Searching, Marked, Onward, Over}
use Rattle.search_from.specs.declared.Place.{Place}

-- what a place says of a number before the search
abbrev pub nothing : Place
nothing = record { names = 0; before = 0; entry = 0 }

-- the length of the chain of the number x, entry i of the queue, and the number before x on its chain
abbrev pub long_in : List Place → ℕ → ℕ
long_in work x = (get_or work x nothing).names

abbrev pub entry_in : List Place → ℕ → ℕ
entry_in work i = (get_or work i nothing).entry

abbrev pub before_in : List Place → ℕ → ℕ
before_in work x = (get_or work x nothing).before

-- the edges between numbers, which are prepared turned round
abbrev pub unturned : ℕ → List ℕ → Graph
unturned count edges = turned 1 (numbered count edges)

-- a search from the number a with n entries in the slice, which has followed each edge before edge e from entry h
pub record Exploring (count : ℕ) (edges : List ℕ) (a : ℕ) (work : List Place) (n h e : ℕ) : Type 0 where
  pub state : Searching (unturned count edges) a (names_in edges) (long_in work) (entry_in work) (before_in work) n h e
  pub room : 2 * count + 1 ≤ length work

-- the edges of entry h are followed
pub record AfterEntry (count : ℕ) (edges : List ℕ) (a to : ℕ) (work : List Place) (n h : ℕ) : Type 0 where
  pub after : Onward (unturned count edges) a to (names_in edges) (long_in work) (entry_in work) (before_in work) n h
  pub room : 2 * count + 1 ≤ length work

-- the search from a to b is over, with the edges of k names followed
pub record Explored (count : ℕ) (edges : List ℕ) (a b : ℕ) (work : List Place) (k : ℕ) : Type 0 where
  pub over : Over (unturned count edges) a b (names_in edges) (long_in work) (before_in work) k

-- y, with a chain of v names on which x stands before it, becomes entry n where it is not marked, and there are r entries then
pub data Added (work : List Place) (n y x v : ℕ) (work' : List Place) (r : ℕ) : Type 0 where
  known : 0 < long_in work y → work' ≡ work → r ≡ n → Added work n y x v work' r
  new : long_in work y ≡ 0 → Marked (long_in work) (entry_in work) (before_in work) n y x v (long_in work') (entry_in work') (before_in work')
      → length work' ≡ length work → r ≡ n + 1 → Added work n y x v work' r
