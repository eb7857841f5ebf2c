-- What a search leaves in the slice that it is lent. Place 0 says whether it was begun. Then come three places for each number: how far
-- it is, an entry of the queue, and the number that its chain goes on to. Behind them stand how many entries there are and which is next,
-- and then the list for a chain.
use Rattle.std.specs.Prelude.{ℕ, zero, suc, ◌+◌, ◌*◌, ◌≤◌, ◌<◌, ◌≡◌, Bool, false, true, List, [], ◌∷◌, map, length, get_or, drop, set}
use Rattle.std.proofs.Math.Option.{some}
use Rattle.meaning.specs.Chain.{chain_of}
use Rattle.chain.specs.Index.{names_in, name_in, numbered, named}
use Rattle.search.specs.Seeking.{Seeking, Hops}

abbrev pub far_in : List ℕ → ℕ → ℕ
far_in work x = get_or work (3 * x + 1) 0

abbrev pub queue_in : List ℕ → ℕ → ℕ
queue_in work i = get_or work (3 * i + 2) 0

abbrev pub hop_in : List ℕ → ℕ → ℕ
hop_in work x = get_or work (3 * x + 3) 0

-- how many entries the queue has
abbrev pub entries_in : ℕ → List ℕ → ℕ
entries_in count work = get_or work (6 * count + 1) 0

-- the entry that is next
abbrev pub next_in : ℕ → List ℕ → ℕ
next_in count work = get_or work (6 * count + 2) 0

-- the list for a chain
abbrev pub list_in : ℕ → List ℕ → List ℕ
list_in count work = drop (6 * count + 3) work

-- the numbers from x on along k hops
unfoldable pub along : (ℕ → ℕ) → ℕ → ℕ → List ℕ
along hop zero x = x ∷ []
along hop (suc k) x = x ∷ along hop k (hop x)

-- a search backwards from the number b with n entries in the slice, which has followed each edge before edge e to entry h
pub record Exploring (count : ℕ) (edges : List ℕ) (b : ℕ) (work : List ℕ) (n h e : ℕ) : Type 0 where
  pub state : Seeking (numbered count edges) b (names_in edges) (far_in work) (queue_in work) n h e
  pub room : 7 * count + 7 ≤ length work

-- one that stands before the edges to the entry that is next
abbrev pub Paused : ℕ → List ℕ → ℕ → List ℕ → Type 0
Paused count edges b work = Exploring count edges b work (entries_in count work) (next_in count work) 0

-- a search to the name `to` was begun: no number has that name and none is marked, or b has it and the search is one from b
pub data Measured (count : ℕ) (edges : List ℕ) (to : ℕ) (work : List ℕ) : Type 0 where
  nowhere : ((x : ℕ) → x < names_in edges → name_in count edges x ≡ to → ⊥) → ((x : ℕ) → x < names_in edges → far_in work x ≡ 0)
      → entries_in count work ≤ next_in count work → Measured count edges to work
  at : (b : ℕ) → name_in count edges b ≡ to → Paused count edges b work → Measured count edges to work

-- the search is settled for the number x: it is marked, or no entry is left
pub data Settled (count : ℕ) (edges : List ℕ) (x : ℕ) (work : List ℕ) : Type 0 where
  marked : x < names_in edges → 0 < far_in work x → Settled count edges x work
  over : entries_in count work ≤ next_in count work → Settled count edges x work

-- the edges to the entry that was next were followed: up to one from the number x, or all
pub record AfterEntry (count : ℕ) (edges : List ℕ) (x : ℕ) (work work' : List ℕ) (early : Bool) : Type 0 where
  pub paused : (b : ℕ) → Paused count edges b work → Paused count edges b work'
  pub found : early ≡ true → Settled count edges x work'
  pub on : early ≡ false → next_in count work' ≡ next_in count work + 1

-- the chains to the name `to` over prepared edges can be read off
pub record Sought (count : ℕ) (edges : List ℕ) (to : ℕ) (work : List ℕ) : Type 0 where
  pub some : (x k : ℕ) → x < names_in edges → far_in work x ≡ suc k
      → chain_of (named count edges) (name_in count edges x) to ≡ some (map (name_in count edges) (along (hop_in work) k x))
  pub on : (x k : ℕ) → x < names_in edges → far_in work x ≡ suc (suc k) → (hop_in work x < names_in edges) × (far_in work (hop_in work x) ≡ suc k)

-- the slice has room for a search over count edges; where place 0 is not 0, a search to the name `to` was begun, and above 1 the hops are set
pub record Lent (count : ℕ) (edges : List ℕ) (to : ℕ) (work : List ℕ) : Type 0 where
  pub room : 7 * count + 7 ≤ length work
  pub sought : (get_or work 0 0 ≡ 0 → ⊥) → Measured count edges to work × (1 < get_or work 0 0 → Sought count edges to work)

-- the hops by the edges from e on, where the slice was `work`
pub record Hopped (count : ℕ) (edges work : List ℕ) (e : ℕ) (work' : List ℕ) : Type 0 where
  pub hops : Hops (numbered count edges) (names_in edges) (far_in work) (hop_in work') e
  pub same : (p : ℕ) → ((x : ℕ) → p ≡ 3 * x + 3 → ⊥) → get_or work' p 0 ≡ get_or work p 0
  pub size : length work' ≡ length work

-- x, which is so far off, becomes entry n where it is not marked, and there are r entries then
pub data Added (work : List ℕ) (n x far : ℕ) (work' : List ℕ) (r : ℕ) : Type 0 where
  known : 0 < far_in work x → work' ≡ work → r ≡ n → Added work n x far work' r
  new : far_in work x ≡ 0 → work' ≡ set (set work (3 * x + 1) far) (3 * n + 2) x → r ≡ n + 1 → Added work n x far work' r

-- all but the list is as it was
pub record Below (count : ℕ) (work work' : List ℕ) : Type 0 where
  pub same : (i : ℕ) → i < 6 * count + 3 → get_or work' i 0 ≡ get_or work i 0
  pub size : length work' ≡ length work

-- what is said of the list, if a chain is wanted in it; else of some list of as many places
pub record IfWanted (wanted : Bool) (list : List ℕ) (P : List ℕ → Type 0) : Type 0 where
  pub meant : List ℕ
  pub size : length meant ≡ length list
  pub same : wanted ≡ true → meant ≡ list
  pub holds : P meant
