-- Distinct numbers in a table of buckets, and the place of each by order of entry.
use Rattle.std.specs.Prelude.{ℕ, ◌+◌, ◌-◌, ◌*◌, ◌%◌, ◌≤◌, ◌<◌, ◌≡◌, cond, List, Option, MatchOption, eqb, length, get_or, set}

-- member k of a table from a on with b buckets
abbrev pub member : List ℕ → ℕ → ℕ → ℕ → ℕ
member t a b k = get_or t (a + b + 2 * k) 0

-- its link
abbrev pub link : List ℕ → ℕ → ℕ → ℕ → ℕ
link t a b k = get_or t (a + b + 2 * k + 1) 0

-- v is one more than the last place below n whose member is of bucket h, and 0 where there is none
pub record Last (t : List ℕ) (a b n h v : ℕ) : Type 0 where
  pub within : v ≤ n
  pub here : 0 < v → member t a b (v - 1) % b ≡ h
  pub none : (k : ℕ) → v ≤ k → k < n → member t a b k % b ≡ h → ⊥

-- n members, each once, and those of each bucket linked from its head, the last first
pub record Members (t : List ℕ) (a b n : ℕ) : Type 0 where
  pub buckets : 0 < b
  pub within : a + b + 2 * n ≤ length t
  pub apart : (i j : ℕ) → i < j → j < n → member t a b i ≡ member t a b j → ⊥
  pub heads : (h : ℕ) → h < b → Last t a b n h (get_or t (a + h) 0)
  pub links : (k : ℕ) → k < n → Last t a b k (member t a b k % b) (link t a b k)

-- x put behind n members: itself, its link, and the head of its bucket
abbrev pub put : List ℕ → ℕ → ℕ → ℕ → ℕ → List ℕ
put t a b n x = set (set (set t (a + b + 2 * n) x) (a + b + 2 * n + 1) (get_or t (a + x % b) 0)) (a + x % b) (n + 1)

-- t' is t but for the places from a to e
pub record Within (a e : ℕ) (t t' : List ℕ) : Type 0 where
  pub size : length t' ≡ length t
  pub before : (i : ℕ) → i < a → get_or t' i 0 ≡ get_or t i 0
  pub behind : (i : ℕ) → e ≤ i → get_or t' i 0 ≡ get_or t i 0

-- r is the one place below n where f gives x
pub record Only (f : ℕ → ℕ) (n x r : ℕ) : Type 0 where
  pub within : r < n
  pub here : f r ≡ x
  pub only : (i : ℕ) → i < n → f i ≡ x → i ≡ r

-- the one place below n where f gives x, and None where it gives x at none
abbrev pub PlaceIn : (ℕ → ℕ) → ℕ → ℕ → Option ℕ → Type 0
PlaceIn f n x o = MatchOption o ((i : ℕ) → i < n → f i ≡ x → ⊥) (Only f n x)

-- the place of x among the first n members, and None where x is none of them
abbrev pub PlaceOf : List ℕ → ℕ → ℕ → ℕ → ℕ → Option ℕ → Type 0
PlaceOf t a b n x o = PlaceIn (member t a b) n x o

-- how many members there are once one of n, or one more, has the place r
abbrev pub grown : ℕ → ℕ → ℕ
grown n r = cond (eqb r n) (n + 1) n

-- x has the place r, and is put there where it was no member
pub record Entered (t : List ℕ) (a b n x r : ℕ) (t' : List ℕ) : Type 0 where
  pub within : r ≤ n
  pub all : Members t' a b (grown n r)
  pub here : member t' a b r ≡ x
  pub old : (i : ℕ) → i < n → member t' a b i ≡ member t a b i
  pub only : Within a (a + b + 2 * n + 2) t t'
