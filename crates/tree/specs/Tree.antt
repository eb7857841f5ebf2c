-- A tree of distinct numbers in a slice, three places for each from a on, in the order of their entry: the number, and a link for each value
-- of a bit. The search for a number starts at the first, and goes on by its bits, the lowest first. A link is one more than the place to
-- which it leads, and 0 where there is none.
use Rattle.std.specs.Prelude.{ℕ, zero, suc, ◌+◌, ◌*◌, ◌/◌, ◌%◌, ◌≤◌, ◌<◌, cond, List, Option, Some, None, Result, Ok, Err, ◌⊎◌, ◌≡◌, eqb, length, get_or}
use Rattle.table.specs.Table.{PlaceIn, Within, grown}

-- number k
abbrev pub number_at : List ℕ → ℕ → ℕ → ℕ
number_at t a k = get_or t (a + 3 * k) 0

-- where the link of number k for the lowest of the bits b stands
abbrev pub link_at : ℕ → ℕ → ℕ → ℕ
link_at a k b = a + 3 * k + 1 + b % 2

-- on along a link
abbrev pub onward : (ℕ → ℕ) → ℕ → ℕ
onward go zero = 0
onward go (suc k) = go k

-- one more than the place of x, by a search of f steps at most from number k on, where b has the bits that are left; 0 where it ends
unfoldable pub seek : List ℕ → ℕ → ℕ → ℕ → ℕ → ℕ → ℕ
seek t a x zero k b = 0
seek t a x (suc f) k b = cond (eqb (number_at t a k) x) (suc k) (onward (λ j. seek t a x f j (b / 2)) (get_or t (link_at a k b) 0))

-- x without its d lowest bits
abbrev pub upper : ℕ → ℕ → ℕ
upper zero x = x
upper (suc d) x = upper d x / 2

-- x and y have the same d lowest bits
abbrev pub SameBits : ℕ → ℕ → ℕ → Type 0
SameBits zero x y = Unit {0}
SameBits (suc d) x y = SameBits d x y × (upper d x % 2 ≡ upper d y % 2)

-- the link of number k for the lowest bit of b leads to a later number, which is one deeper, has as many of the lowest bits of number k as that is
-- deep, and then this bit
pub record OneDeeper (t : List ℕ) (a n : ℕ) (depth : ℕ → ℕ) (k b : ℕ) : Type 0 where
  pub to : ℕ
  pub here : get_or t (link_at a k b) 0 ≡ suc to
  pub later : k < to
  pub below : to < n
  pub down : depth to ≡ suc (depth k)
  pub same : SameBits (depth k) (number_at t a k) (number_at t a to)
  pub bit : upper (depth k) (number_at t a to) % 2 ≡ b % 2

-- no number stands deeper than 16 links
abbrev pub Low : (ℕ → ℕ) → ℕ → Type 0
Low depth n = (k : ℕ) → k < n → depth k ≤ 16

-- n numbers, each of which is found; each link leads nowhere or one deeper; how deep each stands, 0 for other places
pub record Tree (t : List ℕ) (a n : ℕ) : Type 0 where
  pub within : a + 3 * n ≤ length t
  pub small : (k : ℕ) → k < n → number_at t a k < 65536
  pub depth : ℕ → ℕ
  pub root : depth 0 ≡ 0
  -- asks no more: the other fields alone make a tree (tree_of of proofs/Growing), and with this one in one way only
  pub beyond : (k : ℕ) → n ≤ k → depth k ≡ 0
  pub low : Low depth n
  pub links : (k b : ℕ) → k < n → (get_or t (link_at a k b) 0 ≡ 0) ⊎ OneDeeper t a n depth k b
  pub found : (k : ℕ) → k < n → seek t a (number_at t a k) n 0 (number_at t a k) ≡ suc k

-- the numbers and the links of n numbers are as in t, but for links that lead nowhere there
pub record Extends (t u : List ℕ) (a n : ℕ) : Type 0 where
  pub numbers : (k : ℕ) → k < n → number_at u a k ≡ number_at t a k
  pub links : (k b : ℕ) → k < n → (get_or t (link_at a k b) 0 ≡ 0 → ⊥) → get_or u (link_at a k b) 0 ≡ get_or t (link_at a k b) 0

-- x is none of the n numbers; the search for it ends at the link at p, and finds it once that leads to it as number n
pub record Unfound (t : List ℕ) (a n x p : ℕ) : Type 0 where
  pub owner : ℕ
  pub bits : ℕ
  pub below : owner < n
  pub here : p ≡ link_at a owner bits
  pub ends : get_or t p 0 ≡ 0
  pub none : (k : ℕ) → k < n → number_at t a k ≡ x → ⊥
  pub along : (tree : Tree t a n) → (upper (tree.depth owner) x ≡ bits) × SameBits (tree.depth owner) (number_at t a owner) x
  pub new : (u : List ℕ) → Extends t u a n → get_or u p 0 ≡ suc n → number_at u a n ≡ x → seek u a x (n + 1) 0 x ≡ suc n

-- where the search for x ends: at the number, at a link, or at none of both where there are no numbers
abbrev pub EndOf : List ℕ → ℕ → ℕ → ℕ → Result ℕ (Option ℕ) → Type 0
EndOf t a n x (Ok k) = (k < n) × (number_at t a k ≡ x)
EndOf t a n x (Err (Some p)) = Unfound t a n x p
EndOf t a n x (Err None) = n ≡ 0

-- the place of x among the n numbers, and None where it is none of them; a search for x ends within 17 steps
pub record PlaceOf (t : List ℕ) (a n x : ℕ) (o : Option ℕ) : Type 0 where
  pub few : 0 < n → (e : ℕ) → seek t a x (17 + e) 0 x ≡ seek t a x 17 0 x
  pub place : PlaceIn (number_at t a) n x o

-- x is number n of u, with links that lead nowhere, and all else is as in t
pub record Node (t : List ℕ) (a n x : ℕ) (u : List ℕ) : Type 0 where
  pub size : length u ≡ length t
  pub here : number_at u a n ≡ x
  pub links : (b : ℕ) → get_or u (link_at a n b) 0 ≡ 0
  pub before : (i : ℕ) → i < a + 3 * n → get_or u i 0 ≡ get_or t i 0
  pub behind : (i : ℕ) → a + 3 * n + 3 ≤ i → get_or u i 0 ≡ get_or t i 0

-- x has the place r, and is put there where it was none of the n numbers
pub record Entered (t : List ℕ) (a n x r : ℕ) (t' : List ℕ) : Type 0 where
  pub within : r ≤ n
  pub all : Tree t' a (grown n r)
  pub here : number_at t' a r ≡ x
  pub old : (k : ℕ) → k < n → number_at t' a k ≡ number_at t a k
  pub only : Within a (a + 3 * n + 3) t t'
