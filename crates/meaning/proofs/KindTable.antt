-- Looking a kind up in a table whose rows are in order: the form is that of the row that holds the kind, and `Unknown`
-- between two rows.
use Prim.Native.Nat.{ℕ, zero, suc, ◌≤◌, ◌<◌}
use native.Mathlib.Nat.{not-suc-le-zero, le_of_suc-le-suc}
use native.Mathlib.Omega.{arith}
use mathlib.Core.Logic.{◌⊎◌, inl, inr}
use mathlib.Core.Path.{◌≡◌, refl, ◌∙◌}
use mathlib.Core.Bool.{Bool, true, false, ◌&&◌}
use mathlib.Core.List.{List, [], ◌∷◌}
use lib.ListN.{get_or, length, drop}
use lib.Dec.{T, leb, ltb, leb→le}
use borrow.Author.Tests.{le-leb, lt-leb, ltb-true, ltb-false}
use Rattle.meaning.specs.Kinds.{Form}
use Rattle.meaning.specs.Kinds.{Unknown}
use Rattle.meaning.specs.Kinds.{Row, row, lookup}

abbrev pub low : Row → ℕ
low (row lo hi f) = lo

abbrev pub high : Row → ℕ
high (row lo hi f) = hi

abbrev pub form_at : Row → ℕ → Form
form_at (row lo hi f) = f

-- a row of no kind
abbrev pub empty : Row
empty = row 1 0 (λ k. Unknown)

-- the rows start at b or above, and each above the end of the one before
abbrev pub ordered : ℕ → List Row → Bool
ordered b [] = true
ordered b (row lo hi f ∷ rows) = leb b lo && (leb lo hi && ordered (suc hi) rows)

pub and_0 : (a b : Bool) → T (a && b) → T a
and_0 false b p = elim p [ ]
and_0 true b p = tt

pub and_1 : (a b : Bool) → T (a && b) → T b
and_1 false b p = elim p [ ]
and_1 true b p = p

and_false : (b : Bool) → (b && false) ≡ false
and_false true = refl
and_false false = refl

-- the three facts in `ordered` of a first row
module _ (b lo hi : ℕ) (rows : List Row) (o : T (leb b lo && (leb lo hi && ordered (suc hi) rows))) where
  starts : b ≤ lo
  starts = leb→le b lo (and_0 (leb b lo) _ o)

  rises : lo ≤ hi
  rises = leb→le lo hi (and_0 (leb lo hi) _ (and_1 (leb b lo) _ o))

  tail : T (ordered (suc hi) rows)
  tail = and_1 (leb lo hi) _ (and_1 (leb b lo) _ o)

-- each row starts at the start of the table or above, and ends at its own start or above
from : (rows : List Row) (b i : ℕ) → T (ordered b rows) → i < length rows → (b ≤ low (get_or rows i empty)) × (low (get_or rows i empty) ≤ high (get_or rows i empty))
from [] b i o h = absurd (not-suc-le-zero h)
from (row lo hi f ∷ rows) b zero o h = (starts b lo hi rows o, rises b lo hi rows o)
from (row lo hi f ∷ rows) b (suc i) o h =
    let r = from rows (suc hi) i (tail b lo hi rows o) (le_of_suc-le-suc h) in
    (omega (arith, starts b lo hi rows o, rises b lo hi rows o), r.1)

-- a kind above row i is looked up in the rows after it
pub past : (rows : List Row) (b i k : ℕ) → T (ordered b rows) → i < length rows → high (get_or rows i empty) < k → lookup rows k ≡ lookup (drop (suc i) rows) k
unfolding lookup
past [] b i k o h p = absurd (not-suc-le-zero h)
past (row lo hi f ∷ rows) b zero k o h p = simp (lt-leb k hi p, and_false (leb lo k))
past (row lo hi f ∷ rows) b (suc i) k o h p =
    let t : T (ordered (suc hi) rows) = tail b lo hi rows o in
    let l : i < length rows = le_of_suc-le-suc h in
    let q : hi < k = omega (arith, from rows (suc hi) i t l) in
    simp (lt-leb k hi q, and_false (leb lo k)) (past rows (suc hi) i k t l p)

-- a kind of row i
pub hit : (rows : List Row) (b i k : ℕ) → T (ordered b rows) → i < length rows → low (get_or rows i empty) ≤ k → k ≤ high (get_or rows i empty) → lookup rows k ≡ form_at (get_or rows i empty) k
unfolding lookup
hit [] b i k o h p q = absurd (not-suc-le-zero h)
hit (row lo hi f ∷ rows) b zero k o h p q = simp (le-leb lo k p, le-leb k hi q)
hit (row lo hi f ∷ rows) b (suc i) k o h p q =
    let t : T (ordered (suc hi) rows) = tail b lo hi rows o in
    let l : i < length rows = le_of_suc-le-suc h in
    let a : hi < k = omega (arith, from rows (suc hi) i t l) in
    simp (lt-leb k hi a, and_false (leb lo k)) (hit rows (suc hi) i k t l p q)

-- a kind below the first row
pub below : (rows : List Row) (b k : ℕ) → T (ordered b rows) → k < b → lookup rows k ≡ Unknown
unfolding lookup
below [] b k o p = refl
below (row lo hi f ∷ rows) b k o p =
    let q : k < lo = omega (arith, starts b lo hi rows o) in
    let u : k < suc hi = omega (arith, starts b lo hi rows o, rises b lo hi rows o) in
    simp (lt-leb lo k q) (below rows (suc hi) k (tail b lo hi rows o) u)

-- a kind above row i and below the start n of the rows after it
pub gap : (rows : List Row) (b i n k : ℕ) → T (ordered b rows) → i < length rows → T (ordered n (drop (suc i) rows)) → high (get_or rows i empty) < k → k < n → lookup rows k ≡ Unknown
gap rows b i n k o h on p q = past rows b i k o h p ∙ below (drop (suc i) rows) n k on q

-- at least m and not m
pub above : {m k : ℕ} → m ≤ k → (k ≡ m → ⊥) → suc m ≤ k
above h n = omega arith

-- below n, or at least n
pub side : (k n : ℕ) → (k < n) ⊎ (n ≤ k)
side k n = by (ltb k n) refl
  where
    by : (b : Bool) → ltb k n ≡ b → (k < n) ⊎ (n ≤ k)
    by true e = inl (ltb-true k n e)
    by false e = inr (ltb-false k n e)
