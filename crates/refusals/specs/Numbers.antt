-- What each refusal number says of the bytes (document 01, the table of refusals), in words of its own and not by the reader.
use Rattle.std.specs.Prelude.{ℕ, ◌+◌, ◌*◌, ◌≤◌, ◌<◌, List, ◌++◌, ◌↔◌, ◌⊎◌, ◌≡◌, length, get_or, take}
use Rattle.meaning.specs.Tree.{Bundle}
use Rattle.meaning.specs.Encoding.{Bytes, bundle_bytes}
use Rattle.meaning.specs.Within.{BundleOk}
use Rattle.meaning.specs.Circle.{Leads}
use Rattle.meaning.specs.Reader.{Read, ok, refused}
use Rattle.meaning.specs.ReadBundle.{read_bundle}
use Rattle.refusals.specs.Places.{Fault}

-- the bytes s are those of the tree b, which is within the limits
pub record IsBundle (s : List ℕ) (b : Bundle) : Type 0 where
  pub layout : bundle_bytes b ≡ s
  pub limits : BundleOk b

-- and no definition of it leads back to itself: the bytes are to be accepted
pub record Keeps (s : List ℕ) (b : Bundle) : Type 0 where
  pub bundle : IsBundle s b
  pub no_circle : (i : ℕ) → Leads b i i → ⊥

-- every number with which this was refused is one of P
abbrev pub Only : (ℕ → Type 0) → {A : Type 0} → Read A → Type 0
Only P (ok a n) = Unit {0}
Only P (refused k) = P k

-- the number of the first fault, and 8 where there is none
abbrev pub fault_of : Read Bundle → ℕ
fault_of (ok b n) = 8
fault_of (refused k) = k

-- the one number for bytes that are refused
abbrev pub number_of : List ℕ → ℕ
number_of s = fault_of (read_bundle s)

-- the number of the two bytes at a position
abbrev pub two : List ℕ → ℕ → ℕ
two s at = get_or s at 0 + 256 * get_or s (at + 1) 0

-- a whole header with a count over its limit
pub record Crowded (s : List ℕ) : Type 0 where
  pub small : length s ≤ 32768
  pub header : 7 ≤ length s
  pub kind : get_or s 0 0 ≡ 0x60
  pub over : (256 < two s 1) ⊎ (1024 < two s 3)

-- a bundle, and bytes behind it
pub record Trailing (s : List ℕ) : Type 0 where
  pub small : length s ≤ 32768
  pub end : ℕ
  pub more : end < length s
  pub tree : Bundle
  pub bundle : IsBundle (take end s) tree

-- a bundle in which some definition leads back to itself
pub record Circling (s : List ℕ) : Type 0 where
  pub tree : Bundle
  pub bundle : IsBundle s tree
  pub at : ℕ
  pub circle : Leads tree at at

-- k is the number for which the bytes are refused: 1 comes first, then the first fault front to back (Places.antt), then 8
pub data Number (s : List ℕ) : ℕ → Type 0 where
  overlong : 32768 < length s → Number s 1
  faulty : {k : ℕ} → length s ≤ 32768 → Fault s k → Number s k
  circling : Circling s → Number s 8

-- What the numbers say.
pub record Numbers : Type 0 where
  -- bytes that are not accepted have one number, that of what was read
  pub number : (s : List ℕ) → Bytes s → ((b : Bundle) → Keeps s b → ⊥) → Number s (number_of s)
  pub one : (s : List ℕ) → Bytes s → (k : ℕ) → Number s k → k ≡ number_of s
  -- and accepted bytes have none
  pub none : (s : List ℕ) (b : Bundle) → Keeps s b → (k : ℕ) → Number s k → ⊥
  -- every number is one of 1 to 8
  pub one_to_eight : (s : List ℕ) → (1 ≤ number_of s) × (number_of s ≤ 8)
  -- 1 exactly where there are too many bytes
  pub overlong : (s : List ℕ) → (number_of s ≡ 1) ↔ (32768 < length s)
  -- 2 for every bundle that is cut short
  pub short : (s : List ℕ) (b : Bundle) → IsBundle s b → (n : ℕ) → n < length s → number_of (take n s) ≡ 2
  -- the first fault counts: one of 3 to 7 stays, whatever bytes follow
  pub first_fault_lem : (s t : List ℕ) → Bytes s → Bytes (s ++ t) → length (s ++ t) ≤ 32768 → 3 ≤ number_of s → number_of s ≤ 7 → number_of (s ++ t) ≡ number_of s
  -- 5 exactly where a count of a whole header is over its limit
  pub crowded : (s : List ℕ) → Bytes s → (number_of s ≡ 5) ↔ Crowded s
  -- 7 exactly where bytes follow a bundle
  pub trailing : (s : List ℕ) → Bytes s → (number_of s ≡ 7) ↔ Trailing s
  -- 8, of bytes that are not accepted, exactly where a bundle circles
  pub circle : (s : List ℕ) → Bytes s → ((b : Bundle) → Keeps s b → ⊥) → (number_of s ≡ 8) ↔ Circling s
