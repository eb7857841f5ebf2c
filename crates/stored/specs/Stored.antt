-- What it means that an answer is the stored one.
use Rattle.std.specs.Prelude.{ℕ, ◌-◌, ◌≤◌, Bool, true, false, List, [], ◌∷◌, ◌++◌, ◌≡◌, ℤ, pos, negsuc, length, take, Result, Ok, Err}
use Rattle.names.specs.Documents.{bytes}
use Rattle.meaning.specs.Encoding.{number_items}
use Rattle.meaning.specs.Lists.{flat_map}

-- r is the answer to the question whether P holds
abbrev pub Whether : Bool → Type 0 → Type 0
Whether true P = P
Whether false P = P → ⊥

-- the first m bytes are xs
pub record Due (due : List ℕ) (m : ℕ) (xs : List ℕ) : Type 0 where
  pub size : m ≡ length xs
  pub bytes : take m due ≡ xs

-- a number in w bytes, low byte first
unfoldable pub number_bytes : ℕ → ℕ → List ℕ
number_bytes w n = bytes (number_items w n)

-- numbers, each in w bytes
unfoldable pub numbers_bytes : ℕ → List ℕ → List ℕ
numbers_bytes w ns = flat_map (number_bytes w) ns

-- size and alignment in eight bytes each, and offsets in four
unfoldable pub layout_bytes : ℕ → ℕ → List ℕ → List ℕ
layout_bytes size alignment offsets = number_bytes 8 size ++ number_bytes 8 alignment ++ numbers_bytes 4 offsets

-- the count of followed names in eight bytes, and the names of a chain in two each
unfoldable pub chain_bytes : ℕ → List ℕ → List ℕ
chain_bytes followed names = number_bytes 8 followed ++ numbers_bytes 2 names

-- the number of 64 bits that stands for z: z, or 2^64 more where z is negative (`negsuc n` is -1 - n)
unfoldable pub bits_of : ℤ → ℕ
bits_of (pos n) = n
bits_of (negsuc n) = 18446744073709551615 - n

-- 7E and the number
abbrev pub refusal_bytes : ℕ → List ℕ
refusal_bytes k = 0x7E ∷ k ∷ []

-- the bytes are the answer's: the result in the first places of `out`, or 7E and the refusal
unfoldable pub IsDue : Result ℕ ℕ → List ℕ → List ℕ → Type 0
IsDue (Ok n) out due = (n ≤ length out) × (due ≡ take n out)
IsDue (Err k) out due = due ≡ refusal_bytes k

-- what is due in the first m bytes is due in the part of so many, where they are there
pub record Cut : Type 0 where
  pub to : (due : List ℕ) (m : ℕ) (xs : List ℕ) → Due due m xs → (m ≤ length due) × (take m due ≡ xs)
  pub from : (due : List ℕ) (m : ℕ) (xs : List ℕ) → m ≤ length due → take m due ≡ xs → Due due m xs
