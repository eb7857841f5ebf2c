-- Writing at a place of a lent buffer, and the parts of a violation's record.
use Rattle.std.specs.Prelude.{ℕ, ◌+◌, List, [], ◌∷◌, ◌≡◌, length, get_or, map}
use Rattle.std.proofs.lemmas.List.Edits.{sets}
use Rattle.names.specs.Documents.{name, bytes}
use Rattle.violation.specs.declared.Path.{Path}

-- the bytes xs are written from place `at` on, as far as there are places, and r is the place behind them
pub record Puts (xs out : List ℕ) (at : ℕ) (out' : List ℕ) (r : ℕ) : Type 0 where
  pub written : out' ≡ sets out at xs
  pub behind : r ≡ at + length xs

-- no place is counted beyond this one
abbrev pub farthest : ℕ
farthest = 0x100000000

-- the most names that a chain has
abbrev pub longest : ℕ
longest = 1025

-- the path's count, and its names in two bytes each
abbrev pub path_bytes : Path → List ℕ
path_bytes p = p.count ∷ bytes (map name p.names)

-- the names of a path in four places, unused ones 0
abbrev pub padded : List ℕ → Path
padded names = record { count = length names; names = map (λ i. get_or names i 0) (0 ∷ 1 ∷ 2 ∷ 3 ∷ []) }
