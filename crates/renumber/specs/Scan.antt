-- The steps of a scan over records, which takes one part of a body after another.
use Rattle.std.specs.Prelude.{ℕ, ◌+◌, ◌/◌, ◌%◌, Bool, false, List, [], ◌∷◌, ◌≡◌, length, set}
use Rattle.table.specs.Table.{grown, Entered}
use Rattle.meaning.specs.Kinds.{parts, body}
use Rattle.meaning.specs.Reader.{little}
use Rattle.bundle.specs.Definitions.{buckets}
use Rattle.renumber.specs.declared.Parts.{Parts}

-- for each part that is left whether it is a name
abbrev pub due : Parts → List Bool
due p = parts p.0 p.1 p.2

-- a name comes first
abbrev pub name_first : List Bool → Bool
name_first [] = false
name_first (x ∷ p) = x

-- the parts behind the first; behind the last, the body of a record of kind k
abbrev pub behind : List Bool → ℕ → List Bool
behind [] k = body k
behind (x ∷ p) k = p

-- the name at `at` of the bytes s got its number by the table t with next names, which became u; out became out'; next' is the next number
pub record Put (s : List ℕ) (at : ℕ) (t : List ℕ) (next : ℕ) (out out' u : List ℕ) (next' : ℕ) : Type 0 where
  pub number : ℕ
  pub entered : Entered t 0 buckets next (little s at 2) number u
  pub long : length u ≡ length t
  pub written : out' ≡ set (set out at (number % 256)) (at + 1) (number / 256)
  pub count : next' ≡ grown next number
