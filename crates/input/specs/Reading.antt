-- What was read.
use Rattle.std.specs.Prelude.{ℕ, ◌<◌, List, length, take, Option}
use Rattle.std.specs.Io.KnownBytes.{Consumes, IsAtEnd}

-- the first n places are bytes that the input had, all of them unless they fill the places
abbrev pub ReadAll : ℕ → List ℕ → Option (List ℕ) → Option (List ℕ) → Type 0
ReadAll n places before after = Consumes before after (take n places) × (n < length places → IsAtEnd after)
