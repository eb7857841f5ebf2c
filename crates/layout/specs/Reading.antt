-- Where the bytes that are read stand.
use Rattle.std.specs.Prelude.{ℕ, ◌≡◌, ◌≤◌, Bool, true, false, List, length, Option, Some, None}
use Rattle.input.specs.Reading as input

-- the bytes that were read are within the places; none where reading failed
abbrev pub ReadInto : Option ℕ → List ℕ → Type 0
ReadInto (Some n) places = n ≤ length places
ReadInto None places = Unit {0}

-- they are those that the input had, all of them unless they fill the places
abbrev pub ReadAll : Option ℕ → List ℕ → Option (List ℕ) → Option (List ℕ) → Type 0
ReadAll (Some n) places before after = input.ReadAll n places before after
ReadAll None places before after = Unit {0}

-- what was read: the input's bytes where they are asked for, and else nothing
abbrev pub ReadFor : Bool → Option ℕ → List ℕ → Option (List ℕ) → Option (List ℕ) → Type 0
ReadFor true read places before after = ReadAll read places before after
ReadFor false read places before after = (read ≡ Some 0) × (after ≡ before)
