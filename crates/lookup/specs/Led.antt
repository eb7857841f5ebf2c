-- The definitions to which records lead, one after another.
use Rattle.std.specs.Prelude.{ℕ, ◌<◌, ◌≤◌, List, [], ◌∷◌, ◌≡◌, Option, Some, None}
use Rattle.meaning.specs.Lookup.{count}
use Rattle.bundle.specs.Definitions.{bundle_of}
use Rattle.scan.specs.Parts.{Part}
use Rattle.scan.specs.Scan.{Run, Records, lead_to}

-- the records from `at` to `end` lead first to definition j, by one that ends at m, and then where those from m on lead
pub record LedFirst (s : List ℕ) (at end j m : ℕ) : Type 0 where
  pub below : j < count (bundle_of s)
  pub forward : at < m
  pub within : m ≤ end
  pub others : Records s m end
  pub leads : (ps : List Part) → Run s end at ps → lead_to s ps ≡ j ∷ lead_to s others.parts

-- the first definition to which they lead, with the end of that record, if they lead to one
abbrev pub NextLed : List ℕ → ℕ → ℕ → Option (ℕ × ℕ) → Type 0
NextLed s at end (Some l) = LedFirst s at end l.0 l.1
NextLed s at end None = (ps : List Part) → Run s end at ps → lead_to s ps ≡ []
