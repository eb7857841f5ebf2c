-- What the checks of a bundle share.
use Rattle.std.specs.Prelude.{ℕ, List, ◌≡◌}
use Rattle.cycles.specs.declared.shared.Checks.{Checks}

-- the bytes of the bundle
abbrev pub bytes_of : Checks → List ℕ
bytes_of c = c.opened.definitions.bytes.now

-- the places of its definitions
abbrev pub places_of : Checks → List ℕ
places_of c = c.opened.definitions.places.now

-- the bundle, its prepared edges and the definitions of the answers stay as they are
pub record Unchanged (before after : Checks) : Type 0 where
  pub opened : after.opened ≡ before.opened
  pub edges : after.edges ≡ before.edges
  pub definitions : after.answers.definitions ≡ before.answers.definitions
