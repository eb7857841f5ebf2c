-- The parts of a bundle that is noted.
use Rattle.std.specs.Prelude.{ℕ, List}
use Rattle.notes.specs.declared.Notes.{Notes}

-- its bytes
abbrev pub bytes_of : Notes → List ℕ
bytes_of n = n.opened.definitions.bytes.now

-- the places of its definitions, with what is noted behind them
abbrev pub places_of : Notes → List ℕ
places_of n = n.opened.definitions.places.now
