-- What has to be there before references are listed: room for the lists.
use Rattle.std.specs.Prelude.{ℕ, ◌+◌, ◌*◌, ◌≤◌, ◌<◌, List, length}

-- there is room for k entries from `used` on, and a place has the number of each place up to their end
pub record RoomFor (places : List ℕ) (used k : ℕ) : Type 0 where
  pub there : used + 3 * k ≤ length places
  pub small : used + 3 * k < 65536
