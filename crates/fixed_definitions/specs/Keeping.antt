-- Definitions are measured one after another, each after those to which it leads, and their extents are kept.
use Rattle.std.specs.Prelude.{ℕ, ◌<◌, true, false, ◌⊎◌, ◌≡◌, length, get_or, None}
use Rattle.std.specs.Option.{is_some}
use mathlib.Core.List.{List, Memᴰ}
use Rattle.meaning.specs.Circle.{leads_to, settled, circles}
use Rattle.bundle.specs.Definitions.{bundle_of}
use Rattle.fixed_meaning.specs.Fixed.{definition_extent}
use Rattle.extents.specs.Meant.{extent_meant}
use Rattle.fixed.specs.Kept.{Extents, kept_at}

-- the extent of definition i is kept
pub record Known (s : List ℕ) (kept : Extents) (i : ℕ) : Type 0 where
  pub there : is_some (get_or kept i None) ≡ true
  pub is : extent_meant (kept_at kept i) ≡ definition_extent (bundle_of s) i

-- of each definition its extent, or None where it is not known yet; where it is, so are those of the definitions to which it leads
pub record KeptExtents (s : List ℕ) (kept : Extents) : Type 0 where
  pub size : length kept ≡ 256
  pub each : (i : ℕ) → i < 256 → (get_or kept i None ≡ None) ⊎ Known s kept i
  pub onward : (i j : ℕ) → i < 256 → Known s kept i → Memᴰ j (leads_to (bundle_of s) i) → Known s kept j

-- the definitions ds are measured next, each settled within `left` steps
pub record Ready (s : List ℕ) (left : ℕ) (ds : List ℕ) (kept : Extents) : Type 0 where
  pub ends : circles (bundle_of s) ≡ false
  pub within : (i : ℕ) → Memᴰ i ds → settled (bundle_of s) left i ≡ true
  pub keeps : KeptExtents s kept

-- the extents of the definitions ds are kept now, and those that were are still
pub record Kept (s ds : List ℕ) (before after : Extents) : Type 0 where
  pub keeps : KeptExtents s after
  pub now : (i : ℕ) → Memᴰ i ds → Known s after i
  pub still : (i : ℕ) → i < 256 → Known s before i → Known s after i
