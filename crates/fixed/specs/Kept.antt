-- The extents of the definitions, as far as they are kept.
use Rattle.std.specs.Prelude.{ℕ, cond, List, ltb, get_or, Option, None, Result, Err}
use Rattle.std.specs.Option.{unwrap_or}
use Rattle.meaning.specs.Lookup.{count, definition_of}
use Rattle.bundle.specs.Definitions.{bundle_of}
use Rattle.fixed_meaning.specs.Extent as meaning
use Rattle.fixed_meaning.specs.Extent.{unsized}
use Rattle.extents.specs.declared.extent.Extent.{Extent}
use Rattle.extents.specs.declared.Unsized.{Unsized}
use Rattle.extents.specs.declared.Unsized.TheVariants.{Circle}
use Rattle.extents.specs.Meant.{extent_meant}

-- of each definition its extent, where that is known
abbrev pub Extents : Type 0
Extents = List (Option (Result Extent Unsized))

-- that of definition i; one that is not known yet stands as a circle, by which no definition's extent is refused
abbrev pub kept_at : Extents → ℕ → Result Extent Unsized
kept_at kept i = unwrap_or (get_or kept i None) (Err Circle)

-- the kept extent of the first definition of n
unfoldable pub known : List ℕ → Extents → ℕ → meaning.Extent
known s kept n = cond (ltb (definition_of (bundle_of s) n) (count (bundle_of s))) (extent_meant (kept_at kept (definition_of (bundle_of s) n))) (unsized 11)
