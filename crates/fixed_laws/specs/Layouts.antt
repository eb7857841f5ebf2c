-- Laws of layouts that the document's words lead one to expect.
use Rattle.std.specs.Prelude.{ℕ, ◌+◌, ◌%◌, ◌^◌, ◌≤◌, ◌<◌, true, false, ◌↔◌, ◌⊎◌, ◌≡◌}
use mathlib.Core.List.{List, [], ◌∷◌, Memᴰ}
use Rattle.names.specs.Names.{Names, Exchange}
use Rattle.meaning.specs.Circle.{circles}
use Rattle.meaning.specs.Lookup.{list_of, find_type}
use Rattle.meaning.specs.Renumbering.{bundle_names, map_bundle}
use Rattle.meaning.specs.Tree.{Attributes, struct, union, Member, Members, more, Bundle}
use Rattle.fixed_meaning.specs.Extent.{Extent, sized, is_alignment}
use Rattle.fixed_meaning.specs.Fixed.{measure, measure_member, measured, extent_of, field_offsets, definition_extent, definition_offsets}
use Rattle.fixed_laws.specs.Rule.{Multiple}

-- from `from` on, each field starts where the one before has ended or behind it, at a multiple of its alignment unless packed, and the last
-- ends within the size
abbrev pub InOrder : ℕ → ℕ → Members → (ℕ → Extent) → List ℕ → ℕ → Type 0
InOrder packed from Members.none known [] size = from ≤ size
InOrder packed from Members.none known (o ∷ os) size = ⊥
InOrder packed from (more m ms) known [] size = ⊥
InOrder packed from (more m ms) known (o ∷ os) size =
    (n : ℕ) × ((a : ℕ) × ((measure_member m known ≡ sized n a) × ((from ≤ o) × (((packed ≡ 1) ⊎ Multiple a o) × InOrder packed (o + n) ms known os size))))

-- a part has a size that is at most n
abbrev pub FitsIn : Member → (ℕ → Extent) → ℕ → Type 0
FitsIn m known n = (k : ℕ) × ((a : ℕ) × ((measure_member m known ≡ sized k a) × (k ≤ n)))

pub record Layouts : Type 0 where
  -- the fields of a struct do not overlap, stand in order, at multiples of their alignments, and end within its size
  pub in_order : (a : Attributes) (ms : Members) (known : ℕ → Extent) (n al : ℕ) → measure (struct a ms) known ≡ sized n al → InOrder a.packed 0 ms known (field_offsets a.packed ms (sized 0 1) known) n
  -- the size of a struct and that of a union are multiples of their alignment, which is not 0
  pub struct_multiple : (a : Attributes) (ms : Members) (known : ℕ → Extent) (n al : ℕ) → measure (struct a ms) known ≡ sized n al → (0 < al) × (n % al ≡ 0)
  pub union_multiple : (a : Attributes) (ms : Members) (known : ℕ → Extent) (n al : ℕ) → measure (union a ms) known ≡ sized n al → (0 < al) × (n % al ≡ 0)
  -- the size of a union is at least that of each member
  pub union_holds : (a : Attributes) (ms : Members) (known : ℕ → Extent) (n al : ℕ) → measure (union a ms) known ≡ sized n al → (m : Member) → Memᴰ m (list_of ms) → FitsIn m known n
  -- a TypeRef is its first definition
  pub reference : (b : Bundle) → circles b ≡ false → (n : ℕ) → extent_of b n ≡ measured (find_type b n) (extent_of b)
  -- an exchange of names changes nothing
  pub exchanged : (f : Exchange) (b : Bundle) → Names (bundle_names b) → (i : ℕ)
      → (definition_extent (map_bundle f.to b) i ≡ definition_extent b i) × (definition_offsets (map_bundle f.to b) i ≡ definition_offsets b i)
  -- an aligned of 64 bits is allowed exactly where it is 0 or a power of two
  pub aligned : (n : ℕ) → n < 2 ^ 64 → (is_alignment n ≡ true) ↔ ((n ≡ 0) ⊎ ((k : ℕ) × (n ≡ 2 ^ k)))
