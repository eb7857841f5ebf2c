-- What a call for a definition's size, alignment and offsets answers, and what its steps find.
use Rattle.std.specs.Prelude.{ℕ, ◌<◌, ◌≡◌, Option, Some, None, Result, Ok, Err}
use mathlib.Core.List.{List, [], ◌∷◌, Memᴰ}
use Rattle.meaning.specs.Calls as calls
use Rattle.meaning.specs.Calls.{Outcome, result, Call}
use Rattle.meaning.specs.Circle.{type_names, resolve}
use Rattle.meaning.specs.ReadType.{read_ty, read_members}
use Rattle.bundle.specs.View.{Reads}
use Rattle.bundle.specs.Definitions.{type_at, members_at, bundle_of}
use Rattle.fixed_meaning.specs.Extent.{Extent, sized, with_field}
use Rattle.fixed_meaning.specs.Fixed.{measure, measure_all, extent_of, field_offsets, offsets_of, definition_extent, definition_offsets, given, sizing, placing}
use Rattle.extents.specs.Meant.{mark}
use Rattle.fixed_definitions.specs.Keeping.{Known, KeptExtents}
use Rattle.meaning.specs.Tree.{Members}
use Rattle.fixed.specs.Kept as keep
use Rattle.fixed.specs.Walk.{members_of}
use Rattle.offsets.specs.declared.Placement.{Placement}
use Rattle.offsets.specs.declared.FieldList.{FieldList}
use Rattle.refusal.specs.declared.Refusal.{Refusal}
use Rattle.refusal.specs.Numbers.{number}

-- the answer as that of a call: the length of the list, or the number of a refusal
unfoldable pub answer_meant : Result Placement Refusal → calls.Answer
answer_meant (Ok p) = calls.accepted p.offsets
answer_meant (Err r) = calls.refused_with (number r)

-- where there is one, size and alignment are what is due
abbrev pub Extents : Outcome → Result Placement Refusal → Type 0
Extents o (Ok p) = o ≡ result (p.size ∷ p.alignment ∷ [])
Extents o (Err r) = Unit {0}

-- the answer to a call for definition i with the bytes s: size, alignment and list length, or a refusal; and every place of the list
pub record FixedCall (i : ℕ) (s before after : List ℕ) (r : Result Placement Refusal) : Type 0 where
  pub call : Call (placing i s) before after (answer_meant r)
  pub extents : Extents (sizing i s) r

-- fields that are all there have an end
abbrev pub HasEnd : Extent → Type 0
HasEnd e = (end : ℕ) × ((a : ℕ) × (e ≡ sized end a))

-- the type at p is where the TypeRefs of definition i lead; where the extent of i is kept, so are those that the type needs
pub record Resolved (s : List ℕ) (i p : ℕ) : Type 0 where
  pub reads : Reads (read_ty 24 s p)
  pub offsets : definition_offsets (bundle_of s) i ≡ offsets_of (type_at 24 s p) (extent_of (bundle_of s)) (λ n. [])
  pub extent : definition_extent (bundle_of s) i ≡ measure (type_at 24 s p) (extent_of (bundle_of s))
  pub kept : (kept : keep.Extents) → KeptExtents s kept → Known s kept i → (j : ℕ) → Memᴰ j (resolve (bundle_of s) (type_names (type_at 24 s p))) → Known s kept j

-- the type at p is a struct, with n fields from m on
pub record FieldsFrom (s : List ℕ) (p packed n m : ℕ) : Type 0 where
  pub reads : Reads (read_members (read_ty 23) 0x50 n s m)
  pub few : n < 65536
  pub offsets : (known : ℕ → Extent) → offsets_of (type_at 24 s p) known (λ n. []) ≡ field_offsets packed (members_at 23 0x50 n s m) (sized 0 1) known
  pub end : (known : ℕ → Extent) (size a : ℕ) → measure (type_at 24 s p) known ≡ sized size a → HasEnd (measure_all (with_field packed) (members_at 23 0x50 n s m) (sized 0 1) known)

-- the fields of a list, how they are joined by the kept extents, and their offsets
abbrev pub fields_in : List ℕ → FieldList → Members
fields_in s f = members_at 23 0x50 f.count s f.at

abbrev pub joined : List ℕ → keep.Extents → FieldList → Extent
joined s kept f = members_of s kept 0x50 (mark f.packing) (fields_in s f) (sized 0 1)

abbrev pub kept_offsets : List ℕ → keep.Extents → FieldList → List ℕ
kept_offsets s kept f = field_offsets (mark f.packing) (fields_in s f) (sized 0 1) (keep.known s kept)

-- the fields of the type at p, where it is a struct
abbrev pub FieldsAre : List ℕ → ℕ → Option FieldList → Type 0
FieldsAre s p (Some f) = FieldsFrom s p (mark f.packing) f.count f.at
FieldsAre s p None = (known : ℕ → Extent) → offsets_of (type_at 24 s p) known (λ n. []) ≡ []

-- the answer for definition i of a bundle that was opened, and every place of the list
pub record Answered (s : List ℕ) (i : ℕ) (before after : List ℕ) (r : Result Placement Refusal) : Type 0 where
  pub call : Call (given (definition_extent (bundle_of s) i) (λ size a. definition_offsets (bundle_of s) i)) before after (answer_meant r)
  pub extents : Extents (given (definition_extent (bundle_of s) i) (λ size a. size ∷ a ∷ [])) r

-- the same, where its size and alignment are known
pub record Placing (s : List ℕ) (i size alignment : ℕ) (before after : List ℕ) (r : Result Placement Refusal) : Type 0 where
  pub call : Call (result (definition_offsets (bundle_of s) i)) before after (answer_meant r)
  pub extents : Extents (result (size ∷ alignment ∷ [])) r
