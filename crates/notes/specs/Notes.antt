-- What is noted of a bundle behind the places of its definitions: the fields of its structs, and the references of its definitions with
-- the fields to which they lead.
use Rattle.std.specs.Prelude.{ℕ, ◌+◌, ◌≤◌, ◌<◌, Bool, false, not, cond, ◌&&◌, List, [], ◌∷◌, ◌≡◌, length, get_or, Option, Some, None}
use Rattle.std.proofs.Math.Option as option
use Rattle.meaning.specs.Limits.{definition_limit}
use Rattle.meaning.specs.Lists.{first_index}
use Rattle.meaning.specs.Lookup.{Target, names_field}
use Rattle.meaning.specs.References.{is_constant}
use Rattle.meaning.specs.Sizes.{is_enum_with_constant_size_variants}
use Rattle.meaning.specs.Tree.{Ty, primitive, type_ref, struct, union, enum, array, size_union, Member, Bundle}
use Rattle.meaning.specs.Violations.{struct_of}
use Rattle.bundle.specs.Definitions.{type_at, bundle_of}
use Rattle.sizes.specs.Scan.{Fits}
use Rattle.fields.specs.Sought.{shown}
use Rattle.field_index.specs.Noted.{starts_at, references_of, DefinitionsNoted}
use Rattle.checks.specs.Checks.{target_at}

-- the type is an array of constant size
abbrev pub is_constant_array : Ty → Bool
is_constant_array (primitive k) = false
is_constant_array (type_ref n) = false
is_constant_array (struct a ms) = false
is_constant_array (union a ms) = false
is_constant_array (enum a tag ms) = false
is_constant_array (array a jagged size element) = is_constant size
is_constant_array (size_union a ms) = false

-- the type needs the references in it for its layout, all or none of them
unfoldable pub needs_references : Ty → Bool
needs_references t = not (is_enum_with_constant_size_variants t) && not (is_constant_array t)

-- the references that definition i needs: all in it or none
abbrev pub needed_of : List ℕ → List ℕ → ℕ → List ℕ
needed_of s places i = cond (needs_references (type_at 24 s (get_or places i 0))) (references_of s places i) []

-- one more than the index of the first of a struct's fields that is the field part, and 0 where there is none
abbrev pub first_shown : List ℕ → option.Option (List Member) → ℕ
first_shown field option.none = 0
first_shown field (option.some ms) = shown (first_index (names_field field) ms)

-- the same of the first definition of the type that a reference means, if that is a struct
abbrev pub index_for : Bundle → Target → ℕ
index_for b target = first_shown target.field (struct_of b target.type)

-- how an index is listed
abbrev pub listed : Option ℕ → ℕ
listed None = 0
listed (Some k) = k + 1

-- what is listed at a of the reference at p: the type that it means, the field, where it is written
pub record Entry (s places : List ℕ) (a p : ℕ) : Type 0 where
  pub type : get_or places a 0 ≡ (target_at s p).type
  pub field : get_or places (a + 1) 0 ≡ index_for (bundle_of s) (target_at s p)
  pub position : get_or places (a + 2) 0 ≡ p

-- the list from a to `end` is of the references at ps
abbrev pub Lists : List ℕ → List ℕ → ℕ → ℕ → List ℕ → Type 0
Lists s places end a [] = a ≡ end
Lists s places end a (p ∷ ps) = Entry s places a p × Lists s places end (a + 3) ps

-- where it stands for each definition where its list starts; that of the definition before ends there
abbrev pub lists_at : ℕ
lists_at = starts_at + definition_limit

abbrev pub list_start : List ℕ → ℕ → ℕ
list_start places i = get_or places (lists_at + i) 0

-- the references of n definitions that they need are listed
pub record Listed (s places : List ℕ) (n : ℕ) : Type 0 where
  pub size : lists_at + n < length places
  pub each : (i : ℕ) → i < n → Lists s places (list_start places (i + 1)) (list_start places i) (needed_of s places i)
  pub fits : (i : ℕ) → i < n → Fits s (needed_of s places i)
  pub within : (i : ℕ) → i < n → list_start places (i + 1) ≤ length places

-- what is noted of n definitions, with the references that they need
pub record Noted (s places : List ℕ) (n : ℕ) : Type 0 where
  pub definitions : DefinitionsNoted s places n
  pub references : Listed s places n
