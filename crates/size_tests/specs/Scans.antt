-- The size test and the jagged test as scans over the records of a type.
use Rattle.std.specs.Prelude.{ℕ, Bool, true, false, not, ◌&&◌, ◌≡◌, eqb, Option, Some, None}
use mathlib.Core.List.{List, ◌++◌, Memᴰ}
use Rattle.meaning.specs.Circle.{settled, circles}
use Rattle.meaning.specs.Lists.{any}
use Rattle.meaning.specs.Sizes.{Test, type_size_depends_on_field_refs_recursive, type_contains_jagged_array}
use Rattle.meaning.specs.Tree.{Ty}
use Rattle.bundle.specs.Definitions.{type_at, bundle_of}
use Rattle.scan.specs.Parts.{Part, other, lead, reference, arrayed, sized, type_parts}
use Rattle.scan.specs.Scan.{Run, Records, lead_to}
use Rattle.sizes.specs.Tests.{known, named_holds, Kept}
use Rattle.size_tests.specs.declared.TestOf.{TestOf}
use Rattle.size_tests.specs.declared.TestOf.TheVariants.{Size, Jagged}

-- whether it is the test for jagged arrays, and not that of the size
abbrev pub is_jagged : TestOf → Bool
is_jagged Size = false
is_jagged Jagged = true

-- the test of a type that is written inline: for jagged arrays, or of the size
abbrev pub inline_of : Bool → Test
inline_of true = type_contains_jagged_array
inline_of false = type_size_depends_on_field_refs_recursive

-- it holds in the bundle of the bytes s
unfoldable pub inline_holds : Bool → List ℕ → Ty → Bool
inline_holds jagged s t = inline_of jagged t (known jagged s)

-- it holds by this record, where `answers n` is the answer for the first definition of n
abbrev pub counts : Bool → (ℕ → Bool) → Part → Bool
counts jagged answers other = false
counts jagged answers (lead n) = answers n
counts jagged answers reference = not jagged
counts jagged answers (arrayed k) = jagged && eqb k 1
counts jagged answers sized = not jagged

-- it holds by some of these records
unfoldable pub some_counts : Bool → List ℕ → List Part → Bool
some_counts jagged s ps = any (counts jagged (known jagged s)) ps

-- the definitions ds are tested next, each settled within `left` steps
pub record Ready (s : List ℕ) (jagged : Bool) (left : ℕ) (ds : List ℕ) (kept : List (Option Bool)) : Type 0 where
  pub ends : circles (bundle_of s) ≡ false
  pub within : (i : ℕ) → Memᴰ i ds → settled (bundle_of s) left i ≡ true
  pub keeps : Kept s jagged kept

-- the records from `at` to `end` can be tested
pub record ToTest (s : List ℕ) (jagged : Bool) (left at end : ℕ) (kept : List (Option Bool)) : Type 0 where
  pub records : Records s at end
  pub ready : Ready s jagged left (lead_to s records.parts) kept

-- the named-type test of the type at `at`, which ends at `end`, is the scan from p on
pub record Rest (s : List ℕ) (jagged : Bool) (at end p : ℕ) : Type 0 where
  pub before : List Part
  pub parts : List Part
  pub run : Run s end p parts
  pub split : type_parts (type_at 24 s at) ≡ before ++ parts
  pub is : named_holds jagged s (type_at 24 s at) ≡ some_counts jagged s parts

-- what a definition's own record says, with the tag or size behind it
abbrev pub HeadTested : List ℕ → Bool → ℕ → ℕ → Option ℕ → Type 0
HeadTested s jagged at end None = named_holds jagged s (type_at 24 s at) ≡ true
HeadTested s jagged at end (Some p) = Rest s jagged at end p
