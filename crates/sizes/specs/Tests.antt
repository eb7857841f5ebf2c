-- The size test and the jagged test, as the walk over a bundle's definitions makes them: one answer is kept for each definition.
use Rattle.std.specs.Prelude.{ℕ, ◌≤◌, Bool, true, false, List, ◌≡◌, length, get_or, Option, Some, None}
use Rattle.meaning.specs.Circle.{circles}
use Rattle.meaning.specs.Limits.{size_limit, definition_limit}
use Rattle.meaning.specs.Lists.{holds}
use Rattle.meaning.specs.Lookup.{type_at}
use Rattle.meaning.specs.Sizes.{Test, answer, type_size_depends_on_field_refs, type_contains_jagged_array, named_size_depends}
use Rattle.meaning.specs.Tree.{Ty, Bundle}
use Rattle.bundle.specs.Definitions.{bundle_of}

-- the test of a definition's type: for jagged arrays, or of the size
abbrev pub named_of : Bool → Test
named_of true = type_contains_jagged_array
named_of false = type_size_depends_on_field_refs

-- what is known of a name in the bundle of the bytes s
abbrev pub known : Bool → List ℕ → ℕ → Bool
known jagged s = answer (named_of jagged) (bundle_of s)

-- the test in that bundle
unfoldable pub named_holds : Bool → List ℕ → Ty → Bool
named_holds jagged s t = named_of jagged t (known jagged s)

-- the answer of definition i
unfoldable pub answer_at : Bool → List ℕ → ℕ → Bool
answer_at jagged s i = holds (named_holds jagged s) (type_at (bundle_of s) i)

-- of each definition the answer, or None where it is not known yet
pub record Kept (s : List ℕ) (jagged : Bool) (kept : List (Option Bool)) : Type 0 where
  pub size : length kept ≡ definition_limit
  pub answers : (i : ℕ) (holds : Bool) → get_or kept i None ≡ Some holds → answer_at jagged s i ≡ holds

-- a bundle in which nothing circles
pub record Acyclic (s : List ℕ) : Type 0 where
  pub small : length s ≤ size_limit
  pub ends : circles (bundle_of s) ≡ false

-- the size of definition i depends on field references
abbrev pub definition_size_depends : Bundle → ℕ → Bool
definition_size_depends b i = holds (named_size_depends b) (type_at b i)
