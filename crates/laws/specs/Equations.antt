-- The Rust's own equations of the size tests and of the jagged test, case by case of the type (document 01, "Size dependence and jagged
-- nesting").
use Rattle.std.specs.Prelude.{ℕ, ◌≡◌, Bool, true, false, not, ◌&&◌, ◌||◌, eqb}
use Rattle.meaning.specs.Tree.{Expr, Attributes, Ty, primitive, type_ref, struct, union, enum, array, size_union, Members, Bundle}
use Rattle.meaning.specs.Lists.{any, holds}
use Rattle.meaning.specs.Lookup.{list_of, member_type, find_type}
use Rattle.meaning.specs.References.{is_constant}
use Rattle.meaning.specs.Circle.{circles}
use Rattle.meaning.specs.Sizes.{one_size, named_size_depends, inline_size_depends, contains_jagged_array}

-- some member's type has a size that depends on field references
abbrev pub some_member : Bundle → Members → Bool
some_member b ms = any (λ m. inline_size_depends b (member_type m)) (list_of ms)

-- some member's type contains a jagged array
abbrev pub some_member_jagged : Bundle → Members → Bool
some_member_jagged b ms = any (λ m. contains_jagged_array b (member_type m)) (list_of ms)

-- the test of a type written inline, and that of a definition's type
pub record SizeEquations : Type 0 where
  pub inline_type_ref : (b : Bundle) → circles b ≡ false → (n : ℕ) → inline_size_depends b (type_ref n) ≡ holds (named_size_depends b) (find_type b n)
  pub inline_struct : (b : Bundle) (a : Attributes) (ms : Members) → inline_size_depends b (struct a ms) ≡ some_member b ms
  pub inline_union : (b : Bundle) (a : Attributes) (ms : Members) → inline_size_depends b (union a ms) ≡ some_member b ms
  pub inline_enum : (b : Bundle) (a : Attributes) (tag : Expr) (ms : Members) → inline_size_depends b (enum a tag ms) ≡ (not (is_constant tag) || some_member b ms)
  pub inline_array : (b : Bundle) (a : Attributes) (jagged : ℕ) (size : Expr) (element : Ty)
      → inline_size_depends b (array a jagged size element) ≡ (not (is_constant size) || inline_size_depends b element)
  pub named_type_ref : (b : Bundle) (n : ℕ) → named_size_depends b (type_ref n) ≡ false
  pub named_struct : (b : Bundle) (a : Attributes) (ms : Members) → named_size_depends b (struct a ms) ≡ some_member b ms
  pub named_union : (b : Bundle) (a : Attributes) (ms : Members) → named_size_depends b (union a ms) ≡ some_member b ms
  pub named_enum : (b : Bundle) (a : Attributes) (tag : Expr) (ms : Members)
      → named_size_depends b (enum a tag ms) ≡ (some_member b ms || (not (one_size (list_of ms)) && not (is_constant tag)))
  pub named_array : (b : Bundle) (a : Attributes) (jagged : ℕ) (size : Expr) (element : Ty) → named_size_depends b (array a jagged size element) ≡ not (is_constant size)
  pub primitives : (b : Bundle) (k : ℕ) → (inline_size_depends b (primitive k) ≡ false) × (named_size_depends b (primitive k) ≡ false)
  pub size_unions : (b : Bundle) (a : Attributes) (ms : Members) → (inline_size_depends b (size_union a ms) ≡ true) × (named_size_depends b (size_union a ms) ≡ true)

-- the jagged test
pub record JaggedEquations : Type 0 where
  pub primitives : (b : Bundle) (k : ℕ) → contains_jagged_array b (primitive k) ≡ false
  pub type_refs : (b : Bundle) → circles b ≡ false → (n : ℕ) → contains_jagged_array b (type_ref n) ≡ holds (contains_jagged_array b) (find_type b n)
  pub structs : (b : Bundle) (a : Attributes) (ms : Members) → contains_jagged_array b (struct a ms) ≡ some_member_jagged b ms
  pub unions : (b : Bundle) (a : Attributes) (ms : Members) → contains_jagged_array b (union a ms) ≡ some_member_jagged b ms
  pub enums : (b : Bundle) (a : Attributes) (tag : Expr) (ms : Members) → contains_jagged_array b (enum a tag ms) ≡ some_member_jagged b ms
  pub arrays : (b : Bundle) (a : Attributes) (jagged : ℕ) (size : Expr) (element : Ty)
      → contains_jagged_array b (array a jagged size element) ≡ (eqb jagged 1 || contains_jagged_array b element)
  pub size_unions : (b : Bundle) (a : Attributes) (ms : Members) → contains_jagged_array b (size_union a ms) ≡ some_member_jagged b ms
