-- The Rust's own equations of the size tests and of the jagged test, with no fuel in them, for bundles in which nothing circles.
use Prim.Native.Nat.{ℕ}
use mathlib.Core.Path.{◌≡◌, refl, ap}
use mathlib.Core.Bool.{Bool, true, false, not, ◌&&◌, ◌||◌}
use lib.Dec.{eqb}
use Rattle.meaning.specs.Tree.{Expr, Attributes, Ty, primitive, type_ref, struct, union, enum, array, size_union, member, Members, more, Bundle}
use Rattle.meaning.specs.Lists.{any, holds}
use Rattle.meaning.specs.Lookup.{list_of, member_type, find_type}
use Rattle.meaning.specs.References.{is_constant}
use Rattle.meaning.specs.Circle.{circles}
use Rattle.meaning.specs.Sizes.{one_size, type_size_depends_on_field_refs_recursive, some_size_depends, type_size_depends_on_field_refs, type_contains_jagged_array, some_contains_jagged, named_size_depends, inline_size_depends, contains_jagged_array}
use Rattle.meaning.proofs.Sizes.{named_test, jagged_test, answer_equation}

module _ (known : ℕ → Bool) where
  some_size_any : (ms : Members) → some_size_depends ms known ≡ any (λ m. type_size_depends_on_field_refs_recursive (member_type m) known) (list_of ms)
  some_size_any Members.none = refl
  some_size_any (more (member n v t) ms) = ap (type_size_depends_on_field_refs_recursive t known ||◌) (some_size_any ms)

  some_jagged_any : (ms : Members) → some_contains_jagged ms known ≡ any (λ m. type_contains_jagged_array (member_type m) known) (list_of ms)
  some_jagged_any Members.none = refl
  some_jagged_any (more (member n v t) ms) = ap (type_contains_jagged_array t known ||◌) (some_jagged_any ms)

module _ (b : Bundle) where
  -- some member's type, written inline or by a TypeRef, has a size that depends on field references
  abbrev pub some_member : Members → Bool
  some_member ms = any (λ m. inline_size_depends b (member_type m)) (list_of ms)

  abbrev pub some_member_jagged : Members → Bool
  some_member_jagged ms = any (λ m. contains_jagged_array b (member_type m)) (list_of ms)

  -- The inline-type test.

  pub inline_type_ref : circles b ≡ false → (n : ℕ) → inline_size_depends b (type_ref n) ≡ holds (named_size_depends b) (find_type b n)
  unfolding inline_size_depends named_size_depends
  inline_type_ref c n = answer_equation type_size_depends_on_field_refs named_test b c n

  pub inline_struct : (a : Attributes) (ms : Members) → inline_size_depends b (struct a ms) ≡ some_member ms
  unfolding inline_size_depends
  inline_struct a ms = some_size_any _ ms

  pub inline_union : (a : Attributes) (ms : Members) → inline_size_depends b (union a ms) ≡ some_member ms
  unfolding inline_size_depends
  inline_union a ms = some_size_any _ ms

  pub inline_enum : (a : Attributes) (tag : Expr) (ms : Members) → inline_size_depends b (enum a tag ms) ≡ (not (is_constant tag) || some_member ms)
  unfolding inline_size_depends
  inline_enum a tag ms = ap (not (is_constant tag) ||◌) (some_size_any _ ms)

  pub inline_array : (a : Attributes) (jagged : ℕ) (size : Expr) (element : Ty)
      → inline_size_depends b (array a jagged size element) ≡ (not (is_constant size) || inline_size_depends b element)
  unfolding inline_size_depends
  inline_array a jagged size element = refl

  -- The named-type test, where it differs from the inline one or goes through members.

  pub named_struct : (a : Attributes) (ms : Members) → named_size_depends b (struct a ms) ≡ some_member ms
  unfolding named_size_depends inline_size_depends
  named_struct a ms = some_size_any _ ms

  pub named_union : (a : Attributes) (ms : Members) → named_size_depends b (union a ms) ≡ some_member ms
  unfolding named_size_depends inline_size_depends
  named_union a ms = some_size_any _ ms

  pub named_enum : (a : Attributes) (tag : Expr) (ms : Members)
      → named_size_depends b (enum a tag ms) ≡ (some_member ms || (not (one_size (list_of ms)) && not (is_constant tag)))
  unfolding named_size_depends inline_size_depends
  named_enum a tag ms = ap (λ x. x || (not (one_size (list_of ms)) && not (is_constant tag))) (some_size_any _ ms)

  pub named_array : (a : Attributes) (jagged : ℕ) (size : Expr) (element : Ty) → named_size_depends b (array a jagged size element) ≡ not (is_constant size)
  unfolding named_size_depends
  named_array a jagged size element = refl

  pub named_type_ref : (n : ℕ) → named_size_depends b (type_ref n) ≡ false
  unfolding named_size_depends
  named_type_ref n = refl

  -- Primitives and size-discriminated unions, in both tests.

  pub size_primitive : (k : ℕ) → (inline_size_depends b (primitive k) ≡ false) × (named_size_depends b (primitive k) ≡ false)
  unfolding inline_size_depends named_size_depends
  size_primitive k = (refl, refl)

  pub size_size_union : (a : Attributes) (ms : Members) → (inline_size_depends b (size_union a ms) ≡ true) × (named_size_depends b (size_union a ms) ≡ true)
  unfolding inline_size_depends named_size_depends
  size_size_union a ms = (refl, refl)

  -- The jagged test.

  pub jagged_primitive : (k : ℕ) → contains_jagged_array b (primitive k) ≡ false
  unfolding contains_jagged_array
  jagged_primitive k = refl

  pub jagged_type_ref : circles b ≡ false → (n : ℕ) → contains_jagged_array b (type_ref n) ≡ holds (contains_jagged_array b) (find_type b n)
  unfolding contains_jagged_array
  jagged_type_ref c n = answer_equation type_contains_jagged_array jagged_test b c n

  pub jagged_struct : (a : Attributes) (ms : Members) → contains_jagged_array b (struct a ms) ≡ some_member_jagged ms
  unfolding contains_jagged_array
  jagged_struct a ms = some_jagged_any _ ms

  pub jagged_union : (a : Attributes) (ms : Members) → contains_jagged_array b (union a ms) ≡ some_member_jagged ms
  unfolding contains_jagged_array
  jagged_union a ms = some_jagged_any _ ms

  pub jagged_enum : (a : Attributes) (tag : Expr) (ms : Members) → contains_jagged_array b (enum a tag ms) ≡ some_member_jagged ms
  unfolding contains_jagged_array
  jagged_enum a tag ms = some_jagged_any _ ms

  pub jagged_array_lem : (a : Attributes) (jagged : ℕ) (size : Expr) (element : Ty)
      → contains_jagged_array b (array a jagged size element) ≡ (eqb jagged 1 || contains_jagged_array b element)
  unfolding contains_jagged_array
  jagged_array_lem a jagged size element = refl

  pub jagged_size_union : (a : Attributes) (ms : Members) → contains_jagged_array b (size_union a ms) ≡ some_member_jagged ms
  unfolding contains_jagged_array
  jagged_size_union a ms = some_jagged_any _ ms
