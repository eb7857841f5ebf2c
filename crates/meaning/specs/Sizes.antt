-- Size dependence and jagged nesting (document 01, "Size dependence and jagged nesting").
-- Each test asks of a name only what `known` says of its first definition, and `answer` is what it is then given.
use Rattle.std.specs.Prelude.{ℕ, zero, suc, ◌-◌, List, [], ◌∷◌, Bool, true, false, not, ◌&&◌, ◌||◌, eqb, get_or}
use Rattle.meaning.specs.Tree.{Ty, primitive, type_ref, struct, union, enum, array, size_union, Member, member, Members, more, Bundle}
use Rattle.meaning.specs.Lists.{all, holds}
use Rattle.meaning.specs.Lookup.{list_of, member_type, count, find_type, as_primitive}
use Rattle.meaning.specs.References.{is_constant}

-- the bytes of a primitive of kind 30 to 3B: U8 to U64, I8 to I64, Char, F16, F32, F64
abbrev pub get_primitive_size : ℕ → ℕ
get_primitive_size k = get_or (1 ∷ 2 ∷ 4 ∷ 8 ∷ 1 ∷ 2 ∷ 4 ∷ 8 ∷ 1 ∷ 2 ∷ 4 ∷ 8 ∷ []) (k - 0x30) 0

-- the member's type is a primitive of that many bytes
abbrev pub has_size : ℕ → Member → Bool
has_size size m = holds (λ k. eqb (get_primitive_size k) size) (as_primitive (member_type m))

-- all are primitives of the first one's size, and there is one
abbrev pub one_size : List Member → Bool
one_size [] = false
one_size (m ∷ ms) = holds (λ k. all (has_size (get_primitive_size k)) (m ∷ ms)) (as_primitive (member_type m))

-- two or more variants, all primitives of one size
abbrev pub constant_size_variants : List Member → Bool
constant_size_variants [] = false
constant_size_variants (m ∷ []) = false
constant_size_variants (m ∷ n ∷ ms) = one_size (m ∷ n ∷ ms)

-- an enum with such variants
abbrev pub is_enum_with_constant_size_variants : Ty → Bool
is_enum_with_constant_size_variants (primitive k) = false
is_enum_with_constant_size_variants (type_ref n) = false
is_enum_with_constant_size_variants (struct a ms) = false
is_enum_with_constant_size_variants (union a ms) = false
is_enum_with_constant_size_variants (enum a tag ms) = constant_size_variants (list_of ms)
is_enum_with_constant_size_variants (array a jagged size element) = false
is_enum_with_constant_size_variants (size_union a ms) = false

-- the inline-type test, where `known n` says whether the size of the first definition of n depends on field references
abbrev mutual
  pub type_size_depends_on_field_refs_recursive : Ty → (ℕ → Bool) → Bool
  type_size_depends_on_field_refs_recursive (primitive k) known = false
  type_size_depends_on_field_refs_recursive (type_ref n) known = known n
  type_size_depends_on_field_refs_recursive (struct a ms) known = some_size_depends ms known
  type_size_depends_on_field_refs_recursive (union a ms) known = some_size_depends ms known
  type_size_depends_on_field_refs_recursive (enum a tag ms) known = not (is_constant tag) || some_size_depends ms known
  type_size_depends_on_field_refs_recursive (array a jagged size element) known =
      not (is_constant size) || type_size_depends_on_field_refs_recursive element known
  type_size_depends_on_field_refs_recursive (size_union a ms) known = true

  -- the test of a member's type
  pub member_size_depends : Member → (ℕ → Bool) → Bool
  member_size_depends (member n v t) known = type_size_depends_on_field_refs_recursive t known

  -- the test holds of some member
  pub some_size_depends : Members → (ℕ → Bool) → Bool
  some_size_depends Members.none known = false
  some_size_depends (more m ms) known = member_size_depends m known || some_size_depends ms known

-- the named-type test, of a definition's type; a member that is a TypeRef has the named-type test of its definition, by `known`
abbrev pub type_size_depends_on_field_refs : Ty → (ℕ → Bool) → Bool
type_size_depends_on_field_refs (primitive k) known = false
type_size_depends_on_field_refs (type_ref n) known = false
type_size_depends_on_field_refs (struct a ms) known = some_size_depends ms known
type_size_depends_on_field_refs (union a ms) known = some_size_depends ms known
type_size_depends_on_field_refs (enum a tag ms) known =
    some_size_depends ms known || (not (one_size (list_of ms)) && not (is_constant tag))
type_size_depends_on_field_refs (array a jagged size element) known = not (is_constant size)
type_size_depends_on_field_refs (size_union a ms) known = true

-- a jagged array is inside, where `known n` says whether one is inside the first definition of n
abbrev mutual
  pub type_contains_jagged_array : Ty → (ℕ → Bool) → Bool
  type_contains_jagged_array (primitive k) known = false
  type_contains_jagged_array (type_ref n) known = known n
  type_contains_jagged_array (struct a ms) known = some_contains_jagged ms known
  type_contains_jagged_array (union a ms) known = some_contains_jagged ms known
  type_contains_jagged_array (enum a tag ms) known = some_contains_jagged ms known
  type_contains_jagged_array (array a jagged size element) known = eqb jagged 1 || type_contains_jagged_array element known
  type_contains_jagged_array (size_union a ms) known = some_contains_jagged ms known

  -- the test of a member's type
  pub member_contains_jagged : Member → (ℕ → Bool) → Bool
  member_contains_jagged (member n v t) known = type_contains_jagged_array t known

  -- the test holds of some member
  pub some_contains_jagged : Members → (ℕ → Bool) → Bool
  some_contains_jagged Members.none known = false
  some_contains_jagged (more m ms) known = member_contains_jagged m known || some_contains_jagged ms known

-- a test of a type, by what is known of the names in it
abbrev pub Test : Type 0
Test = Ty → (ℕ → Bool) → Bool

-- the test of the first definition of n, through at most k definitions one inside another; false where n has none
unfoldable pub within : Test → Bundle → ℕ → ℕ → Bool
within test b zero n = false
within test b (suc k) n = holds (λ t. test t (within test b k)) (find_type b n)

-- the test of the first definition of n. Where nothing circles, it is the test with itself for `known` (proofs/Sizes.antt)
unfoldable pub answer : Test → Bundle → ℕ → Bool
answer test b n = within test b (count b) n

-- the size of the definition's type t depends on field references
unfoldable pub named_size_depends : Bundle → Ty → Bool
named_size_depends b t = type_size_depends_on_field_refs t (answer type_size_depends_on_field_refs b)

-- the size of the type t, written inline, depends on field references
unfoldable pub inline_size_depends : Bundle → Ty → Bool
inline_size_depends b t = type_size_depends_on_field_refs_recursive t (answer type_size_depends_on_field_refs b)

-- a jagged array is in the type t or in what it leads to
unfoldable pub contains_jagged_array : Bundle → Ty → Bool
contains_jagged_array b t = type_contains_jagged_array t (answer type_contains_jagged_array b)
