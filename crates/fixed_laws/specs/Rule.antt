-- The layout rule (document 02, L1) as a relation, a case for each of its sentences, and apart from the functions of fixed_meaning. Sizes,
-- alignments and offsets are natural numbers without a bound, and nothing here refuses.
use Rattle.std.specs.Prelude.{ℕ, ◌+◌, ◌*◌, ◌%◌, ◌≤◌, ◌<◌, max, List, [], ◌∷◌, ◌≡◌, pos}
use Rattle.std.proofs.Math.Option.{some}
use Rattle.meaning.specs.Tree.{Expr, Attributes, Ty, primitive, type_ref, struct, union, array, Member, Members, more, Bundle}
use Rattle.meaning.specs.Lookup.{member_type, find_type}
use Rattle.meaning.specs.Sizes.{get_primitive_size}
use Rattle.fixed_laws.specs.Expressions.{HasValue}

-- n is a multiple of a; 0 is no alignment, and every number counts as a multiple of it
abbrev pub Multiple : ℕ → ℕ → Type 0
Multiple a n = 0 < a → n % a ≡ 0

-- o is the next multiple of a, from n on
pub record IsNext (n a o : ℕ) : Type 0 where
  pub from : n ≤ o
  pub multiple : Multiple a o
  pub least : (x : ℕ) → n ≤ x → Multiple a x → o ≤ x

-- a field of alignment a lies at o, where the fields before it end at `end`: in a packed struct without a gap, else at the next multiple
pub data FieldAt (packed end a : ℕ) : ℕ → Type 0 where
  without_gap : packed ≡ 1 → FieldAt packed end a end
  at_multiple : {o : ℕ} → (packed ≡ 1 → ⊥) → IsNext end a o → FieldAt packed end a o

-- the alignment of a struct or union before its aligned is looked at: the largest of the members, 1 if packed
pub data Natural (a : Attributes) (most : ℕ) : ℕ → Type 0 where
  of_members : (a.packed ≡ 1 → ⊥) → Natural a most most
  of_packed : {n : ℕ} → a.packed ≡ 1 → n ≡ 1 → Natural a most n

-- an aligned above it replaces it
pub data AlignmentIs (a : Attributes) (most : ℕ) : ℕ → Type 0 where
  stays : {n : ℕ} → Natural a most n → a.aligned ≤ n → AlignmentIs a most n
  replaced : {n alignment : ℕ} → Natural a most n → n < a.aligned → alignment ≡ a.aligned → AlignmentIs a most alignment

-- the count of an array: the value of its size, which is not negative
abbrev pub IsCount : Expr → ℕ → Type 0
IsCount e count = HasValue e (pos count)

mutual
  -- a type has this size and this alignment
  pub data Laid (b : Bundle) : Ty → ℕ → ℕ → Type 0 where
    -- a primitive aligns to its size
    a_primitive : {k size alignment : ℕ} → size ≡ get_primitive_size k → alignment ≡ size → Laid b (primitive k) size alignment
    -- a struct puts its fields one behind the other and rounds its size up to its alignment
    a_struct : {a : Attributes} {ms : Members} {os : List ℕ} {end most size alignment : ℕ} → FieldsLaid b a.packed ms 0 os end most → AlignmentIs a most alignment → IsNext end alignment size → Laid b (struct a ms) size alignment
    -- a union has its largest member, or 0, rounded up
    a_union : {a : Attributes} {ms : Members} {greatest most size alignment : ℕ} → MembersLaid b ms greatest most → AlignmentIs a most alignment → IsNext greatest alignment size → Laid b (union a ms) size alignment
    -- an array is count times element size, aligned as its element
    an_array : {a : Attributes} {jagged : ℕ} {e : Expr} {t : Ty} {count each size alignment : ℕ} → (jagged ≡ 1 → ⊥) → IsCount e count → Laid b t each alignment → size ≡ count * each → Laid b (array a jagged e t) size alignment
    -- a TypeRef is its first definition
    a_reference : {n : ℕ} {t : Ty} {size alignment : ℕ} → find_type b n ≡ some t → Laid b t size alignment → Laid b (type_ref n) size alignment

  -- fields of a struct, packed or not, that start at `from` or behind it lie at os, the last ends at `end`, and `most` is their largest
  -- alignment, 1 if there is none
  pub data FieldsLaid (b : Bundle) : ℕ → Members → ℕ → List ℕ → ℕ → ℕ → Type 0 where
    no_field : {packed from end most : ℕ} → end ≡ from → most ≡ 1 → FieldsLaid b packed Members.none from [] end most
    field : {packed : ℕ} {m : Member} {ms : Members} {from o size a : ℕ} {os : List ℕ} {end others most : ℕ} → Laid b (member_type m) size a → FieldAt packed from a o → FieldsLaid b packed ms (o + size) os end others → most ≡ max a others → FieldsLaid b packed (more m ms) from (o ∷ os) end most

  -- the largest size of the members, 0 if there is none, and their largest alignment, 1 if there is none
  pub data MembersLaid (b : Bundle) : Members → ℕ → ℕ → Type 0 where
    no_member : {greatest most : ℕ} → greatest ≡ 0 → most ≡ 1 → MembersLaid b Members.none greatest most
    one_more : {m : Member} {ms : Members} {size a before others greatest most : ℕ} → Laid b (member_type m) size a → MembersLaid b ms before others → greatest ≡ max size before → most ≡ max a others → MembersLaid b (more m ms) greatest most

-- some field of those that start at `from` or behind it lies at o
pub data HasField (b : Bundle) (packed : ℕ) : Members → ℕ → ℕ → Type 0 where
  first : {m : Member} {ms : Members} {from o size a : ℕ} → Laid b (member_type m) size a → FieldAt packed from a o → HasField b packed (more m ms) from o
  later : {m : Member} {ms : Members} {from o size a p : ℕ} → Laid b (member_type m) size a → FieldAt packed from a o → HasField b packed ms (o + size) p → HasField b packed (more m ms) from p

-- the offsets of a type: those of a struct's fields, also by TypeRefs; others have none
pub data Offsets (b : Bundle) : Ty → List ℕ → Type 0 where
  of_struct : {a : Attributes} {ms : Members} {os : List ℕ} {end most : ℕ} → FieldsLaid b a.packed ms 0 os end most → Offsets b (struct a ms) os
  of_reference : {n : ℕ} {t : Ty} {os : List ℕ} → find_type b n ≡ some t → Offsets b t os → Offsets b (type_ref n) os
  of_primitive : {k : ℕ} → Offsets b (primitive k) []
  of_union : {a : Attributes} {ms : Members} → Offsets b (union a ms) []
  of_array : {a : Attributes} {jagged : ℕ} {e : Expr} {t : Ty} → Offsets b (array a jagged e t) []
