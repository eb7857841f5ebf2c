-- What is noted of the fields of structs: for each name that a field has, the indices of the first and the last such field; for each field
-- where its type leads. Behind it there is to be room for the references, which are counted here.
use Rattle.std.specs.Prelude.{ℕ, zero, suc, ◌+◌, ◌-◌, ◌*◌, ◌≤◌, ◌<◌, ◌≡◌, Bool, List, [], map, eqb, length, get_or, Option, Some, None, MatchOption}
use Rattle.std.specs.Int.{from_bool}
use Rattle.std.proofs.Math.Option as option
use Rattle.meaning.specs.Lists.{first_index, last_index}
use Rattle.meaning.specs.Lookup.{list_of, member_name, member_type, as_type_ref, definition_of}
use Rattle.meaning.specs.Tree.{Ty, primitive, type_ref, struct, union, enum, array, size_union, Member, Bundle}
use Rattle.meaning.specs.Limits.{definition_limit}
use Rattle.meaning.specs.Sizes.{is_enum_with_constant_size_variants}
use Rattle.bundle.specs.Definitions.{type_at, bundle_of, places_end}
use Rattle.sizes.specs.Scan.{references_from}
use Rattle.tree.specs.Tree.{Tree, number_at}
use Rattle.field_index.specs.declared.Indices.{Indices}
use Rattle.fields.specs.Sought.{named}

-- the name of field k
abbrev pub field_name : List Member → ℕ → ℕ
field_name ms k = get_or (map member_name ms) k 0

-- where the tree of names stands in a part at a for n fields
abbrev pub tree_at : ℕ → ℕ → ℕ
tree_at a n = a + 2 + 2 * n

-- of the first k fields, f is the first that has the name x
pub record IsFirst (ms : List Member) (k x f : ℕ) : Type 0 where
  pub below : f < k
  pub here : field_name ms f ≡ x
  pub none : (i : ℕ) → i < f → field_name ms i ≡ x → ⊥

-- of the first k fields, l is the last that has the name x
pub record IsLast (ms : List Member) (k x l : ℕ) : Type 0 where
  pub below : l < k
  pub here : field_name ms l ≡ x
  pub none : (i : ℕ) → l < i → i < k → field_name ms i ≡ x → ⊥

-- one of d names is x
abbrev pub HasName : List ℕ → ℕ → ℕ → ℕ → ℕ → Type 0
HasName notes a n d x = (r : ℕ) × (r < d) × (number_at notes (tree_at a n) r ≡ x)

-- the first k of the fields ms are noted in the part at a, which is one for n fields, and have d names
pub record NotedTo (ms : List Member) (notes : List ℕ) (a n d k : ℕ) : Type 0 where
  pub tree : Tree notes (tree_at a n) d
  pub few : d ≤ k
  pub all : (i : ℕ) → i < k → HasName notes a n d (field_name ms i)
  pub firsts : (r : ℕ) → r < d → IsFirst ms k (number_at notes (tree_at a n) r) (get_or notes (a + 2 + r) 0)
  pub lasts : (r : ℕ) → r < d → IsLast ms k (number_at notes (tree_at a n) r) (get_or notes (a + 2 + n + r) 0)

-- all fields ms are noted in the part at a
pub record NotedPart (ms : List Member) (notes : List ℕ) (a : ℕ) : Type 0 where
  pub some : 0 < length ms
  pub count : get_or notes a 0 ≡ length ms
  pub room : a + 2 + 6 * length ms ≤ length notes
  pub all : NotedTo ms notes a (length ms) (get_or notes (a + 1) 0) (length ms)

-- one more than the number of the first definition of the name to which a TypeRef leads, or than the count of definitions where the name has
-- none; 0 where the type is no TypeRef
abbrev pub lead_shown : Bundle → option.Option ℕ → ℕ
lead_shown b option.none = 0
lead_shown b (option.some x) = definition_of b x + 1

-- the same of each field
abbrev pub leads_of : Bundle → List Member → List ℕ
leads_of b ms = map (λ m. lead_shown b (as_type_ref (member_type m))) ms

-- the field leads where x says
abbrev pub lead_is : Bundle → ℕ → Member → Bool
lead_is b x m = eqb x (lead_shown b (as_type_ref (member_type m)))

-- from k on, none of the n places at `at` holds x
abbrev pub LacksFrom : List ℕ → ℕ → ℕ → ℕ → ℕ → Type 0
LacksFrom t at n x k = (j : ℕ) → k ≤ j → j < n → get_or t (at + j) 0 ≡ x → ⊥

-- k is the last of the n places from `at` on that hold x, and None where none does
abbrev pub LastIn : List ℕ → ℕ → ℕ → ℕ → Option ℕ → Type 0
LastIn t at n x o = MatchOption o (LacksFrom t at n x 0) (λ k. (k < n) × (get_or t (at + k) 0 ≡ x) × LacksFrom t at n x (k + 1))

-- where this stands in a part at a for n fields
abbrev pub leads_at : ℕ → ℕ → ℕ
leads_at a n = a + 2 + 5 * n

-- that of the first k fields stands there
abbrev pub LeadsTo : List ℕ → List ℕ → ℕ → ℕ → ℕ → Type 0
LeadsTo leads notes a n k = (i : ℕ) → i < k → get_or notes (leads_at a n + i) 0 ≡ get_or leads i 0

-- the fields ms have a part at a, or there is none where a is 0
pub record NotedFor (ms : List Member) (notes : List ℕ) (a : ℕ) : Type 0 where
  pub none : a ≡ 0 → ms ≡ []
  pub part : 0 < a → NotedPart ms notes a

-- how the code shows an index
abbrev pub index_shown : option.Option ℕ → Option ℕ
index_shown option.none = None
index_shown (option.some i) = Some i

-- the indices of the first and the last of the fields ms that have the name x; None where no field has it
abbrev pub IndicesOf : List Member → ℕ → Option Indices → Type 0
IndicesOf ms x None = (first_index (named x) ms ≡ option.none) × (last_index (named x) ms ≡ option.none)
IndicesOf ms x (Some p) = (first_index (named x) ms ≡ option.some p.first) × (last_index (named x) ms ≡ option.some p.last)

-- the fields of a type, none where it is no struct
abbrev pub struct_fields : Ty → List Member
struct_fields (primitive k) = []
struct_fields (type_ref n) = []
struct_fields (struct a ms) = list_of ms
struct_fields (union a ms) = []
struct_fields (enum a tag ms) = []
struct_fields (array a jagged size element) = []
struct_fields (size_union a ms) = []

-- the fields of definition i
abbrev pub fields_at : List ℕ → List ℕ → ℕ → List Member
fields_at s places i = struct_fields (type_at 24 s (get_or places i 0))

-- where it stands for each definition whether it is an enum with variants of constant size
abbrev pub constants_at : ℕ
constants_at = places_end

-- where it stands for each definition where its part starts
abbrev pub starts_at : ℕ
starts_at = constants_at + definition_limit

-- where the parts start; between the two there are places for the lists of references
abbrev pub parts_at : ℕ
parts_at = starts_at + definition_limit + definition_limit + 1

-- where the part of definition i starts
abbrev pub part_start : List ℕ → ℕ → ℕ
part_start places i = get_or places (starts_at + i) 0

-- the fields of definition i are noted, whichever they are
abbrev pub HasNotes : List ℕ → ℕ → Type 0
HasNotes places i = (starts_at + i < length places) × ((ms : List Member) × NotedFor ms places (part_start places i))

-- the references in definition i
abbrev pub references_of : List ℕ → List ℕ → ℕ → List ℕ
references_of s places i = references_from s (get_or places i 0) (get_or places (i + 1) 0 - 3)

-- how many there are in n definitions
abbrev pub references_to : List ℕ → List ℕ → ℕ → ℕ
references_to s places zero = 0
references_to s places (suc n) = references_to s places n + length (references_of s places n)

-- where the first n definitions end, with the head of the next
abbrev pub end_before : List ℕ → ℕ → ℕ
end_before places zero = 0
end_before places (suc n) = get_or places (suc n) 0

-- the fields of n definitions are noted
pub record FieldsNoted (s places : List ℕ) (n : ℕ) : Type 0 where
  pub size : parts_at ≤ length places
  pub each : (i : ℕ) → i < n → NotedFor (fields_at s places i) places (part_start places i)
  pub leads : (i : ℕ) → i < n → 0 < part_start places i
      → LeadsTo (leads_of (bundle_of s) (fields_at s places i)) places (part_start places i) (length (fields_at s places i)) (length (fields_at s places i))
  pub few : (i : ℕ) → i < n → 4 * length (fields_at s places i) ≤ length s

-- the same, in parts before `used`
pub record FieldsBelow (s places : List ℕ) (n used : ℕ) : Type 0 where
  pub noted : FieldsNoted s places n
  pub from : parts_at ≤ used
  pub parts : (i : ℕ) → i < n → 0 < part_start places i → (parts_at ≤ part_start places i) × (part_start places i + 2 + 6 * length (fields_at s places i) ≤ used)

-- the same where the parts, and three places for each reference, take at most three places for every two bytes of the n definitions
pub record NotedBelow (s places : List ℕ) (n used : ℕ) : Type 0 where
  pub below : FieldsBelow s places n used
  pub room : 2 * used + 6 * references_to s places n ≤ 2 * parts_at + 3 * end_before places n
  pub size : 2 * parts_at + 3 * length s + 9 ≤ 2 * length places
  pub short : length s ≤ 32768

-- it is noted of n definitions, true as 1 and false as 0
pub record ConstantsNoted (s places : List ℕ) (n : ℕ) : Type 0 where
  pub size : starts_at ≤ length places
  pub each : (i : ℕ) → i < n → get_or places (constants_at + i) 0 ≡ from_bool (is_enum_with_constant_size_variants (type_at 24 s (get_or places i 0)))

-- that, and the fields of the definitions
pub record DefinitionsNoted (s places : List ℕ) (n : ℕ) : Type 0 where
  pub constants : ConstantsNoted s places n
  pub fields : FieldsNoted s places n

-- what is noted of the definitions but for their fields stays
pub record Front (places places' : List ℕ) : Type 0 where
  pub size : length places' ≡ length places
  pub same : (i : ℕ) → i < starts_at → get_or places' i 0 ≡ get_or places i 0
