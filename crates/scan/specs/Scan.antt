-- The records of a run of bytes, one after another, and the first of them at which a walk stops.
use Rattle.std.specs.Prelude.{Option, Some, None}
use Rattle.std.specs.Bool.{then_some}
use Rattle.std.specs.Prelude.{ℕ, ◌+◌, ◌*◌, ◌≤◌, ◌<◌, Bool, true, false, cond, ◌&&◌, not, List, [], ◌∷◌, ◌≡◌, eqb, length, get_or}
use Rattle.meaning.specs.Kinds.{Literal, FieldRef, Sizeof, Alignof, Binary, Unary}
use Rattle.meaning.specs.Kinds.{Primitive, TypeRef, Struct, Union, Enum, Array, SizeUnion}
use Rattle.meaning.specs.Kinds.{Form, OfExpr, OfType, OfMember, OfRecord, Unknown, form_of}
use Rattle.meaning.specs.Circle.{resolve}
use Rattle.meaning.specs.Reader.{little}
use Rattle.bundle.specs.Definitions.{bundle_of}
use Rattle.scan.specs.declared.Walk.{Walk}
use Rattle.scan.specs.declared.Walk.TheVariants.{Definitions, Sizes, Jagged, SizesAndJagged}
use Rattle.scan.specs.Parts.{Part, other, lead, reference, arrayed, sized, lead_names}

-- the length of a record of this form inside a type, and 1 for all else
unfoldable pub record_length : Form → ℕ
record_length (OfExpr (Literal w)) = 1 + w
record_length (OfExpr (FieldRef n)) = 1 + 2 * n
record_length (OfExpr Sizeof) = 3
record_length (OfExpr Alignof) = 3
record_length (OfExpr Binary) = 1
record_length (OfExpr Unary) = 1
record_length (OfType Primitive) = 1
record_length (OfType TypeRef) = 3
record_length (OfType Struct) = 12
record_length (OfType Union) = 12
record_length (OfType Enum) = 12
record_length (OfType Array) = 11
record_length (OfType SizeUnion) = 12
record_length (OfMember w) = 3 + w
record_length (OfRecord before names behind) = 1
record_length Unknown = 1

-- the form of a size-discriminated union: a scan for field references passes over it whole
unfoldable pub is_size_union : Form → Bool
is_size_union (OfExpr f) = false
is_size_union (OfType Primitive) = false
is_size_union (OfType TypeRef) = false
is_size_union (OfType Struct) = false
is_size_union (OfType Union) = false
is_size_union (OfType Enum) = false
is_size_union (OfType Array) = false
is_size_union (OfType SizeUnion) = true
is_size_union (OfMember w) = false
is_size_union (OfRecord before names behind) = false
is_size_union Unknown = false

-- the name of the record at a position
abbrev pub record_name : List ℕ → ℕ → ℕ
record_name s at = little s (at + 1) 2

-- what a record of this form at a position says
unfoldable pub part_of : List ℕ → ℕ → Form → Part
part_of s at (OfExpr (Literal w)) = other
part_of s at (OfExpr (FieldRef n)) = reference
part_of s at (OfExpr Sizeof) = other
part_of s at (OfExpr Alignof) = other
part_of s at (OfExpr Binary) = other
part_of s at (OfExpr Unary) = other
part_of s at (OfType Primitive) = other
part_of s at (OfType TypeRef) = lead (record_name s at)
part_of s at (OfType Struct) = other
part_of s at (OfType Union) = other
part_of s at (OfType Enum) = other
part_of s at (OfType Array) = arrayed (get_or s (at + 10) 0)
part_of s at (OfType SizeUnion) = sized
part_of s at (OfMember w) = other
part_of s at (OfRecord before names behind) = other
part_of s at Unknown = other

-- the form of the record at a position, what it says, and where it ends
abbrev pub form_at : List ℕ → ℕ → Form
form_at s at = form_of (get_or s at 0)

abbrev pub part_at : List ℕ → ℕ → Part
part_at s at = part_of s at (form_at s at)

abbrev pub record_end : List ℕ → ℕ → ℕ
record_end s at = at + record_length (form_at s at)

-- the records from `at` to `end`, one after another, say this
abbrev pub Run : List ℕ → ℕ → ℕ → List Part → Type 0
Run s end at [] = at ≡ end
Run s end at (p ∷ ps) = (p ≡ part_at s at) × (record_end s at ≤ end) × Run s end (record_end s at) ps

-- from `at` to `end` there are records
pub record Records (s : List ℕ) (at end : ℕ) : Type 0 where
  pub parts : List Part
  pub run : Run s end at parts
  pub bound : end ≤ length s

-- the definitions to which records lead
abbrev pub lead_to : List ℕ → List Part → List ℕ
lead_to s ps = resolve (bundle_of s) (lead_names ps)

-- a walk stops at a record that leads; one that asks for sizes at what makes a size depend on a field, one for jagged arrays at those
unfoldable pub stops : Bool → Bool → Part → Bool
stops sizes jagged other = false
stops sizes jagged (lead n) = true
stops sizes jagged reference = sizes
stops sizes jagged (arrayed k) = jagged && eqb k 1
stops sizes jagged sized = sizes

-- the records from the first on at which it stops
unfoldable pub from_stop : Bool → Bool → List Part → List Part
from_stop sizes jagged [] = []
from_stop sizes jagged (p ∷ ps) = cond (stops sizes jagged p) (p ∷ ps) (from_stop sizes jagged ps)

-- r is the position of the first record from `at` to `end` at which the walk stops
pub record StopsFirst (s : List ℕ) (at end : ℕ) (sizes jagged : Bool) (r : ℕ) : Type 0 where
  pub forward : at ≤ r
  pub before : r < end
  pub rest : (ps : List Part) → Run s end at ps → Run s end r (from_stop sizes jagged ps)
  pub stop : stops sizes jagged (part_at s r) ≡ true

-- the first record at which it stops, if there is one
abbrev pub NextStop : List ℕ → ℕ → ℕ → Bool → Bool → Option ℕ → Type 0
NextStop s at end sizes jagged (Some r) = StopsFirst s at end sizes jagged r
NextStop s at end sizes jagged None = (ps : List Part) → Run s end at ps → from_stop sizes jagged ps ≡ []

-- a walk asks for sizes; for jagged arrays
abbrev pub asks_sizes : Walk → Bool
asks_sizes Definitions = false
asks_sizes Sizes = true
asks_sizes Jagged = false
asks_sizes SizesAndJagged = true

abbrev pub asks_jagged : Walk → Bool
asks_jagged Definitions = false
asks_jagged Sizes = false
asks_jagged Jagged = true
asks_jagged SizesAndJagged = true

-- how the code shows a record
abbrev pub piece_of : Bool → Bool → Part → ℕ → Option ℕ
piece_of sizes jagged p n = then_some (not (stops sizes jagged p)) n
