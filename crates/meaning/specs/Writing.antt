-- Writing records one by one (document 01, "Bundle records"): the items of a record by its kind and values, and what a call that
-- writes one is due.
use Rattle.std.specs.Prelude.{ℕ, ◌+◌, ◌-◌, ◌^◌, cond, List, [], ◌∷◌, ◌++◌, ◌≡◌, eqb, leb, length, replicate}
use Rattle.std.proofs.Math.Option.{Option, some}
use Rattle.std.proofs.Math.Option as option
use Rattle.names.specs.Documents.{Item, byte, name, bytes}
use Rattle.meaning.specs.Limits.{definition_limit, edge_limit}
use Rattle.meaning.specs.Kinds.{ExprForm, Literal, FieldRef, Sizeof, Alignof, Binary, Unary}
use Rattle.meaning.specs.Kinds.{TypeForm, Primitive, TypeRef, Struct, Union, Enum, Array, SizeUnion}
use Rattle.meaning.specs.Kinds.{Form, OfExpr, OfType, OfMember, OfRecord, Unknown, form_of}
use Rattle.meaning.specs.Lists.{flat_map}
use Rattle.meaning.specs.Tree.{Expr, literal, field_ref, sizeof, alignof, binary, unary, Attributes}
use Rattle.meaning.specs.Tree.{Ty, primitive, type_ref, struct, union, enum, array, size_union, Member, member, Members, none, more, Definition, Edge, Bundle}
use Rattle.meaning.specs.Encoding.{number_items, member_count}
use Rattle.meaning.specs.Calls.{Outcome, result, refusal}

-- a part of a record's body: a number of some bytes, its largest value and the refusal above that; or a name
pub data Field : Type 0 where
  numeric : ℕ → ℕ → ℕ → Field
  named : Field

-- a number that may be all that fits its w bytes
abbrev pub whole : ℕ → Field
whole w = numeric w (256 ^ w - 1) 4

-- packed or jagged
abbrev pub flag : Field
flag = numeric 1 1 4

-- the fields of an expression's body
abbrev pub expr_fields : ExprForm → List Field
expr_fields (Literal w) = whole w ∷ []
expr_fields (FieldRef n) = replicate n named
expr_fields Sizeof = named ∷ []
expr_fields Alignof = named ∷ []
expr_fields Binary = []
expr_fields Unary = []

-- the fields of a body with members: packed, aligned, member count
abbrev pub group_fields : List Field
group_fields = flag ∷ whole 8 ∷ whole 2 ∷ []

-- the fields of a type's body
abbrev pub type_fields : TypeForm → List Field
type_fields Primitive = []
type_fields TypeRef = named ∷ []
type_fields Struct = group_fields
type_fields Union = group_fields
type_fields Enum = group_fields
type_fields Array = flag ∷ whole 8 ∷ flag ∷ []
type_fields SizeUnion = group_fields

-- the fields of a member whose value has w bytes: its name, and the value where it has one
abbrev pub member_fields : ℕ → List Field
member_fields w = named ∷ cond (eqb w 0) [] (whole w ∷ [])

-- the fields of the header, a definition and an edge
abbrev pub record_fields : ℕ → List Field
record_fields k =
    cond (eqb k 0x60) (numeric 2 definition_limit 5 ∷ numeric 2 edge_limit 5 ∷ named ∷ [])
    (cond (eqb k 0x61) (named ∷ []) (named ∷ named ∷ numeric 1 3 4 ∷ []))

-- the fields of the body of a record of kind k and this form, or none where k is no kind
abbrev pub fields_of : ℕ → Form → Option (List Field)
fields_of k (OfExpr f) = some (expr_fields f)
fields_of k (OfType f) = some (type_fields f)
fields_of k (OfMember w) = some (member_fields w)
fields_of k (OfRecord before names behind) = some (record_fields k)
fields_of k Unknown = option.none

-- the largest value of a field, and the refusal above it
abbrev pub most : Field → ℕ
most (numeric w m k) = m
most named = 256 ^ 2 - 1

abbrev pub fault : Field → ℕ
fault (numeric w m k) = k
fault named = 4

-- the items of a field with the value v
abbrev pub field_items : Field → ℕ → List Item
field_items (numeric w m k) v = number_items w v
field_items named v = name v ∷ []

-- the items of the fields, with the values in order; a value that is not given counts as 0
unfoldable pub body_items : List Field → List ℕ → List Item
body_items [] vs = []
body_items (f ∷ fs) [] = field_items f 0 ++ body_items fs []
body_items (f ∷ fs) (v ∷ vs) = field_items f v ++ body_items fs vs

-- the refusal of the first value that is too large
unfoldable pub first_fault : List Field → List ℕ → Option ℕ
first_fault [] vs = option.none
first_fault (f ∷ fs) [] = option.none
first_fault (f ∷ fs) (v ∷ vs) = cond (leb v (most f)) (first_fault fs vs) (some (fault f))

-- what is due where this fault was found, or none
abbrev pub unless : Option ℕ → List ℕ → Outcome
unless option.none xs = result xs
unless (some k) xs = refusal k

-- what is due for a record of kind k, these fields and these values
abbrev pub record_due : ℕ → List ℕ → Option (List Field) → Outcome
record_due k vs option.none = refusal 3
record_due k vs (some fs) = unless (first_fault fs vs) (bytes (byte k ∷ body_items fs vs))

-- what is due to a call that writes the record of kind k with these values
unfoldable pub writing : ℕ → List ℕ → Outcome
writing k vs = record_due k vs (fields_of k (form_of k))

-- The records of a tree, front to back: kind and values of each.

-- of an expression
unfoldable pub expr_records : Expr → List (ℕ × List ℕ)
expr_records (literal k v) = (k, v ∷ []) ∷ []
expr_records (field_ref path) = (8 + length path, path) ∷ []
expr_records (sizeof x) = (0x0D, x ∷ []) ∷ []
expr_records (alignof x) = (0x0E, x ∷ []) ∷ []
expr_records (binary k l r) = (k, []) ∷ expr_records l ++ expr_records r
expr_records (unary k e) = (k, []) ∷ expr_records e

-- the values of attributes and of the number behind them
abbrev pub head_values : Attributes → ℕ → List ℕ
head_values a last = a.packed ∷ a.aligned ∷ last ∷ []

unfoldable mutual
  -- of a type
  pub type_records : Ty → List (ℕ × List ℕ)
  type_records (primitive k) = (k, []) ∷ []
  type_records (type_ref x) = (0x40, x ∷ []) ∷ []
  type_records (struct a ms) = (0x41, head_values a (member_count ms)) ∷ members_records ms 0x50
  type_records (union a ms) = (0x42, head_values a (member_count ms)) ∷ members_records ms 0x51
  type_records (enum a tag ms) = (0x43, head_values a (member_count ms)) ∷ expr_records tag ++ members_records ms 0x52
  type_records (array a jagged size element) = (0x44, head_values a jagged) ∷ expr_records size ++ type_records element
  type_records (size_union a ms) = (0x45, head_values a (member_count ms)) ∷ members_records ms 0x53

  -- of a member of kind k
  pub member_records : Member → ℕ → List (ℕ × List ℕ)
  member_records (member n v t) k = (k, n ∷ v ∷ []) ∷ type_records t

  -- of members of kind k
  pub members_records : Members → ℕ → List (ℕ × List ℕ)
  members_records none k = []
  members_records (more m ms) k = member_records m k ++ members_records ms k

-- of a definition
unfoldable pub definition_records : Definition → List (ℕ × List ℕ)
definition_records d = (0x61, d.name ∷ []) ∷ type_records d.type

-- of an edge
unfoldable pub edge_records : Edge → List (ℕ × List ℕ)
edge_records e = (0x62, e.from ∷ e.to ∷ e.kind ∷ []) ∷ []

-- of a bundle
unfoldable pub bundle_records : Bundle → List (ℕ × List ℕ)
bundle_records b =
    (0x60, length b.definitions ∷ length b.edges ∷ b.current ∷ [])
    ∷ flat_map definition_records b.definitions ++ flat_map edge_records b.edges

-- each of these records is accepted, and their bytes, one record behind the other, are s
pub data Writes : List (ℕ × List ℕ) → List ℕ → Type 0 where
  nothing : Writes [] []
  record_first : {k : ℕ} {vs xs : List ℕ} {rs : List (ℕ × List ℕ)} {s : List ℕ} → writing k vs ≡ result xs → Writes rs s → Writes ((k, vs) ∷ rs) (xs ++ s)
