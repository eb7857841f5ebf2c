-- The encoding of a tree (document 01, "Bundle records"): a list of items, each a plain byte or a name. The bytes of a bundle,
-- its names front to back, and the bundle with every name put through a map are folds of that one list (names' Documents.antt).
use Rattle.std.specs.Prelude.{ℕ, zero, suc, ◌+◌, ◌-◌, ◌/◌, ◌%◌, ◌<◌, List, [], ◌∷◌, ◌++◌, map, length, get_or}
use Rattle.names.specs.Documents.{Item, byte, name, bytes}
use Rattle.meaning.specs.Kinds.{widths}
use Rattle.meaning.specs.Lists.{flat_map}
use Rattle.meaning.specs.Tree.{Expr, literal, field_ref, sizeof, alignof, binary, unary}
use Rattle.meaning.specs.Tree.{Ty, primitive, type_ref, struct, union, enum, array, size_union}
use Rattle.meaning.specs.Tree.{Attributes, Member, member, Members, none, more, Definition, Edge, Bundle}

-- every element is a byte
abbrev pub Bytes : List ℕ → Type 0
Bytes s = (i : ℕ) → get_or s i 0 < 256

-- a number in w bytes, little-endian
unfoldable pub number_items : ℕ → ℕ → List Item
number_items zero v = []
number_items (suc w) v = byte (v % 256) ∷ number_items w (v / 256)

-- an expression
unfoldable pub expr_items : Expr → List Item
expr_items (literal k v) = byte k ∷ number_items (get_or widths (k - 1) 0) v
expr_items (field_ref path) = byte (8 + length path) ∷ map name path
expr_items (sizeof x) = byte 0x0D ∷ name x ∷ []
expr_items (alignof x) = byte 0x0E ∷ name x ∷ []
expr_items (binary k l r) = byte k ∷ expr_items l ++ expr_items r
expr_items (unary k e) = byte k ∷ expr_items e

-- the number of members
unfoldable pub member_count : Members → ℕ
member_count none = 0
member_count (more m ms) = suc (member_count ms)

-- attributes, and the number of w bytes behind them
unfoldable pub head_items : Attributes → ℕ → ℕ → List Item
head_items a w last = byte a.packed ∷ number_items 8 a.aligned ++ number_items w last

unfoldable mutual
  -- a type
  pub type_items : Ty → List Item
  type_items (primitive k) = byte k ∷ []
  type_items (type_ref x) = byte 0x40 ∷ name x ∷ []
  type_items (struct a ms) = byte 0x41 ∷ head_items a 2 (member_count ms) ++ members_items ms 0x50 0
  type_items (union a ms) = byte 0x42 ∷ head_items a 2 (member_count ms) ++ members_items ms 0x51 0
  type_items (enum a tag ms) = byte 0x43 ∷ head_items a 2 (member_count ms) ++ expr_items tag ++ members_items ms 0x52 8
  type_items (array a jagged size element) = byte 0x44 ∷ head_items a 1 jagged ++ expr_items size ++ type_items element
  type_items (size_union a ms) = byte 0x45 ∷ head_items a 2 (member_count ms) ++ members_items ms 0x53 8

  -- a member of kind k, whose value has w bytes
  pub member_items : Member → ℕ → ℕ → List Item
  member_items (member n v t) k w = byte k ∷ name n ∷ number_items w v ++ type_items t

  -- members of kind k, whose values have w bytes
  pub members_items : Members → ℕ → ℕ → List Item
  members_items none k w = []
  members_items (more m ms) k w = member_items m k w ++ members_items ms k w

-- a definition
unfoldable pub definition_items : Definition → List Item
definition_items d = byte 0x61 ∷ name d.name ∷ type_items d.type

-- an edge
unfoldable pub edge_items : Edge → List Item
edge_items e = byte 0x62 ∷ name e.from ∷ name e.to ∷ byte e.kind ∷ []

-- a bundle: its header, its definitions, its edges
unfoldable pub bundle_items : Bundle → List Item
bundle_items b =
    byte 0x60 ∷ number_items 2 (length b.definitions) ++ number_items 2 (length b.edges) ++ name b.current
    ∷ flat_map definition_items b.definitions ++ flat_map edge_items b.edges

-- its bytes
unfoldable pub bundle_bytes : Bundle → List ℕ
bundle_bytes b = bytes (bundle_items b)
