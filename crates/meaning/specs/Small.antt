-- The small bundles and types that the examples of document 01 speak of ("Bench examples").
use Rattle.std.specs.Prelude.{ℕ, List, [], ◌∷◌}
use Rattle.meaning.specs.Tree.{Expr, literal, field_ref, Attributes, Ty, primitive, enum, array, member, Members, more, Edge, Bundle}

-- an edge of kind 0; a bundle of edges alone
abbrev pub edge : ℕ → ℕ → Edge
edge from to = record { from = from; to = to; kind = 0 }

abbrev pub edges : List Edge → Bundle
edges es = record { current = 0; definitions = []; edges = es }

-- a bundle of definition 1 alone
abbrev pub one : Ty → Bundle
one t = record { current = 0; definitions = record { name = 1; type = t } ∷ []; edges = [] }

-- U8, I8; the literal 3; a reference to the field 2
abbrev pub u8 : Ty
u8 = primitive 0x30

abbrev pub i8 : Ty
i8 = primitive 0x34

abbrev pub three : Expr
three = literal 0x04 3

abbrev pub field : Expr
field = field_ref (2 ∷ [])

-- neither packed nor aligned
abbrev pub plain : Attributes
plain = record { packed = 0; aligned = 0 }

-- an enum with such a tag and variants of such types
abbrev pub variants : List Ty → Members
variants [] = Members.none
variants (t ∷ ts) = more (member 7 0 t) (variants ts)

abbrev pub tagged : Expr → List Ty → Ty
tagged tag ts = enum plain tag (variants ts)

-- an array of three arrays whose size is a field
abbrev pub nested : Ty
nested = array plain 0 three (array plain 0 field u8)

-- a jagged array of three
abbrev pub jagged : Ty → Ty
jagged element = array plain 1 three element

-- the bytes of a jagged array of three U8, defined as name 1, and its tree
abbrev pub sample : List ℕ
sample = 0x60 ∷ 1 ∷ 0 ∷ 0 ∷ 0 ∷ 0 ∷ 0 ∷ 0x61 ∷ 1 ∷ 0 ∷ 0x44 ∷ 0 ∷ 0 ∷ 0 ∷ 0 ∷ 0 ∷ 0 ∷ 0 ∷ 0 ∷ 0 ∷ 1 ∷ 0x04 ∷ 3 ∷ 0x30 ∷ []

abbrev pub sample_tree : Bundle
sample_tree = one (jagged u8)
