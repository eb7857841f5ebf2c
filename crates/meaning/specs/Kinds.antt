-- What a kind byte fixes (document 01, "Bundle records"): where its record may stand, its body and what follows.
use Rattle.std.specs.Prelude.{ℕ, ◌-◌, Bool, true, false, cond, ◌&&◌, List, [], ◌∷◌, ◌++◌, get_or, replicate, leb}

-- an expression: a literal has its body length, a field reference its count of names
pub data ExprForm : Type 0 where
  Literal : ℕ → ExprForm
  FieldRef : ℕ → ExprForm
  Sizeof Alignof Binary Unary : ExprForm

-- a type
pub data TypeForm : Type 0 where
  Primitive TypeRef Struct Union Enum Array SizeUnion : TypeForm

-- what a kind byte stands for
pub data Form : Type 0 where
  OfExpr : ExprForm → Form
  OfType : TypeForm → Form
  OfMember : ℕ → Form  -- a field or variant: the bytes of the value behind its name
  OfRecord : ℕ → ℕ → ℕ → Form  -- a header, definition or edge: the bytes before its names, its names, the bytes behind them
  Unknown : Form

-- a row of the table of kinds: the kinds from the first number to the second, and the form of each
pub data Row : Type 0 where
  row : ℕ → ℕ → (ℕ → Form) → Row

-- the form of kind k by the first row that has it
unfoldable pub lookup : List Row → ℕ → Form
lookup [] k = Unknown
lookup (row lo hi form ∷ rows) k = cond (leb lo k && leb k hi) (form k) (lookup rows k)

-- body lengths of the literals 01 to 08: U64, U32, U16, U8, I64, I32, I16, I8
abbrev pub widths : List ℕ
widths = 8 ∷ 4 ∷ 2 ∷ 1 ∷ 8 ∷ 4 ∷ 2 ∷ 1 ∷ []

-- the kinds of the format
abbrev pub kinds : List Row
kinds =
    row 0x01 0x08 (λ k. OfExpr (Literal (get_or widths (k - 1) 0)))
    ∷ row 0x09 0x0C (λ k. OfExpr (FieldRef (k - 8)))
    ∷ row 0x0D 0x0D (λ k. OfExpr Sizeof)
    ∷ row 0x0E 0x0E (λ k. OfExpr Alignof)
    ∷ row 0x10 0x23 (λ k. OfExpr Binary)
    ∷ row 0x24 0x27 (λ k. OfExpr Unary)
    ∷ row 0x30 0x3B (λ k. OfType Primitive)
    ∷ row 0x40 0x40 (λ k. OfType TypeRef)
    ∷ row 0x41 0x41 (λ k. OfType Struct)
    ∷ row 0x42 0x42 (λ k. OfType Union)
    ∷ row 0x43 0x43 (λ k. OfType Enum)
    ∷ row 0x44 0x44 (λ k. OfType Array)
    ∷ row 0x45 0x45 (λ k. OfType SizeUnion)
    ∷ row 0x50 0x51 (λ k. OfMember 0)
    ∷ row 0x52 0x53 (λ k. OfMember 8)
    ∷ row 0x60 0x60 (λ k. OfRecord 4 1 0)
    ∷ row 0x61 0x61 (λ k. OfRecord 0 1 0)
    ∷ row 0x62 0x62 (λ k. OfRecord 0 2 1)
    ∷ []

-- the form of kind byte k
abbrev pub form_of : ℕ → Form
form_of k = lookup kinds k

-- a body of some bytes, then some names, then some bytes: for each part whether it is a name
abbrev pub parts : ℕ → ℕ → ℕ → List Bool
parts before names behind = replicate before false ++ replicate names true ++ replicate behind false

-- the parts of an expression's body
abbrev pub expr_parts : ExprForm → List Bool
expr_parts (Literal w) = parts w 0 0
expr_parts (FieldRef n) = parts 0 n 0
expr_parts Sizeof = parts 0 1 0
expr_parts Alignof = parts 0 1 0
expr_parts Binary = []
expr_parts Unary = []

-- the parts of a type's body: attributes of 9 bytes, then a member count of 2, or jagged
abbrev pub type_parts : TypeForm → List Bool
type_parts Primitive = []
type_parts TypeRef = parts 0 1 0
type_parts Struct = parts 11 0 0
type_parts Union = parts 11 0 0
type_parts Enum = parts 11 0 0
type_parts Array = parts 10 0 0
type_parts SizeUnion = parts 11 0 0

-- the parts of the body of a record of this form; what is no kind has no body
abbrev pub form_parts : Form → List Bool
form_parts (OfExpr f) = expr_parts f
form_parts (OfType f) = type_parts f
form_parts (OfMember w) = parts 0 1 w
form_parts (OfRecord before names behind) = parts before names behind
form_parts Unknown = []

-- the parts of the body of a record of kind k
abbrev pub body : ℕ → List Bool
body k = form_parts (form_of k)
