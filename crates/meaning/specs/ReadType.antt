-- The meaning of a type's bytes.
use Rattle.std.specs.Prelude.{ℕ, zero, suc, ◌+◌, leb}
use Rattle.meaning.specs.Kinds.{TypeForm}
use Rattle.meaning.specs.Kinds.{Primitive, TypeRef, Struct, Union, Enum, Array, SizeUnion}
use Rattle.meaning.specs.Kinds.{Form}
use Rattle.meaning.specs.Kinds.{OfExpr, OfType, OfMember, OfRecord, Unknown}
use Rattle.meaning.specs.Tree.{Expr, Ty, primitive, type_ref, struct, union, enum, array, size_union}
use Rattle.meaning.specs.Tree.{Attributes, Member, member, Members, none, more}
use Rattle.meaning.specs.Reader.{Reader, done, refuse, due, byte, number, check, many, ◌>>=◌, ◌>>◌}
use Rattle.meaning.specs.ReadExpr.{node, only, body, read_expr}

-- the body of a struct, union, enum or array: its attributes, and the number behind them (a member count, or jagged)
pub record Head : Type 0 where
  pub attributes : Attributes
  pub last : ℕ

-- such a body, whose last number has w bytes
unfoldable pub head : ℕ → Reader Head
head w = do
  due (9 + w)
  packed ← byte
  aligned ← number 8
  last ← number w
  check (leb packed 1) 4
  done (record { attributes = record { packed = packed; aligned = aligned }; last = last })

-- name and value (0 where there is none) of a member whose kind has this form
unfoldable pub member_body : Form → Reader (ℕ × ℕ)
member_body (OfMember w) = do
  due (2 + w)
  name ← number 2
  value ← number w
  done (name, value)
member_body (OfExpr f) = refuse 3
member_body (OfType f) = refuse 3
member_body (OfRecord before names behind) = refuse 3
member_body Unknown = refuse 3

-- kind, name and value of a member, whose kind must be m
unfoldable pub member_head : ℕ → Reader (ℕ × ℕ)
member_head m = node (only m member_body)

-- a member of kind m; `inner` reads its type
unfoldable pub read_member : Reader Ty → ℕ → Reader Member
read_member inner m = do
  h ← member_head m
  type ← inner
  done (member h.0 h.1 type)

-- n members of kind m
abbrev pub read_members : Reader Ty → ℕ → ℕ → Reader Members
read_members inner m n = many more none (read_member inner m) n

-- attributes and members
pub record Group : Type 0 where
  pub attributes : Attributes
  pub members : Members

-- the rest of a struct or union, whose members are of kind m
unfoldable pub read_group : Reader Ty → ℕ → Reader Group
read_group inner m = do
  h ← head 2
  members ← read_members inner m h.last
  done (record { attributes = h.attributes; members = members })

-- the rest of an enum
unfoldable pub read_enum : Reader Expr → Reader Ty → Reader Ty
read_enum expr inner = do
  h ← head 2
  tag ← expr
  members ← read_members inner 0x52 h.last
  done (enum h.attributes tag members)

-- the body of an array
unfoldable pub array_head : Reader Head
array_head = do
  h ← head 1
  check (leb h.last 1) 4
  done h

-- the rest of an array
unfoldable pub read_array : Reader Expr → Reader Ty → Reader Ty
read_array expr inner = do
  h ← array_head
  size ← expr
  element ← inner
  done (array h.attributes h.last size element)

-- the type after its kind byte k, whose form is known; `expr` and `inner` read an expression and a type inside it
unfoldable pub type_body : Reader Expr → Reader Ty → ℕ → TypeForm → Reader Ty
type_body expr inner k Primitive = done (primitive k)
type_body expr inner k TypeRef = do
  name ← body 2
  done (type_ref name)
type_body expr inner k Struct = do
  g ← read_group inner 0x50
  done (struct g.attributes g.members)
type_body expr inner k Union = do
  g ← read_group inner 0x51
  done (union g.attributes g.members)
type_body expr inner k Enum = read_enum expr inner
type_body expr inner k Array = read_array expr inner
type_body expr inner k SizeUnion = do
  g ← read_group inner 0x53
  done (size_union g.attributes g.members)

-- the type after its kind byte k
unfoldable pub type_after : Reader Expr → Reader Ty → ℕ → Form → Reader Ty
type_after expr inner k (OfType f) = type_body expr inner k f
type_after expr inner k (OfExpr f) = refuse 3
type_after expr inner k (OfMember w) = refuse 3
type_after expr inner k (OfRecord before names behind) = refuse 3
type_after expr inner k Unknown = refuse 3

-- a type, where d levels are left
unfoldable pub read_ty : ℕ → Reader Ty
read_ty zero = refuse 6
read_ty (suc d) = node (type_after (read_expr d) (read_ty d))
