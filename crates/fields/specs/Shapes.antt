-- What the shapes, fields and places that the code answers say of the tree.
use Rattle.std.specs.Prelude.{Ok}
use Rattle.std.specs.Prelude.{ℕ, ◌+◌, ◌-◌, ◌≤◌, ◌<◌, Bool, true, false, List, ◌≡◌, length, get_or}
use Rattle.std.proofs.Math.Option.{Option, none, some}
use Rattle.fields.specs.declared.Shape.{Shape}
use Rattle.fields.specs.declared.Shape.TheVariants as shape
use Rattle.fields.specs.declared.Field.{Field}
use Rattle.fields.specs.declared.Place.{Place}
use Rattle.meaning.specs.Lookup.{definition_of, find_type}
use Rattle.meaning.specs.Tree.{Attributes, Ty, primitive, type_ref, struct, union, enum, array, size_union, Member, member, Members}
use Rattle.meaning.specs.Reader.{little}
use Rattle.meaning.specs.ReadExpr.{read_expr}
use Rattle.meaning.specs.ReadType.{read_ty, read_member, read_members}
use Rattle.bundle.specs.View.{step_of, Reads, value_or}
use Rattle.bundle.specs.Definitions.{type_at, members_at, bundle_of}
use Rattle.bundle.specs.Expressions.{expr_at}

-- a struct of n fields
pub record StructAt (d : ℕ) (s : List ℕ) (at n : ℕ) : Type 0 where
  pub attributes : Attributes
  pub reads : Reads (read_members (read_ty (d - 1)) 0x50 n s (at + 12))
  pub tree : type_at d s at ≡ struct attributes (members_at (d - 1) 0x50 n s (at + 12))
  pub ends : step_of (read_ty d s at) ≡ step_of (read_members (read_ty (d - 1)) 0x50 n s (at + 12))
  pub inside : at + 12 ≤ length s

-- an enum, whose tag starts behind its body
pub record EnumAt (d : ℕ) (s : List ℕ) (at : ℕ) : Type 0 where
  pub attributes : Attributes
  pub variants : Members
  pub reads : Reads (read_expr (d - 1) s (at + 12))
  pub tree : type_at d s at ≡ enum attributes (expr_at (d - 1) s (at + 12)) variants
  pub inside : at + 12 ≤ length s

-- an array, whose size starts behind its body and whose element starts at `element`
pub record ArrayAt (d : ℕ) (s : List ℕ) (at : ℕ) : Type 0 where
  pub attributes : Attributes
  pub element : ℕ
  pub size : Ok element ≡ step_of (read_expr (d - 1) s (at + 11))
  pub reads : Reads (read_ty (d - 1) s element)
  pub tree : type_at d s at ≡ array attributes (get_or s (at + 10) 0) (expr_at (d - 1) s (at + 11)) (type_at (d - 1) s element)
  pub inside : at + 11 ≤ length s

-- a primitive, a union or a size-discriminated union
abbrev pub is_plain : Ty → Bool
is_plain (primitive k) = true
is_plain (type_ref n) = false
is_plain (struct a ms) = false
is_plain (union a ms) = true
is_plain (enum a tag ms) = false
is_plain (array a jagged size element) = false
is_plain (size_union a ms) = true

-- what each shape says of the type at a position
abbrev pub ShapeOf : ℕ → List ℕ → ℕ → Shape → Type 0
ShapeOf d s at (shape.Struct n) = StructAt d s at n
ShapeOf d s at shape.Enum = EnumAt d s at
ShapeOf d s at shape.Array = ArrayAt d s at
ShapeOf d s at (shape.TypeRef n) = type_at d s at ≡ type_ref n
ShapeOf d s at shape.Plain = is_plain (type_at d s at) ≡ true

-- the name that a shape refers to
abbrev pub ref_shown : Shape → Option ℕ
ref_shown (shape.Struct n) = none
ref_shown shape.Enum = none
ref_shown shape.Array = none
ref_shown (shape.TypeRef n) = some n
ref_shown shape.Plain = none

-- the field at a position: its name, where its type starts and where that ends
pub record FieldAt (d : ℕ) (s : List ℕ) (at : ℕ) (f : Field) : Type 0 where
  pub reads : Reads (read_ty d s f.at)
  pub ends : Ok f.next ≡ step_of (read_member (read_ty d) 0x50 s at)
  pub value : ℕ
  pub is : (z : Member) → value_or z (read_member (read_ty d) 0x50 s at) ≡ member f.name value (type_at d s f.at)

-- the name and the position of definition i
pub record PlacedAt (s places : List ℕ) (i : ℕ) (p : Place) : Type 0 where
  pub at : p.at ≡ get_or places i 0
  pub name : p.name ≡ little s (get_or places i 0 - 2) 2

-- the first definition of the name x has the number i, and its type stands at a position
pub record DefinitionIs (s : List ℕ) (n x i at : ℕ) : Type 0 where
  pub number : i ≡ definition_of (bundle_of s) x
  pub below : i < n
  pub reads : Reads (read_ty 24 s at)
  pub is : find_type (bundle_of s) x ≡ some (type_at 24 s at)
