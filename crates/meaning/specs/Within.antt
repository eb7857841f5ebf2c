-- The trees that the format can hold: numbers that fit their bytes, kinds of their ranges, and counts, lengths and depths within the limits.
use Rattle.std.specs.Prelude.{ℕ, suc, ◌-◌, ◌^◌, ◌≤◌, ◌<◌, max, List, [], ◌∷◌, length, get_or}
use Rattle.meaning.specs.Limits.{size_limit, definition_limit, edge_limit, depth_limit}
use Rattle.meaning.specs.Kinds.{widths}
use Rattle.meaning.specs.Tree.{Expr, literal, field_ref, sizeof, alignof, binary, unary}
use Rattle.meaning.specs.Tree.{Ty, primitive, type_ref, struct, union, enum, array, size_union}
use Rattle.meaning.specs.Tree.{Attributes, Member, member, Members, none, more, Definition, Edge, Bundle}
use Rattle.meaning.specs.Encoding.{member_count, bundle_bytes}

-- v fits w bytes
abbrev pub Fits : ℕ → ℕ → Type 0
Fits w v = v < 256 ^ w

-- each of a list
abbrev pub Each : {A : Type 0} → (A → Type 0) → List A → Type 0
Each P [] = Unit {0}
Each P (a ∷ rest) = P a × Each P rest

-- kind k is between lo and hi
abbrev pub Between : ℕ → ℕ → ℕ → Type 0
Between lo hi k = (lo ≤ k) × (k ≤ hi)

-- an expression
abbrev pub ExprOk : Expr → Type 0
ExprOk (literal k v) = Between 0x01 0x08 k × Fits (get_or widths (k - 1) 0) v
ExprOk (field_ref names) = Between 1 4 (length names) × Each (Fits 2) names
ExprOk (sizeof x) = Fits 2 x
ExprOk (alignof x) = Fits 2 x
ExprOk (binary k l r) = Between 0x10 0x23 k × ExprOk l × ExprOk r
ExprOk (unary k e) = Between 0x24 0x27 k × ExprOk e

-- the levels of an expression
abbrev pub expr_depth : Expr → ℕ
expr_depth (literal k v) = 1
expr_depth (field_ref names) = 1
expr_depth (sizeof x) = 1
expr_depth (alignof x) = 1
expr_depth (binary k l r) = suc (max (expr_depth l) (expr_depth r))
expr_depth (unary k e) = suc (expr_depth e)

-- attributes
abbrev pub AttributesOk : Attributes → Type 0
AttributesOk a = (a.packed ≤ 1) × Fits 8 a.aligned

abbrev mutual
  -- a type
  pub TyOk : Ty → Type 0
  TyOk (primitive k) = Between 0x30 0x3B k
  TyOk (type_ref x) = Fits 2 x
  TyOk (struct a ms) = AttributesOk a × Fits 2 (member_count ms) × MembersOk ms 0
  TyOk (union a ms) = AttributesOk a × Fits 2 (member_count ms) × MembersOk ms 0
  TyOk (enum a tag ms) = AttributesOk a × Fits 2 (member_count ms) × ExprOk tag × MembersOk ms 8
  TyOk (array a jagged size element) = AttributesOk a × (jagged ≤ 1) × ExprOk size × TyOk element
  TyOk (size_union a ms) = AttributesOk a × Fits 2 (member_count ms) × MembersOk ms 8

  -- a member whose value has w bytes
  pub MemberOk : Member → ℕ → Type 0
  MemberOk (member name value type) w = Fits 2 name × Fits w value × TyOk type

  -- members whose values have w bytes
  pub MembersOk : Members → ℕ → Type 0
  MembersOk none w = Unit {0}
  MembersOk (more m ms) w = MemberOk m w × MembersOk ms w

abbrev mutual
  -- the levels of a type
  pub ty_depth : Ty → ℕ
  ty_depth (primitive k) = 1
  ty_depth (type_ref x) = 1
  ty_depth (struct a ms) = suc (members_depth ms)
  ty_depth (union a ms) = suc (members_depth ms)
  ty_depth (enum a tag ms) = suc (max (expr_depth tag) (members_depth ms))
  ty_depth (array a jagged size element) = suc (max (expr_depth size) (ty_depth element))
  ty_depth (size_union a ms) = suc (members_depth ms)

  pub member_depth : Member → ℕ
  member_depth (member name value type) = ty_depth type

  pub members_depth : Members → ℕ
  members_depth none = 0
  members_depth (more m ms) = max (member_depth m) (members_depth ms)

-- a definition
abbrev pub DefinitionOk : Definition → Type 0
DefinitionOk d = Fits 2 d.name × TyOk d.type × (ty_depth d.type ≤ depth_limit)

-- an edge
abbrev pub EdgeOk : Edge → Type 0
EdgeOk e = Fits 2 e.from × Fits 2 e.to × (e.kind ≤ 3)

-- a bundle
pub record BundleOk (b : Bundle) : Type 0 where
  pub definitions : (length b.definitions ≤ definition_limit) × Each DefinitionOk b.definitions
  pub edges : (length b.edges ≤ edge_limit) × Each EdgeOk b.edges
  pub current : Fits 2 b.current
  pub size : length (bundle_bytes b) ≤ size_limit
