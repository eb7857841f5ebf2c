-- The names of a bundle, and a bundle with every name put through a map (document 01, "Renumbering").
use Rattle.std.specs.Prelude.{ℕ, List, [], ◌∷◌, ◌++◌, map}
use Rattle.meaning.specs.Tree.{Expr, literal, field_ref, sizeof, alignof, binary, unary, Ty, primitive, type_ref, struct, union, enum, array, size_union, Member, member, Members, more, Definition, Edge, Bundle}
use Rattle.meaning.specs.Lists.{flat_map}
use Rattle.meaning.specs.Violations.{Violation}

-- the names of an expression, front to back
abbrev pub expr_names : Expr → List ℕ
expr_names (literal k v) = []
expr_names (field_ref path) = path
expr_names (sizeof n) = n ∷ []
expr_names (alignof n) = n ∷ []
expr_names (binary k l r) = expr_names l ++ expr_names r
expr_names (unary k e) = expr_names e

-- the names of a type, front to back
abbrev mutual
  pub ty_names : Ty → List ℕ
  ty_names (primitive k) = []
  ty_names (type_ref n) = n ∷ []
  ty_names (struct a ms) = members_names ms
  ty_names (union a ms) = members_names ms
  ty_names (enum a tag ms) = expr_names tag ++ members_names ms
  ty_names (array a jagged size element) = expr_names size ++ ty_names element
  ty_names (size_union a ms) = members_names ms

  -- those of a member
  pub member_names : Member → List ℕ
  member_names (member n v t) = n ∷ ty_names t

  -- those of all members
  pub members_names : Members → List ℕ
  members_names Members.none = []
  members_names (more m ms) = member_names m ++ members_names ms

-- the names of a bundle, front to back: its current name, those of the definitions, those of the edges
abbrev pub bundle_names : Bundle → List ℕ
bundle_names b = b.current ∷ flat_map (λ d. d.name ∷ ty_names d.type) b.definitions ++ flat_map (λ e. e.from ∷ e.to ∷ []) b.edges

-- Every name put through f, and all else kept.

-- in an expression
abbrev pub map_expr : (ℕ → ℕ) → Expr → Expr
map_expr f (literal k v) = literal k v
map_expr f (field_ref path) = field_ref (map f path)
map_expr f (sizeof n) = sizeof (f n)
map_expr f (alignof n) = alignof (f n)
map_expr f (binary k l r) = binary k (map_expr f l) (map_expr f r)
map_expr f (unary k e) = unary k (map_expr f e)

-- in a type
abbrev mutual
  pub map_ty : (ℕ → ℕ) → Ty → Ty
  map_ty f (primitive k) = primitive k
  map_ty f (type_ref n) = type_ref (f n)
  map_ty f (struct a ms) = struct a (map_members f ms)
  map_ty f (union a ms) = union a (map_members f ms)
  map_ty f (enum a tag ms) = enum a (map_expr f tag) (map_members f ms)
  map_ty f (array a jagged size element) = array a jagged (map_expr f size) (map_ty f element)
  map_ty f (size_union a ms) = size_union a (map_members f ms)

  -- in a member
  pub map_member : (ℕ → ℕ) → Member → Member
  map_member f (member n v t) = member (f n) v (map_ty f t)

  -- in all members
  pub map_members : (ℕ → ℕ) → Members → Members
  map_members f Members.none = Members.none
  map_members f (more m ms) = more (map_member f m) (map_members f ms)

-- in a definition
abbrev pub map_definition : (ℕ → ℕ) → Definition → Definition
map_definition f d = record { name = f d.name; type = map_ty f d.type }

-- in an edge
abbrev pub map_edge : (ℕ → ℕ) → Edge → Edge
map_edge f e = record { from = f e.from; to = f e.to; kind = e.kind }

-- in a bundle
abbrev pub map_bundle : (ℕ → ℕ) → Bundle → Bundle
map_bundle f b = record {
  current = f b.current;
  definitions = map (map_definition f) b.definitions;
  edges = map (map_edge f) b.edges;
}

-- the violating name, the path's names and the chain's names put through f, and all else kept
abbrev pub map_violation : (ℕ → ℕ) → Violation → Violation
map_violation f v = record {
  definition = v.definition;
  type = v.type;
  name = f v.name;
  path = map f v.path;
  chain = map f v.chain;
}

-- the names that stand in a violation
abbrev pub violation_names : Violation → List ℕ
violation_names v = v.name ∷ v.path ++ v.chain
