-- The field references inside expressions and types, and which expressions are constant (document 01, "References in expressions").
use Rattle.std.specs.Prelude.{ℕ, List, [], ◌∷◌, ◌++◌, Bool, true, false, ◌&&◌}
use Rattle.meaning.specs.Tree.{Expr, literal, field_ref, sizeof, alignof, binary, unary, Ty, primitive, type_ref, struct, union, enum, array, size_union, Member, member, Members, more}

-- the field references of an expression, left before right
abbrev pub collect_field_references_recursive : Expr → List (List ℕ)
collect_field_references_recursive (literal k v) = []
collect_field_references_recursive (field_ref path) = path ∷ []
collect_field_references_recursive (sizeof n) = []
collect_field_references_recursive (alignof n) = []
collect_field_references_recursive (binary k l r) = collect_field_references_recursive l ++ collect_field_references_recursive r
collect_field_references_recursive (unary k e) = collect_field_references_recursive e

-- no field reference is inside
abbrev pub is_constant : Expr → Bool
is_constant (literal k v) = true
is_constant (field_ref path) = false
is_constant (sizeof n) = true
is_constant (alignof n) = true
is_constant (binary k l r) = is_constant l && is_constant r
is_constant (unary k e) = is_constant e

abbrev mutual
  -- the field references of a type: TypeRefs are not followed, and size-discriminated unions are skipped
  pub collect_field_references_in_type_kind : Ty → List (List ℕ)
  collect_field_references_in_type_kind (primitive k) = []
  collect_field_references_in_type_kind (type_ref n) = []
  collect_field_references_in_type_kind (struct a ms) = references_in_members ms
  collect_field_references_in_type_kind (union a ms) = references_in_members ms
  collect_field_references_in_type_kind (enum a tag ms) = collect_field_references_recursive tag ++ references_in_members ms
  collect_field_references_in_type_kind (array a jagged size element) = collect_field_references_recursive size ++ collect_field_references_in_type_kind element
  collect_field_references_in_type_kind (size_union a ms) = []

  -- those of a member's type
  pub references_in_member : Member → List (List ℕ)
  references_in_member (member n v t) = collect_field_references_in_type_kind t

  -- those of all members
  pub references_in_members : Members → List (List ℕ)
  references_in_members Members.none = []
  references_in_members (more m ms) = references_in_member m ++ references_in_members ms
