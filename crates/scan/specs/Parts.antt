-- What the records of a type say, in the order in which the bytes have them: the record of a node before those of what is inside it.
use Rattle.std.specs.Prelude.{ℕ, Bool, true, false, List, [], ◌∷◌, ◌++◌}
use Rattle.meaning.specs.Tree.{Expr, literal, field_ref, sizeof, alignof, binary, unary, Ty, primitive, type_ref, struct, union, enum, array, size_union, Member, member, Members, more}

-- what one record says
pub data Part : Type 0 where
  other : Part
  lead : ℕ → Part  -- a TypeRef leads to the definition of its name
  reference : Part  -- a field reference
  arrayed : ℕ → Part  -- an array: jagged (0 or 1)
  sized : Part  -- a size-discriminated union

-- the records of an expression
abbrev pub expr_parts : Expr → List Part
expr_parts (literal k v) = other ∷ []
expr_parts (field_ref path) = reference ∷ []
expr_parts (sizeof n) = other ∷ []
expr_parts (alignof n) = other ∷ []
expr_parts (binary k l r) = other ∷ expr_parts l ++ expr_parts r
expr_parts (unary k e) = other ∷ expr_parts e

abbrev mutual
  -- the records of a type
  pub type_parts : Ty → List Part
  type_parts (primitive k) = other ∷ []
  type_parts (type_ref n) = lead n ∷ []
  type_parts (struct a ms) = other ∷ members_parts ms
  type_parts (union a ms) = other ∷ members_parts ms
  type_parts (enum a tag ms) = other ∷ expr_parts tag ++ members_parts ms
  type_parts (array a jagged size element) = arrayed jagged ∷ expr_parts size ++ type_parts element
  type_parts (size_union a ms) = sized ∷ members_parts ms

  -- those of a member
  pub member_parts : Member → List Part
  member_parts (member n v t) = other ∷ type_parts t

  -- those of all members
  pub members_parts : Members → List Part
  members_parts Members.none = []
  members_parts (more m ms) = member_parts m ++ members_parts ms

-- a record leads
abbrev pub is_lead : Part → Bool
is_lead other = false
is_lead (lead n) = true
is_lead reference = false
is_lead (arrayed k) = false
is_lead sized = false

-- the names to which they lead
abbrev pub lead_names : List Part → List ℕ
lead_names [] = []
lead_names (other ∷ ps) = lead_names ps
lead_names (lead n ∷ ps) = n ∷ lead_names ps
lead_names (reference ∷ ps) = lead_names ps
lead_names (arrayed k ∷ ps) = lead_names ps
lead_names (sized ∷ ps) = lead_names ps
