-- The names to which the records of a type lead are those to which its tree leads.
use mathlib.Core.Path.{◌≡◌, refl, ap, ap₂, ◌∙◌}
use mathlib.Core.List.{List, [], ◌∷◌, ◌++◌}
use Rattle.meaning.specs.Tree.{Expr, literal, field_ref, sizeof, alignof, binary, unary, Ty, primitive, type_ref, struct, union, enum, array, size_union, Member, member, Members, more}
use Rattle.meaning.specs.Circle.{type_names, type_names_of_member, type_names_of_members}
use Rattle.scan.specs.Parts.{Part, other, lead, reference, arrayed, sized, expr_parts, type_parts, member_parts, members_parts, lead_names}

-- one part after another
pub names_append : (ps qs : List Part) → lead_names (ps ++ qs) ≡ lead_names ps ++ lead_names qs
names_append [] qs = refl
names_append (other ∷ ps) qs = names_append ps qs
names_append (lead n ∷ ps) qs = ap (n ∷◌) (names_append ps qs)
names_append (reference ∷ ps) qs = names_append ps qs
names_append (arrayed k ∷ ps) qs = names_append ps qs
names_append (sized ∷ ps) qs = names_append ps qs

-- an expression leads nowhere
expr_names_lem : (e : Expr) → lead_names (expr_parts e) ≡ []
expr_names_lem (literal k v) = refl
expr_names_lem (field_ref path) = refl
expr_names_lem (sizeof n) = refl
expr_names_lem (alignof n) = refl
expr_names_lem (binary k l r) = names_append (expr_parts l) (expr_parts r) ∙ ap₂ ◌++◌ (expr_names_lem l) (expr_names_lem r)
expr_names_lem (unary k e) = expr_names_lem e

expr_then : (e : Expr) (ps : List Part) → lead_names (expr_parts e ++ ps) ≡ lead_names ps
expr_then e ps = names_append (expr_parts e) ps ∙ ap (◌++ lead_names ps) (expr_names_lem e)

mutual
  pub type_names_lem : (t : Ty) → lead_names (type_parts t) ≡ type_names t
  type_names_lem (primitive k) = refl
  type_names_lem (type_ref n) = refl
  type_names_lem (struct a ms) = members_names_lem ms
  type_names_lem (union a ms) = members_names_lem ms
  type_names_lem (enum a tag ms) = expr_then tag (members_parts ms) ∙ members_names_lem ms
  type_names_lem (array a jagged size element) = expr_then size (type_parts element) ∙ type_names_lem element
  type_names_lem (size_union a ms) = members_names_lem ms

  member_names_lem : (m : Member) → lead_names (member_parts m) ≡ type_names_of_member m
  member_names_lem (member n v t) = type_names_lem t

  members_names_lem : (ms : Members) → lead_names (members_parts ms) ≡ type_names_of_members ms
  members_names_lem Members.none = refl
  members_names_lem (more m ms) = names_append (member_parts m) (members_parts ms) ∙ ap₂ ◌++◌ (member_names_lem m) (members_names_lem ms)
