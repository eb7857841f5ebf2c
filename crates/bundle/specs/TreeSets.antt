-- Two equal trees are equal in one way only, so a fact about the trees that a bundle has can be a field of a struct.
use Rattle.std.specs.Prelude.{ℕ, List, ◌≡◌}
use mathlib.Core.Path.{refl, sym, ap, ◌∙◌}
use mathlib.Core.HLevel.{collapsible→set}
use native.Mathlib.Nat.{ℕ_set}
use Rattle.std.proofs.Props.{props}
use Rattle.meaning.specs.Tree.{Expr, literal, field_ref, sizeof, alignof, binary, unary}
use Rattle.meaning.specs.Tree.{Attributes, Ty, primitive, type_ref, struct, union, enum, array, size_union}
use Rattle.meaning.specs.Tree.{Member, member, Members, none, more}

-- the trees of all kinds as one type
data Copy : Type 0 where
  literal' : ℕ → ℕ → Copy
  field_ref' : List ℕ → Copy
  sizeof' : ℕ → Copy
  alignof' : ℕ → Copy
  binary' : ℕ → Copy → Copy → Copy
  unary' : ℕ → Copy → Copy
  primitive' : ℕ → Copy
  type_ref' : ℕ → Copy
  struct' : Attributes → Copy → Copy
  union' : Attributes → Copy → Copy
  enum' : Attributes → Copy → Copy → Copy
  array' : Attributes → ℕ → Copy → Copy → Copy
  size_union' : Attributes → Copy → Copy
  none' : Copy
  more' : ℕ → ℕ → Copy → Copy → Copy
  deriving IsSet as Copy-set'

abbrev of_expr : Expr → Copy
of_expr (literal k n) = literal' k n
of_expr (field_ref ns) = field_ref' ns
of_expr (sizeof n) = sizeof' n
of_expr (alignof n) = alignof' n
of_expr (binary k l r) = binary' k (of_expr l) (of_expr r)
of_expr (unary k e) = unary' k (of_expr e)

abbrev mutual
  of_ty : Ty → Copy
  of_ty (primitive k) = primitive' k
  of_ty (type_ref n) = type_ref' n
  of_ty (struct a ms) = struct' a (of_members ms)
  of_ty (union a ms) = union' a (of_members ms)
  of_ty (enum a e ms) = enum' a (of_expr e) (of_members ms)
  of_ty (array a j e t) = array' a j (of_expr e) (of_ty t)
  of_ty (size_union a ms) = size_union' a (of_members ms)

  of_members : Members → Copy
  of_members none = none'
  of_members (more (member n v t) ms) = more' n v (of_ty t) (of_members ms)

-- the expression, type and members of which it is the copy, and any where it is of none
abbrev back : Copy → Expr × (Ty × Members)
back (literal' k n) = (literal k n, (primitive 0, none))
back (field_ref' ns) = (field_ref ns, (primitive 0, none))
back (sizeof' n) = (sizeof n, (primitive 0, none))
back (alignof' n) = (alignof n, (primitive 0, none))
back (binary' k l r) = (binary k (back l).0 (back r).0, (primitive 0, none))
back (unary' k e) = (unary k (back e).0, (primitive 0, none))
back (primitive' k) = (sizeof 0, (primitive k, none))
back (type_ref' n) = (sizeof 0, (type_ref n, none))
back (struct' a ms) = (sizeof 0, (struct a (back ms).1.1, none))
back (union' a ms) = (sizeof 0, (union a (back ms).1.1, none))
back (enum' a e ms) = (sizeof 0, (enum a (back e).0 (back ms).1.1, none))
back (array' a j e t) = (sizeof 0, (array a j (back e).0 (back t).1.0, none))
back (size_union' a ms) = (sizeof 0, (size_union a (back ms).1.1, none))
back none' = (sizeof 0, (primitive 0, none))
back (more' n v t ms) = (sizeof 0, (primitive 0, more (member n v (back t).1.0) (back ms).1.1))

back_expr : (e : Expr) → (back (of_expr e)).0 ≡ e
back_expr (literal k n) = refl
back_expr (field_ref ns) = refl
back_expr (sizeof n) = refl
back_expr (alignof n) = refl
back_expr (binary k l r) = λ i. binary k (back_expr l i) (back_expr r i)
back_expr (unary k e) = ap (unary k) (back_expr e)

mutual
  back_ty : (t : Ty) → (back (of_ty t)).1.0 ≡ t
  back_ty (primitive k) = refl
  back_ty (type_ref n) = refl
  back_ty (struct a ms) = ap (struct a) (back_members ms)
  back_ty (union a ms) = ap (union a) (back_members ms)
  back_ty (enum a e ms) = λ i. enum a (back_expr e i) (back_members ms i)
  back_ty (array a j e t) = λ i. array a j (back_expr e i) (back_ty t i)
  back_ty (size_union a ms) = ap (size_union a) (back_members ms)

  back_members : (ms : Members) → (back (of_members ms)).1.1 ≡ ms
  back_members none = refl
  back_members (more (member n v t) ms) = λ i. more (member n v (back_ty t i)) (back_members ms i)

Attributes-set : IsSet Attributes
Attributes-set = Prim.hlevel (ℕ_set)

Copy-set : IsSet Copy
Copy-set = Copy-set' ℕ_set (Prim.hlevel (props)) Attributes-set

pub Ty-set : IsSet Ty
Ty-set = collapsible→set (λ x y p. sym (back_ty x) ∙ ap (λ c. (back c).1.0) (ap of_ty p) ∙ back_ty y) (λ x y p q. ap (λ (r : of_ty x ≡ of_ty y). sym (back_ty x) ∙ ap (λ c. (back c).1.0) r ∙ back_ty y) (Copy-set (of_ty x) (of_ty y) (ap of_ty p) (ap of_ty q)))
