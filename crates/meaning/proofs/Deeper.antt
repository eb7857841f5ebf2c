-- What is read where some levels are left is read alike where more are left.
--     Refines                one reader reads all that another does, alike
--     expr_deeper, type_deeper      the laws
use Prim.Native.Nat.{ℕ, zero, suc, ◌≤◌}
use native.Mathlib.Nat.{not-suc-le-zero, le_of_suc-le-suc}
use native.Mathlib.Omega.{arith}
use mathlib.Core.Path.{◌≡◌}
use mathlib.Core.List.{List}
use Rattle.meaning.specs.Kinds.{ExprForm, Literal, FieldRef, Sizeof, Alignof, Binary, Unary}
use Rattle.meaning.specs.Kinds.{TypeForm, Primitive, TypeRef, Struct, Union, Enum, Array, SizeUnion}
use Rattle.meaning.specs.Kinds.{Form, OfExpr, OfType, OfMember, OfRecord, Unknown, form_of}
use Rattle.meaning.specs.Tree.{Expr, Ty}
use Rattle.meaning.specs.Reader.{ok, Reader, after, many}
use Rattle.meaning.specs.ReadExpr.{kind, read_expr, expr_after, expr_body}
use Rattle.meaning.specs.ReadType.{member_head, read_member, read_members, head, array_head, read_group, read_enum, read_array, type_body, type_after, read_ty}
use Rattle.meaning.proofs.Readings.{went}

-- what r reads, q reads alike
abbrev Refines : {A : Type 0} → Reader A → Reader A → Type 0
Refines {A} r q = (s : List ℕ) (at : ℕ) (a : A) (m : ℕ) → r s at ≡ ok a m → q s at ≡ ok a m

same : {A : Type 0} (r : Reader A) → Refines r r
same r s at a m e = e

-- one reader after another
bind : {A B : Type 0} (r q : Reader A) (f g : A → Reader B) → Refines r q → ((a : A) → Refines (f a) (g a))
    → Refines (λ s at. after (r s at) f s) (λ s at. after (q s at) g s)
bind r q f g h k s at b n e =
    let w = went (r s at) f s b n e in
    rw (h s at w.value w.middle w.first) (k w.value s w.middle b n w.then)

many_refines : {A B : Type 0} (cons : A → B → B) (nil : B) (r q : Reader A) → Refines r q → (n : ℕ) → Refines (many cons nil r n) (many cons nil q n)
unfolding many
many_refines cons nil r q h zero s at b m e = e
many_refines cons nil r q h (suc n) s at b m e = bind r q _ _ h (λ a. bind _ _ _ _ (many_refines cons nil r q h n) (λ c. same _)) s at b m e

module _ (r q : Reader Expr) (h : Refines r q) where
  body_refines : (k : ℕ) (f : ExprForm) → Refines (expr_body r k f) (expr_body q k f)
  unfolding expr_body
  body_refines k (Literal w) = same _
  body_refines k (FieldRef n) = same _
  body_refines k Sizeof = same _
  body_refines k Alignof = same _
  body_refines k Binary = bind r q _ _ h (λ a. bind r q _ _ h (λ b. same _))
  body_refines k Unary = bind r q _ _ h (λ a. same _)

  after_refines : (k : ℕ) (f : Form) → Refines (expr_after r k f) (expr_after q k f)
  unfolding expr_after
  after_refines k (OfExpr f) = body_refines k f
  after_refines k (OfType f) = same _
  after_refines k (OfMember w) = same _
  after_refines k (OfRecord before names behind) = same _
  after_refines k Unknown = same _

expr_deeper : (d e : ℕ) → d ≤ e → Refines (read_expr d) (read_expr e)
unfolding read_expr
expr_deeper zero e l = λ s at a m p. let z : ◌≡◌ {A = ℕ} 0 1 = cc in absurd (omega arith)
expr_deeper (suc d) zero l = absurd (not-suc-le-zero l)
expr_deeper (suc d) (suc e) l =
    bind kind kind _ _ (same kind) (λ k. after_refines (read_expr d) (read_expr e) (expr_deeper d e (le_of_suc-le-suc l)) k (form_of k))

module _ (x y : Reader Expr) (i : Refines x y) (r q : Reader Ty) (h : Refines r q) where
  members_refine : (k n : ℕ) → Refines (read_members r k n) (read_members q k n)
  unfolding read_member
  members_refine k n = many_refines _ _ _ _ (bind (member_head k) _ _ _ (same _) (λ v. bind r q _ _ h (λ t. same _))) n

  group_refines : (k : ℕ) → Refines (read_group r k) (read_group q k)
  unfolding read_group
  group_refines k = bind (head 2) _ _ _ (same _) (λ v. bind _ _ _ _ (members_refine k v.last) (λ ms. same _))

  type_body_refines : (k : ℕ) (f : TypeForm) → Refines (type_body x r k f) (type_body y q k f)
  unfolding type_body read_enum read_array
  type_body_refines k Primitive = same _
  type_body_refines k TypeRef = same _
  type_body_refines k Struct = bind _ _ _ _ (group_refines 0x50) (λ g. same _)
  type_body_refines k Union = bind _ _ _ _ (group_refines 0x51) (λ g. same _)
  type_body_refines k Enum = bind (head 2) _ _ _ (same _) (λ v. bind x y _ _ i (λ t. bind _ _ _ _ (members_refine 0x52 v.last) (λ ms. same _)))
  type_body_refines k Array = bind array_head _ _ _ (same _) (λ v. bind x y _ _ i (λ z. bind r q _ _ h (λ t. same _)))
  type_body_refines k SizeUnion = bind _ _ _ _ (group_refines 0x53) (λ g. same _)

  type_after_refines : (k : ℕ) (f : Form) → Refines (type_after x r k f) (type_after y q k f)
  unfolding type_after
  type_after_refines k (OfType f) = type_body_refines k f
  type_after_refines k (OfExpr f) = same _
  type_after_refines k (OfMember w) = same _
  type_after_refines k (OfRecord before names behind) = same _
  type_after_refines k Unknown = same _

pub type_deeper : (d e : ℕ) → d ≤ e → Refines (read_ty d) (read_ty e)
unfolding read_ty
type_deeper zero e l = λ s at a m p. let z : ◌≡◌ {A = ℕ} 0 1 = cc in absurd (omega arith)
type_deeper (suc d) zero l = absurd (not-suc-le-zero l)
type_deeper (suc d) (suc e) l =
    bind kind kind _ _ (same kind)
    (λ k. type_after_refines (read_expr d) (read_expr e) (expr_deeper d e (le_of_suc-le-suc l)) (read_ty d) (read_ty e) (type_deeper d e (le_of_suc-le-suc l)) k (form_of k))
