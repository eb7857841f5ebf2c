-- The records of an expression, type or list of members that was read lie one after another. Stated once, for whatever a scan over
-- them hands out.
--     Scan                                what a scan hands out: for a run of records, for one record, and for a tree
--     expr_flat, type_flat, members_flat  the laws: for what was read a scan hands out what it hands out for the tree
use Rattle.std.specs.Prelude.{Ok, Result}
use Prim.Native.Nat.{ℕ, zero, suc, ◌+◌, ◌-◌, ◌*◌, ◌≤◌, ◌<◌}
use native.Mathlib.Omega.{arith}
use mathlib.Core.Bool.{false}
use mathlib.Core.Path.{◌≡◌, refl, ◌∙◌}
use mathlib.Core.List.{List, [], ◌++◌}
use lib.ListN.{length, get_or}
use Rattle.refusal.specs.declared.Refusal.{Refusal}
use Rattle.meaning.specs.Kinds.{ExprForm, Literal, FieldRef, Sizeof, Alignof, Binary, Unary}
use Rattle.meaning.specs.Kinds.{Primitive, TypeRef, Struct, Union, Enum, Array, SizeUnion}
use Rattle.meaning.specs.Kinds.{Form, OfExpr, OfType, OfMember, OfRecord, Unknown}
use Rattle.meaning.specs.Reader.{little, many, names_from}
use Rattle.meaning.specs.ReadExpr.{read_expr, body}
use Rattle.meaning.specs.ReadType.{head, member_head, read_members, read_ty}
use Rattle.meaning.specs.Tree.{Attributes, Expr, literal, field_ref, sizeof, alignof, binary, unary}
use Rattle.meaning.specs.Tree.{Ty, primitive, type_ref, struct, union, enum, array, size_union, member, Members, none, more}
use Rattle.bundle.specs.View.{step_of, count_of, Reads}
use Rattle.bundle.specs.Definitions.{type_at, members_at}
use Rattle.bundle.specs.Expressions.{expr_at}
use Rattle.bundle.proofs.ExprLaws.{Opened, literal_ends, field_ref_ends, sizeof_ends, alignof_ends, unary_ends, binary_ends}
use Rattle.bundle.proofs.Trees.{ended_reads, ended, expr_deep, expr_there, tree_other, literal_tree, field_ref_tree, sizeof_tree, alignof_tree, unary_tree, left_reads, binary_tree}
use Rattle.bundle.proofs.TypeLaws.{primitive_ends, type_ref_ends}
use Rattle.bundle.proofs.TypeTrees.{type_deep, type_there, no_other, primitive_tree}
use Rattle.bundle.proofs.PartTrees.{member_type_reads, members_split}
use Rattle.bundle.proofs.Heads.{body_where, counted_head, member_where}
use Rattle.bundle.proofs.Parts.{type_ref_is, GroupParts, struct_parts, struct_count, union_parts, union_count, size_union_parts, size_union_count, enum_at, array_at, own_reads, others_end}
use Rattle.scan.specs.Scan.{record_length, is_size_union, form_at}

-- two ends of the same
next_same : {m n : ℕ} → ◌≡◌ {A = Result ℕ Refusal} (Ok m) (Ok n) → m ≡ n
next_same e = cc

-- what a scan over the bytes hands out, of types with at most so many levels
pub record Scan (s : List ℕ) (limit : ℕ) (A : Type 0) : Type 1 where
  -- from a position to another there are records for which it hands out these: some after others, none, and one
  pub Flat : ℕ → ℕ → List A → Type 0
  pub forward : (at m : ℕ) (xs : List A) → Flat at m xs → at ≤ m
  pub bound : (at m : ℕ) (xs : List A) → Flat at m xs → m ≤ length s
  pub both : (at i m : ℕ) (xs ys : List A) → Flat at i xs → Flat i m ys → Flat at m (xs ++ ys)
  pub empty : (at : ℕ) → at ≤ length s → Flat at at []
  pub one : ℕ → Form → List A
  pub single : (at m : ℕ) (f : Form) → form_at s at ≡ f → is_size_union f ≡ false → m ≡ at + record_length f → m ≤ length s → Flat at m (one at f)
  -- for a tree
  pub of_expr : Expr → List A
  pub of_type : Ty → List A
  pub of_members : Members → List A
  -- that is what it hands out for the record of the node, and behind that for its parts
  pub literal_is : (at w k v : ℕ) → of_expr (literal k v) ≡ one at (OfExpr (Literal w))
  pub field_ref_is : (at n : ℕ) → of_expr (field_ref (names_from s (at + 1) n)) ≡ one at (OfExpr (FieldRef n))
  pub sizeof_is : (at n : ℕ) → of_expr (sizeof n) ≡ one at (OfExpr Sizeof)
  pub alignof_is : (at n : ℕ) → of_expr (alignof n) ≡ one at (OfExpr Alignof)
  pub binary_is : (at k : ℕ) (l r : Expr) → of_expr (binary k l r) ≡ one at (OfExpr Binary) ++ (of_expr l ++ of_expr r)
  pub unary_is : (at k : ℕ) (e : Expr) → of_expr (unary k e) ≡ one at (OfExpr Unary) ++ of_expr e
  pub primitive_is : (at k : ℕ) → of_type (primitive k) ≡ one at (OfType Primitive)
  pub lead_is : (at : ℕ) → of_type (type_ref (little s (at + 1) 2)) ≡ one at (OfType TypeRef)
  pub struct_is : (at : ℕ) (a : Attributes) (ms : Members) → of_type (struct a ms) ≡ one at (OfType Struct) ++ of_members ms
  pub union_is : (at : ℕ) (a : Attributes) (ms : Members) → of_type (union a ms) ≡ one at (OfType Union) ++ of_members ms
  pub enum_is : (at : ℕ) (a : Attributes) (tag : Expr) (ms : Members) → of_type (enum a tag ms) ≡ one at (OfType Enum) ++ (of_expr tag ++ of_members ms)
  pub array_is : (at : ℕ) (a : Attributes) (size : Expr) (t : Ty) → of_type (array a (get_or s (at + 10) 0) size t) ≡ one at (OfType Array) ++ (of_expr size ++ of_type t)
  pub none_is : of_members none ≡ []
  pub more_is : (at w n v : ℕ) (t : Ty) (ms : Members) → of_members (more (member n v t) ms) ≡ one at (OfMember w) ++ (of_type t ++ of_members ms)
  -- for a size-discriminated union that was read, by its members
  pub size_union_is : (d at i m : ℕ) (a : Attributes) (ms : Members) → d ≤ limit → form_at s at ≡ OfType SizeUnion → Ok m ≡ step_of (read_ty d s at)
      → i ≡ at + record_length (OfType SizeUnion) → Flat i m (of_members ms) → Flat at m (of_type (size_union a ms))

module _ {s : List ℕ} {limit : ℕ} {A : Type 0} (x : Scan s limit A) where
  -- one record, and those behind it
  headed : {at n m : ℕ} {xs : List A} (f : Form) → form_at s at ≡ f → is_size_union f ≡ false → n ≡ at + record_length f → x.Flat n m xs → x.Flat at m (x.one at f ++ xs)
  headed {at} {n} {m} {xs} f p u q b =
      x.both at n m (x.one at f) xs (x.single at n f p u q (omega (arith, x.forward n m xs b, x.bound n m xs b))) b

  -- the law of expressions, where d levels are left
  abbrev ExprFlat : ℕ → Type 0
  ExprFlat d = (at m : ℕ) → Ok m ≡ step_of (read_expr d s at) → x.Flat at m (x.of_expr (expr_at d s at))

  -- a node, by the law of what is inside it
  module _ (d at m : ℕ) (e : Ok m ≡ step_of (read_expr d s at)) (inner : ExprFlat (d - 1)) where
    r : Reads (read_expr d s at)
    r = ended_reads (read_expr d s at) m e

    o : Opened d at s (form_at s at)
    o = record { deep = expr_deep d at s r; there = expr_there d at s r; form = refl }

    -- a record with nothing inside it
    leaf : (f : ExprForm) → form_at s at ≡ OfExpr f → (w : ℕ) → record_length (OfExpr f) ≡ 1 + w → Ok m ≡ step_of (body w s (at + 1)) → x.Flat at m (x.one at (OfExpr f))
    unfolding is_size_union
    leaf f p w q g = let b = body_where w (at + 1) m s g in x.single at m (OfExpr f) p refl (omega (arith, b.0, q)) (omega (arith, b.0, b.1))

    expr_node : (f : Form) → form_at s at ≡ f → x.Flat at m (x.of_expr (expr_at d s at))
    unfolding record_length is_size_union
    expr_node (OfExpr (Literal w)) p = rw (literal_tree o r w p, x.literal_is at w) (leaf (Literal w) p w refl (e ∙ literal_ends o w p))
    expr_node (OfExpr (FieldRef n)) p = rw (field_ref_tree o r n p, x.field_ref_is at n) (leaf (FieldRef n) p (2 * n) refl (e ∙ field_ref_ends o n p))
    expr_node (OfExpr Sizeof) p = rw (sizeof_tree o r p, x.sizeof_is at) (leaf Sizeof p 2 refl (e ∙ sizeof_ends o p))
    expr_node (OfExpr Alignof) p = rw (alignof_tree o r p, x.alignof_is at) (leaf Alignof p 2 refl (e ∙ alignof_ends o p))
    expr_node (OfExpr Binary) p =
        let left = ended (read_expr (d - 1) s (at + 1)) (left_reads o r p) in
        let g = inner (at + 1) left.0 left.1 in
        let h = inner left.0 m (e ∙ binary_ends o left.0 p left.1) in
        rw (binary_tree o r p left.0 left.1, x.binary_is at) (headed (OfExpr Binary) p refl refl (x.both _ _ _ _ _ g h))
    expr_node (OfExpr Unary) p = rw (unary_tree o r p, x.unary_is at) (headed (OfExpr Unary) p refl refl (inner (at + 1) m (e ∙ unary_ends o p)))
    expr_node (OfType f) p = absurd (tree_other o r (λ f q. let z : ◌≡◌ {A = ℕ} 0 1 = cc in omega arith))
    expr_node (OfMember w) p = absurd (tree_other o r (λ f q. let z : ◌≡◌ {A = ℕ} 0 1 = cc in omega arith))
    expr_node (OfRecord f g h) p = absurd (tree_other o r (λ f q. let z : ◌≡◌ {A = ℕ} 0 1 = cc in omega arith))
    expr_node Unknown p = absurd (tree_other o r (λ f q. let z : ◌≡◌ {A = ℕ} 0 1 = cc in omega arith))

  pub expr_flat : (d : ℕ) → ExprFlat d
  expr_flat zero = λ at m e. absurd (expr_deep 0 at s (ended_reads (read_expr 0 s at) m e) refl)
  expr_flat (suc d) = λ at m e. let q : suc d - 1 ≡ d = omega arith in expr_node (suc d) at m e (rw q (expr_flat d)) (form_at s at) refl

  -- the law of types, where d levels are left
  abbrev TypeFlat : ℕ → Type 0
  TypeFlat d = (at m : ℕ) → Ok m ≡ step_of (read_ty d s at) → x.Flat at m (x.of_type (type_at d s at))

  -- n members of kind k, by the law of their types
  module _ (d : ℕ) (inner : TypeFlat d) (k : ℕ) where
    -- the law of n members
    abbrev MembersFlat : ℕ → ℕ → ℕ → Type 0
    MembersFlat n at m = at ≤ length s → Ok m ≡ step_of (read_members (read_ty d) k n s at) → x.Flat at m (x.of_members (members_at d k n s at))

    -- the first of them
    member_step : (n at m : ℕ) → 0 < n → ((i : ℕ) → MembersFlat (n - 1) i m) → MembersFlat n at m
    unfolding record_length is_size_union
    member_step n at m l later b e =
        let r = ended_reads (read_members (read_ty d) k n s at) m e in
        let own = ended (member_head k s at) (own_reads d k s n at l r) in
        let w = member_where k at own.0 s own.1 in
        let type = ended (read_ty d s own.0) (member_type_reads d k s n at l r own.0 own.1) in
        let g = inner own.0 type.0 type.1 in
        let h = later type.0 (x.bound _ _ _ g) (e ∙ others_end d k s n at l r own.0 type.0 own.1 type.1) in
        rw (members_split d k s n at l r own.0 own.1 type.0 type.1, x.more_is at w.width)
        (headed (OfMember w.width) w.form refl (omega (arith, w.ends)) (x.both _ _ _ _ _ g h))

    pub members_flat : (n at m : ℕ) → MembersFlat n at m
    unfolding many
    members_flat zero at m b e = let p : m ≡ at = cc in rw (p, x.none_is) (x.empty at b)
    members_flat (suc n) at m b e = let q : suc n - 1 ≡ n = omega arith in member_step (suc n) at m (omega arith) (rw q (λ i. members_flat n i m)) b e

  -- a type, by the laws of what is inside it
  module _ (d at m : ℕ) (l : d ≤ limit) (e : Ok m ≡ step_of (read_ty d s at)) (inner : TypeFlat (d - 1)) where
    t_reads : Reads (read_ty d s at)
    t_reads = ended_reads (read_ty d s at) m e

    t_opened : Opened d at s (form_at s at)
    t_opened = record { deep = type_deep d at s t_reads; there = type_there d at s t_reads; form = refl }

    -- members of kind k behind the type's own record
    grouped : {make : Attributes → Members → Ty} {k : ℕ} → Reads (head 2 s (at + 1))
        → ((n i : ℕ) → Ok (n, i) ≡ count_of (head 2 s (at + 1)) → GroupParts make k d s at n i)
        → ((i : ℕ) (a : Attributes) (ms : Members) → i ≡ at + 12 → x.Flat i m (x.of_members ms) → x.Flat at m (x.of_type (make a ms)))
        → x.Flat at m (x.of_type (type_at d s at))
    grouped {make} {k} h parts is =
        let c = counted_head (head 2 s (at + 1)) h in
        let g = parts c.0 c.1.0 c.1.1 in
        rw g.tree (is c.1.0 g.attributes _ g.start (members_flat (d - 1) inner k c.0 c.1.0 m g.bound (e ∙ g.ends)))

    type_node : (f : Form) → form_at s at ≡ f → x.Flat at m (x.of_type (type_at d s at))
    unfolding record_length is_size_union
    type_node (OfType Primitive) p =
        let q : m ≡ at + 1 = next_same (e ∙ primitive_ends t_opened p) in
        rw (primitive_tree t_opened t_reads p, x.primitive_is at) (x.single at m (OfType Primitive) p refl q (omega (arith, type_there d at s t_reads)))
    type_node (OfType TypeRef) p =
        let b = body_where 2 (at + 1) m s (e ∙ type_ref_ends t_opened p) in
        rw (type_ref_is t_opened t_reads p, x.lead_is at) (x.single at m (OfType TypeRef) p refl (omega (arith, b.0)) (omega (arith, b.0, b.1)))
    type_node (OfType Struct) p =
        grouped (struct_count t_opened t_reads p) (λ n i. struct_parts t_opened t_reads n i p) (λ i a ms q g. rw (x.struct_is at a ms) (headed (OfType Struct) p refl q g))
    type_node (OfType Union) p =
        grouped (union_count t_opened t_reads p) (λ n i. union_parts t_opened t_reads n i p) (λ i a ms q g. rw (x.union_is at a ms) (headed (OfType Union) p refl q g))
    type_node (OfType SizeUnion) p =
        grouped (size_union_count t_opened t_reads p) (λ n i. size_union_parts t_opened t_reads n i p) (λ i a ms q g. x.size_union_is d at i m a ms l p e q g)
    type_node (OfType Enum) p =
        let a = enum_at t_opened t_reads p in
        let g = a.parts in
        let tag = expr_flat (d - 1) a.i a.j a.tag in
        let ms = members_flat (d - 1) inner 0x52 a.n a.j m (x.bound _ _ _ tag) (e ∙ g.ends) in
        rw (g.tree, x.enum_is at) (headed (OfType Enum) p refl g.start (x.both _ _ _ _ _ tag ms))
    type_node (OfType Array) p =
        let a = array_at t_opened t_reads p in
        let g = a.parts in
        let size = expr_flat (d - 1) a.i a.j a.size in
        rw (g.tree, x.array_is at) (headed (OfType Array) p refl g.start (x.both _ _ _ _ _ size (inner a.j m (e ∙ g.ends))))
    type_node (OfExpr f) p = absurd (no_other t_opened t_reads (λ f q. let z : ◌≡◌ {A = ℕ} 0 1 = cc in omega arith))
    type_node (OfMember w) p = absurd (no_other t_opened t_reads (λ f q. let z : ◌≡◌ {A = ℕ} 0 1 = cc in omega arith))
    type_node (OfRecord f g h) p = absurd (no_other t_opened t_reads (λ f q. let z : ◌≡◌ {A = ℕ} 0 1 = cc in omega arith))
    type_node Unknown p = absurd (no_other t_opened t_reads (λ f q. let z : ◌≡◌ {A = ℕ} 0 1 = cc in omega arith))

  pub type_flat : (d : ℕ) → d ≤ limit → TypeFlat d
  type_flat zero l = λ at m e. absurd (type_deep 0 at s (ended_reads (read_ty 0 s at) m e) refl)
  type_flat (suc d) l = λ at m e. let q : suc d - 1 ≡ d = omega arith in type_node (suc d) at m l e (rw q (type_flat d (omega arith))) (form_at s at) refl
