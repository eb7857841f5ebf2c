-- A type or field that was read, as its shape shows it.
use Rattle.std.specs.Prelude.{Ok}
use Prim.Native.Nat.{ℕ, ◌+◌, ◌-◌, ◌≤◌}
use native.Mathlib.Omega.{arith}
use mathlib.Core.Bool.{true, false≢true}
use mathlib.Core.Option.{none}
use mathlib.Core.Path.{◌≡◌, refl, sym, ap, subst, ◌∙◌}
use mathlib.Core.List.{List}
use lib.ListN.{length, get_or}
use borrow.Author.Tests.{eq-eqb}
use Rattle.meaning.specs.Kinds.{Form, OfType, OfMember, form_of, lookup, Primitive, TypeRef, Struct, Union, Enum, Array, SizeUnion}
use Rattle.meaning.specs.Tree.{Ty, primitive, type_ref, struct, union, enum, array, size_union, member}
use Rattle.meaning.specs.Lookup.{as_type_ref, as_struct}
use Rattle.meaning.specs.Reader.{Read, ok, refused, due, little}
use Rattle.meaning.specs.ReadExpr.{body, read_expr}
use Rattle.meaning.specs.ReadType.{head, member_head, member_body, read_member, read_members, read_ty}
use Rattle.meaning.proofs.Readings.{due_ok, there}
use Rattle.bundle.specs.View.{step_of, count_of, Reads, value_or}
use Rattle.bundle.specs.Definitions.{type_at, members_at, zero_group}
use Rattle.bundle.specs.Expressions.{expr_at}
use Rattle.bundle.proofs.ExprLaws.{Opened}
use Rattle.bundle.proofs.Trees.{ended, ended_reads, first_read}
use Rattle.bundle.proofs.TypeLaws.{primitive_ends, type_ref_ends, member_type_lem}
use Rattle.bundle.proofs.TypeTrees.{primitive_tree, type_ref_reads, type_ref_tree, union_tree, size_union_tree, member_reads, member_value}
use Rattle.bundle.proofs.Heads.{body_where, member_where}
use Rattle.bundle.proofs.Parts.{struct_parts, enum_at, array_at}
use Rattle.fields.specs.declared.Shape.{Shape}
use Rattle.fields.specs.declared.Shape.TheVariants as shape
use Rattle.fields.specs.Shapes.{StructAt, EnumAt, ArrayAt, is_plain, ShapeOf, ref_shown, FieldAt}

-- a name that was read
name_read : (at : ℕ) (s : List ℕ) → Reads (body 2 s at) → value_or 0 (body 2 s at) ≡ little s at 2
name_read at s r = go (due 2 s at) refl r
  where
    go : (x : Read (Unit {0})) → due 2 s at ≡ x → Reads (body 2 s at) → value_or 0 (body 2 s at) ≡ little s at 2
    go (ok u m) e r = let p : m ≡ at = (there 2 at s u m e).same in rw (e, p)
    go (refused k) e r = absurd (rw e at r)

-- a type that was read, by its form
module _ {d at : ℕ} {s : List ℕ} {f : Form} (o : Opened d at s f) (r : Reads (read_ty d s at)) where
  pub primitive_plain : f ≡ OfType Primitive → is_plain (type_at d s at) ≡ true
  primitive_plain p = rw (primitive_tree o r p)

  pub union_plain : f ≡ OfType Union → is_plain (type_at d s at) ≡ true
  union_plain p = rw (union_tree o r zero_group p)

  pub size_union_plain : f ≡ OfType SizeUnion → is_plain (type_at d s at) ≡ true
  size_union_plain p = rw (size_union_tree o r zero_group p)

  pub type_ref_is : f ≡ OfType TypeRef → type_at d s at ≡ type_ref (little s (at + 1) 2)
  type_ref_is p = type_ref_tree o r p ∙ ap type_ref (name_read (at + 1) s (type_ref_reads o r p))

  pub struct_is : (n i : ℕ) → f ≡ OfType Struct → Ok (n, i) ≡ count_of (head 2 s (at + 1)) → StructAt d s at n
  struct_is n i p c =
      let g = struct_parts o r n i p c in
      record {
        attributes = g.attributes;
        reads = subst (λ i. Reads (read_members (read_ty (d - 1)) 0x50 n s i)) g.start g.reads;
        tree = subst (λ i. type_at d s at ≡ struct g.attributes (members_at (d - 1) 0x50 n s i)) g.start g.tree;
        ends = subst (λ i. step_of (read_ty d s at) ≡ step_of (read_members (read_ty (d - 1)) 0x50 n s i)) g.start g.ends;
        inside = omega (arith, g.start, g.bound);
      }

  pub enum_is : f ≡ OfType Enum → EnumAt d s at
  enum_is p =
      let g = enum_at o r p in
      record {
        attributes = g.parts.attributes;
        variants = members_at (d - 1) 0x52 g.n s g.j;
        reads = subst (λ i. Reads (read_expr (d - 1) s i)) g.parts.start (ended_reads (read_expr (d - 1) s g.i) g.j g.tag);
        tree = subst (λ i. type_at d s at ≡ enum g.parts.attributes (expr_at (d - 1) s i) (members_at (d - 1) 0x52 g.n s g.j)) g.parts.start g.parts.tree;
        inside = omega (arith, g.parts.start, g.parts.bound);
      }

  pub array_is : f ≡ OfType Array → ArrayAt d s at
  array_is p =
      let g = array_at o r p in
      record {
        attributes = g.parts.attributes;
        element = g.j;
        size = subst (λ i. Ok g.j ≡ step_of (read_expr (d - 1) s i)) g.parts.start g.size;
        reads = g.parts.reads;
        tree =
            subst (λ i. type_at d s at ≡ array g.parts.attributes (get_or s (at + 10) 0) (expr_at (d - 1) s i) (type_at (d - 1) s g.j)) g.parts.start
            g.parts.tree;
        inside = omega (arith, g.parts.start, g.parts.bound);
      }

-- the name of a member, whose own record ended at i
member_name_lem : (k at i : ℕ) (s : List ℕ) → Ok i ≡ step_of (member_head k s at) → (value_or (0, 0) (member_head k s at)).0 ≡ little s (at + 1) 2
unfolding member_head member_body
member_name_lem k at i s e =
    let m = member_where k at i s e in
    let p : at + 1 ≤ length s = omega (arith, m.ends, m.bound) in
    let q : at + 1 + (2 + m.width) ≤ length s = omega (arith, m.ends, m.bound) in
    rw (due_ok 1 at s p, eq-eqb (get_or s at 0) k m.kind, m.form, due_ok (2 + m.width) (at + 1) s q)

-- where a type ends, by its form
module _ {d at : ℕ} {s : List ℕ} {f : Form} (o : Opened d at s f) (r : Reads (read_ty d s at)) where
  pub primitive_end : f ≡ OfType Primitive → Ok (at + 1) ≡ step_of (read_ty d s at)
  primitive_end p = sym (primitive_ends o p)

  pub type_ref_end : f ≡ OfType TypeRef → (Ok (at + 3) ≡ step_of (read_ty d s at)) × (at + 3 ≤ length s)
  type_ref_end p =
      let e = ended (read_ty d s at) r in
      let b = body_where 2 (at + 1) e.0 s (e.1 ∙ type_ref_ends o p) in
      let q : e.0 ≡ at + 3 = omega (arith, b.0) in
      (ap Ok (sym q) ∙ e.1, omega (arith, b.1))

-- a field
module _ (d at : ℕ) (s : List ℕ) (r : Reads (read_member (read_ty d) 0x50 s at)) where
  own : (Ok (at + 3) ≡ step_of (member_head 0x50 s at)) × (at + 3 ≤ length s)
  unfolding read_member lookup
  own =
      let h = ended (member_head 0x50 s at) (first_read s _ (member_head 0x50 s at) r) in
      let m = member_where 0x50 at h.0 s h.1 in
      let w : m.width ≡ 0 = width m.width (sym m.form ∙ ap form_of m.kind) in
      let q : h.0 ≡ at + 3 = omega (arith, m.ends, w) in
      (ap Ok (sym q) ∙ h.1, omega (arith, m.bound, q))
    where
      width : (w : ℕ) → OfMember w ≡ form_of 0x50 → w ≡ 0
      width w e = cc

  pub field_there : at + 3 ≤ length s
  field_there = own.1

  pub field_reads : Reads (read_ty d s (at + 3))
  field_reads = member_reads (read_ty d) 0x50 s at (at + 3) own.0 r

  -- whose type ended at j
  pub field_is : (j x : ℕ) → Ok j ≡ step_of (read_ty d s (at + 3)) → x ≡ little s (at + 1) 2 → FieldAt d s at (record { name = x; at = at + 3; next = j })
  field_is j x g n = record {
    reads = field_reads;
    ends = g ∙ sym (member_type_lem (read_expr 0) (read_ty d) s at 0x50 (at + 3) own.0);
    value = (value_or (0, 0) (member_head 0x50 s at)).1;
    is = λ z.
        member_value (read_ty d) 0x50 s at (at + 3) own.0 r z (primitive 0)
        ∙ ap (λ x. member x (value_or (0, 0) (member_head 0x50 s at)).1 (type_at d s (at + 3))) (member_name_lem 0x50 at (at + 3) s own.0 ∙ sym n);
  }

-- the name that a type refers to, by its shape
plain_ref : (t : Ty) → is_plain t ≡ true → as_type_ref t ≡ none
plain_ref (primitive k) e = refl
plain_ref (type_ref n) e = absurd (false≢true e)
plain_ref (struct a ms) e = refl
plain_ref (union a ms) e = refl
plain_ref (enum a tag ms) e = refl
plain_ref (array a jagged size element) e = refl
plain_ref (size_union a ms) e = refl

pub shape_ref : (d at : ℕ) (s : List ℕ) (r : Shape) → ShapeOf d s at r → as_type_ref (type_at d s at) ≡ ref_shown r
shape_ref d at s (shape.Struct n) g = rw g.tree
shape_ref d at s shape.Enum g = rw g.tree
shape_ref d at s shape.Array g = rw g.tree
shape_ref d at s (shape.TypeRef n) g = rw g
shape_ref d at s shape.Plain g = plain_ref (type_at d s at) g

pub no_ref : (d at : ℕ) (s : List ℕ) (r : Shape) → ((n : ℕ) → r ≡ shape.TypeRef n → ⊥) → ShapeOf d s at r → as_type_ref (type_at d s at) ≡ none
no_ref d at s (shape.Struct n) o g = shape_ref d at s (shape.Struct n) g
no_ref d at s shape.Enum o g = shape_ref d at s shape.Enum g
no_ref d at s shape.Array o g = shape_ref d at s shape.Array g
no_ref d at s (shape.TypeRef n) o g = absurd (o n refl)
no_ref d at s shape.Plain o g = shape_ref d at s shape.Plain g

-- the fields of a struct, by its shape
plain_struct : (t : Ty) → is_plain t ≡ true → as_struct t ≡ none
plain_struct (primitive k) e = refl
plain_struct (type_ref n) e = refl
plain_struct (struct a ms) e = absurd (false≢true e)
plain_struct (union a ms) e = refl
plain_struct (enum a tag ms) e = refl
plain_struct (array a jagged size element) e = refl
plain_struct (size_union a ms) e = refl

pub shape_other : (d at : ℕ) (s : List ℕ) (r : Shape) → ((n : ℕ) → r ≡ shape.Struct n → ⊥) → ShapeOf d s at r → as_struct (type_at d s at) ≡ none
shape_other d at s (shape.Struct n) o g = absurd (o n refl)
shape_other d at s shape.Enum o g = rw g.tree
shape_other d at s shape.Array o g = rw g.tree
shape_other d at s (shape.TypeRef n) o g = rw g
shape_other d at s shape.Plain o g = plain_struct (type_at d s at) g

-- what is known of a shape that is a struct
pub shape_struct : (d at : ℕ) (s : List ℕ) {r : Shape} {n : ℕ} → r ≡ shape.Struct n → ShapeOf d s at r → StructAt d s at n
shape_struct d at s e g = subst (ShapeOf d s at) e g
