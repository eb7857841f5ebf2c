-- A type that was read, taken apart by its form: where its parts start, that they were read, and the tree from their trees.
use Rattle.std.specs.Prelude.{Ok}
use Prim.Native.Nat.{ℕ, zero, suc, ◌+◌, ◌-◌, ◌≤◌, ◌<◌}
use native.Mathlib.Omega.{arith}
use mathlib.Core.Path.{◌≡◌, refl, ap, ◌∙◌}
use mathlib.Core.List.{List}
use lib.ListN.{length, get_or}
use Rattle.meaning.specs.Kinds.{Form, form_of, OfType, TypeRef, Struct, Union, SizeUnion, Enum, Array}
use Rattle.meaning.specs.Tree.{Attributes, Ty, primitive, type_ref, struct, union, size_union, enum, array, member, Members, none, more}
use Rattle.meaning.specs.Reader.{Read, ok, refused, due, little, many}
use Rattle.meaning.specs.Lookup.{list_of}
use Rattle.meaning.specs.ReadExpr.{read_expr, body}
use Rattle.meaning.specs.ReadType.{head, array_head, member_head, read_member, read_members, read_group, read_enum, read_array, read_ty}
use Rattle.bundle.specs.declared.Form as code
use Rattle.bundle.specs.declared.Form.TheVariants as form
use Rattle.bundle.specs.declared.TypeForm.{TypeForm}
use Rattle.bundle.specs.View.{type_form_meant, form_meant, step_of, count_of, Reads, value_or}
use Rattle.bundle.specs.Definitions.{type_at, members_at, zero_group}
use Rattle.bundle.specs.Expressions.{expr_at}
use Rattle.meaning.proofs.Readings.{there}
use Rattle.bundle.proofs.ExprLaws.{Opened}
use Rattle.bundle.proofs.Steps.{many_more}
use Rattle.bundle.proofs.PartTrees.{member_type_reads, member_ends, others_read, members_split}
use Rattle.bundle.proofs.Trees.{first_read, many_first}
use Rattle.bundle.proofs.TypeLaws.{struct_ends, union_ends, size_union_ends, enum_ends, array_ends, group_ends, enum_members, array_element}
use Rattle.bundle.proofs.TypeTrees.{type_deep, type_there, type_ref_reads, type_ref_tree, zero_head, struct_reads, struct_tree, union_reads, union_tree, size_union_reads, size_union_tree, enum_reads, enum_tree, array_reads, array_tree}
use Rattle.bundle.proofs.TypeTrees.{group_reads, group_value, tag_reads, variants_read, enum_value, size_reads, element_reads, array_value_lem, array_last}
use Rattle.bundle.proofs.Trees.{ended}
use Rattle.bundle.proofs.Heads.{counted_head, count_where, array_where}

-- the kind byte of a type that was read
pub type_opened : (d at : ℕ) (s : List ℕ) (f : Form) → Reads (read_ty d s at) → f ≡ form_of (get_or s at 0) → Opened d at s f
type_opened d at s f r e = record { deep = type_deep d at s r; there = type_there d at s r; form = e }

-- a form that a `let .. else` has found to be a type's
pub type_meant : {f : code.Form} {t : TypeForm} → f ≡ form.OfType t → form_meant f ≡ OfType (type_form_meant t)
unfolding form_meant
type_meant e = ap form_meant e

-- a body of w bytes that was read
body_read : (w at : ℕ) (s : List ℕ) → Reads (body w s at) → (body w s at ≡ ok (little s at w) (at + w)) × (at + w ≤ length s)
body_read w at s r = go (due w s at) refl r
  where
    go : (x : Read (Unit {0})) → due w s at ≡ x → Reads (body w s at) → (body w s at ≡ ok (little s at w) (at + w)) × (at + w ≤ length s)
    go (ok u m) e r = let t = there w at s u m e in let p : m ≡ at = t.same in (rw (e, p), t.bound)
    go (refused k) e r = absurd (rw e at r)

-- a TypeRef has its name behind its kind
module _ {d at : ℕ} {s : List ℕ} {f : Form} (o : Opened d at s f) (r : Reads (read_ty d s at)) where
  pub type_ref_there : f ≡ OfType TypeRef → at + 1 + 2 ≤ length s
  type_ref_there p = (body_read 2 (at + 1) s (type_ref_reads o r p)).1

  pub type_ref_is : f ≡ OfType TypeRef → type_at d s at ≡ type_ref (little s (at + 1) 2)
  type_ref_is p = rw (type_ref_tree o r p, (body_read 2 (at + 1) s (type_ref_reads o r p)).0)

-- a struct or union, whose member count n ended at i: its members, of kind k
pub record GroupParts (make : Attributes → Members → Ty) (k d : ℕ) (s : List ℕ) (at n i : ℕ) : Type 0 where
  pub start : i ≡ at + 12
  pub bound : i ≤ length s
  pub reads : Reads (read_members (read_ty (d - 1)) k n s i)
  pub attributes : Attributes
  pub tree : type_at d s at ≡ make attributes (members_at (d - 1) k n s i)
  pub ends : step_of (read_ty d s at) ≡ step_of (read_members (read_ty (d - 1)) k n s i)

group_parts : (make : Attributes → Members → Ty) (k d : ℕ) (s : List ℕ) (at n i : ℕ) → Ok (n, i) ≡ count_of (head 2 s (at + 1))
    → Reads (read_group (read_ty (d - 1)) k s (at + 1))
    → (let g = value_or zero_group (read_group (read_ty (d - 1)) k s (at + 1)) in type_at d s at ≡ make g.attributes g.members)
    → step_of (read_ty d s at) ≡ step_of (read_group (read_ty (d - 1)) k s (at + 1)) → GroupParts make k d s at n i
group_parts make k d s at n i c r t e =
    let w = count_where (at + 1) n i s c in
    record {
      start = omega (arith, w.0);
      bound = omega (arith, w.0, w.1);
      reads = group_reads (read_ty (d - 1)) k s (at + 1) n i c r;
      attributes = (value_or zero_group (read_group (read_ty (d - 1)) k s (at + 1))).attributes;
      tree = t ∙ ap (make (value_or zero_group (read_group (read_ty (d - 1)) k s (at + 1))).attributes) (group_value (read_ty (d - 1)) k s (at + 1) n i c r zero_group);
      ends = e ∙ group_ends (read_expr 0) (read_ty (d - 1)) s (at + 1) k n i c;
    }

-- an enum, whose tag starts at i and ended at j
pub record EnumParts (d : ℕ) (s : List ℕ) (at n i j : ℕ) : Type 0 where
  pub start : i ≡ at + 12
  pub bound : i ≤ length s
  pub reads : Reads (read_members (read_ty (d - 1)) 0x52 n s j)
  pub attributes : Attributes
  pub tree : type_at d s at ≡ enum attributes (expr_at (d - 1) s i) (members_at (d - 1) 0x52 n s j)
  pub ends : step_of (read_ty d s at) ≡ step_of (read_members (read_ty (d - 1)) 0x52 n s j)

-- an array, whose size starts at i and ended at j
pub record ArrayParts (d : ℕ) (s : List ℕ) (at i j : ℕ) : Type 0 where
  pub start : i ≡ at + 11
  pub bound : i ≤ length s
  pub reads : Reads (read_ty (d - 1) s j)
  pub attributes : Attributes
  pub tree : type_at d s at ≡ array attributes (get_or s (at + 10) 0) (expr_at (d - 1) s i) (type_at (d - 1) s j)
  pub ends : step_of (read_ty d s at) ≡ step_of (read_ty (d - 1) s j)

module _ {d at : ℕ} {s : List ℕ} {f : Form} (o : Opened d at s f) (r : Reads (read_ty d s at)) where
  pub struct_parts : (n i : ℕ) → f ≡ OfType Struct → Ok (n, i) ≡ count_of (head 2 s (at + 1)) → GroupParts struct 0x50 d s at n i
  struct_parts n i p c = group_parts struct 0x50 d s at n i c (struct_reads o r p) (struct_tree o r zero_group p) (struct_ends o p)

  pub union_parts : (n i : ℕ) → f ≡ OfType Union → Ok (n, i) ≡ count_of (head 2 s (at + 1)) → GroupParts union 0x51 d s at n i
  union_parts n i p c = group_parts union 0x51 d s at n i c (union_reads o r p) (union_tree o r zero_group p) (union_ends o p)

  pub size_union_parts : (n i : ℕ) → f ≡ OfType SizeUnion → Ok (n, i) ≡ count_of (head 2 s (at + 1)) → GroupParts size_union 0x53 d s at n i
  size_union_parts n i p c = group_parts size_union 0x53 d s at n i c (size_union_reads o r p) (size_union_tree o r zero_group p) (size_union_ends o p)

  -- the body that has the member count was read
  pub struct_count : f ≡ OfType Struct → Reads (head 2 s (at + 1))
  unfolding read_group
  struct_count p = first_read s _ (head 2 s (at + 1)) (struct_reads o r p)

  pub union_count : f ≡ OfType Union → Reads (head 2 s (at + 1))
  unfolding read_group
  union_count p = first_read s _ (head 2 s (at + 1)) (union_reads o r p)

  pub size_union_count : f ≡ OfType SizeUnion → Reads (head 2 s (at + 1))
  unfolding read_group
  size_union_count p = first_read s _ (head 2 s (at + 1)) (size_union_reads o r p)

  module _ (p : f ≡ OfType Enum) where
    pub enum_count : Reads (head 2 s (at + 1))
    unfolding read_enum
    enum_count = first_read s _ (head 2 s (at + 1)) (enum_reads o r p)

    module _ (n i : ℕ) (c : Ok (n, i) ≡ count_of (head 2 s (at + 1))) where
      pub tag_read : Reads (read_expr (d - 1) s i)
      tag_read = tag_reads (read_expr (d - 1)) (read_ty (d - 1)) s (at + 1) n i c (enum_reads o r p)

      pub enum_parts : (j : ℕ) → Ok j ≡ step_of (read_expr (d - 1) s i) → EnumParts d s at n i j
      enum_parts j g =
          let w = count_where (at + 1) n i s c in
          record {
            start = omega (arith, w.0);
            bound = omega (arith, w.0, w.1);
            reads = variants_read (read_expr (d - 1)) (read_ty (d - 1)) s (at + 1) n i c (enum_reads o r p) j g;
            attributes = (value_or zero_head (head 2 s (at + 1))).attributes;
            tree = enum_tree o r p ∙ enum_value (read_expr (d - 1)) (read_ty (d - 1)) s (at + 1) n i c (enum_reads o r p) j g (primitive 0);
            ends = enum_ends o p ∙ enum_members (read_expr (d - 1)) (read_ty (d - 1)) s (at + 1) n i j c g;
          }

  module _ (p : f ≡ OfType Array) where
    pub array_body : Reads (array_head s (at + 1))
    unfolding read_array
    array_body = first_read s _ (array_head s (at + 1)) (array_reads o r p)

    module _ (i : ℕ) (c : Ok i ≡ step_of (array_head s (at + 1))) where
      pub size_read : Reads (read_expr (d - 1) s i)
      size_read = size_reads (read_expr (d - 1)) (read_ty (d - 1)) s (at + 1) i c (array_reads o r p)

      pub array_parts : (j : ℕ) → Ok j ≡ step_of (read_expr (d - 1) s i) → ArrayParts d s at i j
      array_parts j g =
          let w = array_where (at + 1) i s c in
          let flag : (value_or zero_head (array_head s (at + 1))).last ≡ get_or s (at + 10) 0 = (array_last s (at + 1) array_body).0 ∙ ap (λ k. get_or s k 0) (omega arith) in
          record {
            start = omega (arith, w.0);
            bound = omega (arith, w.0, w.1);
            reads = element_reads (read_expr (d - 1)) (read_ty (d - 1)) s (at + 1) i c (array_reads o r p) j g;
            attributes = (value_or zero_head (array_head s (at + 1))).attributes;
            tree = array_tree o r p
                ∙ array_value_lem (read_expr (d - 1)) (read_ty (d - 1)) s (at + 1) i c (array_reads o r p) j g (primitive 0)
                ∙ ap (λ k. array (value_or zero_head (array_head s (at + 1))).attributes k (expr_at (d - 1) s i) (type_at (d - 1) s j)) flag;
            ends = array_ends o p ∙ array_element (read_expr (d - 1)) (read_ty (d - 1)) s (at + 1) i j c g;
          }

-- an enum and an array, with where their parts stand
pub record EnumAt (d : ℕ) (s : List ℕ) (at : ℕ) : Type 0 where
  pub n : ℕ
  pub i : ℕ
  pub j : ℕ
  pub tag : Ok j ≡ step_of (read_expr (d - 1) s i)
  pub parts : EnumParts d s at n i j

pub record ArrayAt (d : ℕ) (s : List ℕ) (at : ℕ) : Type 0 where
  pub i : ℕ
  pub j : ℕ
  pub size : Ok j ≡ step_of (read_expr (d - 1) s i)
  pub parts : ArrayParts d s at i j

module _ {d at : ℕ} {s : List ℕ} {f : Form} (o : Opened d at s f) (r : Reads (read_ty d s at)) where
  pub enum_at : f ≡ OfType Enum → EnumAt d s at
  enum_at p =
      let c = counted_head (head 2 s (at + 1)) (enum_count o r p) in
      let tag = ended (read_expr (d - 1) s c.1.0) (tag_read o r p c.0 c.1.0 c.1.1) in
      record { n = c.0; i = c.1.0; j = tag.0; tag = tag.1; parts = enum_parts o r p c.0 c.1.0 c.1.1 tag.0 tag.1 }

  pub array_at : f ≡ OfType Array → ArrayAt d s at
  array_at p =
      let c = ended (array_head s (at + 1)) (array_body o r p) in
      let size = ended (read_expr (d - 1) s c.0) (size_read o r p c.0 c.1) in
      record { i = c.0; j = size.0; size = size.1; parts = array_parts o r p c.0 c.1 size.0 size.1 }

-- the first of n members of kind k that were read at `at`
module _ (d k : ℕ) (s : List ℕ) (n at : ℕ) (h : 0 < n) (r : Reads (read_members (read_ty d) k n s at)) where
  -- its own record was read
  pub own_reads : Reads (member_head k s at)
  unfolding read_member
  own_reads = first_read s _ (member_head k s at) (many_first more none (read_member (read_ty d) k) s (member 0 0 (primitive 0)) n at h r)

  -- its type stands at i and ended at j
  pub others_end : (i j : ℕ) → Ok i ≡ step_of (member_head k s at) → Ok j ≡ step_of (read_ty d s i)
      → step_of (read_members (read_ty d) k n s at) ≡ step_of (read_members (read_ty d) k (n - 1) s j)
  others_end i j e g = many_more more none (read_member (read_ty d) k) s n at j h (member_ends d k s n at h r i e j g)

-- no member
pub members_none : (d k : ℕ) (s : List ℕ) (n at : ℕ) → n ≡ 0 → members_at d k n s at ≡ none
unfolding many
members_none d k s n at e = rw e

-- as many as were due
pub members_length : (d k : ℕ) (s : List ℕ) (n at : ℕ) → Reads (read_members (read_ty d) k n s at) → length (list_of (members_at d k n s at)) ≡ n
members_length d k s zero at r = ap (λ ms. length (list_of ms)) (members_none d k s 0 at refl)
members_length d k s (suc n) at r =
    let h : 0 < suc n = omega arith in
    let own = ended (member_head k s at) (own_reads d k s (suc n) at h r) in
    let type = ended (read_ty d s own.0) (member_type_reads d k s (suc n) at h r own.0 own.1) in
    let q : suc n - 1 ≡ n = omega arith in
    let rest : Reads (read_members (read_ty d) k n s type.0) = rw q at (others_read d k s (suc n) at h r own.0 own.1 type.0 type.1) in
    ap (λ ms. length (list_of ms)) (members_split d k s (suc n) at h r own.0 own.1 type.0 type.1)
    ∙ ap suc (ap (λ i. length (list_of (members_at d k i s type.0))) q ∙ members_length d k s n type.0 rest)
