-- The answers of the walk that measures the definitions, each in the form in which the code returns it.
use Rattle.std.specs.Prelude.{Err, None, Ok, Option, Result}
use Rattle.std.proofs.Math.Option as math
use Rattle.refusal.specs.declared.Refusal.{Refusal}
use Prim.Native.Nat.{ℕ, ◌+◌, ◌-◌, ◌≤◌, ◌<◌}
use native.Mathlib.Omega.{arith}
use mathlib.Core.Bool.{Bool, true, false, cond}
use borrow.Author.Tests.{lt-ltb, le-ltb, lt-leb, le-leb, eq-eqb, ne_eqb}
use mathlib.Core.Path.{◌≡◌, refl, sym, ap, ap₂, ◌∙◌}
use mathlib.Core.List.{List}
use lib.Dec.{eqb, leb}
use lib.ListN.{length, get_or}
use Rattle.std.specs.Option.{unwrap_or}
use Rattle.std.proofs.lemmas.List.{get_or_default}
use Rattle.meaning.specs.Kinds.{Form, OfType, Primitive, TypeRef, Struct, Union, Enum, Array, SizeUnion}
use Rattle.meaning.specs.Lookup.{count, definition_of}
use Rattle.meaning.specs.Reader.{Read, ok, refused, after, due, check, little}
use Rattle.meaning.specs.ReadExpr.{read_expr, body}
use Rattle.meaning.specs.ReadType.{Head, Group, head, array_head, member_head, read_member, read_members, read_group, read_enum, read_array, read_ty}
use Rattle.meaning.specs.Tree as tree
use Rattle.meaning.specs.Tree.{Attributes, primitive, struct, union, size_union, none, more}
use Rattle.meaning.specs.Sizes.{get_primitive_size}
use Rattle.meaning.proofs.Readings.{went, there}
use Rattle.bundle.specs.View.{step_of, count_of, Reads, value_or}
use Rattle.bundle.specs.Definitions.{type_at, members_at, zero_group, bundle_of}
use Rattle.bundle.specs.Expressions.{expr_at}
use Rattle.bundle.proofs.ExprLaws.{Opened}
use Rattle.bundle.proofs.Steps.{many_none, many_more}
use Rattle.bundle.proofs.TypeLaws.{member_type_lem, primitive_ends, group_ends, enum_members, array_element, enum_tag_refused, array_size_refused, type_ref_ends}
use Rattle.bundle.proofs.TypeTrees.{zero_head, head_last, primitive_tree, type_ref_reads, struct_tree, union_tree, size_union_tree, enum_tree, array_tree, group_value, group_reads, enum_value, array_value_lem, array_last, member_value}
use Rattle.bundle.proofs.Heads.{body_where, head_where, array_where}
use Rattle.bundle.proofs.Trees.{first_read, refused_no, many_first, many_rest, many_value, ended_reads, ended, then_value, made_value}
use Rattle.bundle.proofs.Parts.{members_none, type_ref_is as typeRef-found}
use Rattle.fixed_meaning.specs.Extent as meaning
use Rattle.fixed_meaning.specs.Extent.{sized, with_member, varying, closed, array_of}
use Rattle.fixed_meaning.specs.Fixed.{measure_member, measure_all, count_of as sizeCount}
use Rattle.extents.specs.declared.extent.Extent.{Extent}
use Rattle.extents.specs.declared.extent.Members.{Members}
use Rattle.extents.specs.declared.Unsized.{Unsized}
use Rattle.extents.specs.declared.Unsized.TheVariants.{Circle, Varies}
use Rattle.extents.specs.Meant.{extent_meant, members_meant, count_meant, mark, packing_of, attributes}
use Rattle.extents.proofs.Parts.{with_packing}
use Rattle.fixed.specs.declared.Measured.{Measured}
use Rattle.fixed.specs.Kept.{Extents, kept_at, known}
use Rattle.fixed.specs.Walk.{join_of, close_of, zero_member, part_of, member_of, members_of, group_of, IsRead, TypeMeasured, MemberMeasured}

-- the extent and the end of what is read may be said in another way
pub is_same : {T : Type 0} {meant : Result T Unsized → meaning.Extent} {e f : meaning.Extent} {m n : Result ℕ Refusal} {r : Measured T} → e ≡ f → m ≡ n → IsRead meant e m r → IsRead meant f n r
is_same p q g = record { is = g.is ∙ p; ended = g.ended ∙ q }

-- where the body of what was read has its last number, and what stands behind it
counted_there : (s : List ℕ) (at : ℕ) → Reads (head 2 s at) → Ok (little s (at + 9) 2, at + 11) ≡ count_of (head 2 s at)
counted_there s at r = go (head 2 s at) refl r
  where
    go : (x : Read Head) → head 2 s at ≡ x → Reads x → Ok (little s (at + 9) 2, at + 11) ≡ count_of x
    go (refused _) e r = elim r [ ]
    go (ok h m) e r =
        let z : at + 1 + 8 ≡ at + 9 = omega arith in
        let p : little s (at + 9) 2 ≡ h.last = sym ((head_last 2 at m s h e).0 ∙ ap (λ i. little s i 2) z) in
        let q : at + 11 ≡ m = sym (head_where 2 at s h m e).0 in
        ap₂ (λ x y. Ok (x, y)) p q

module _ (d : ℕ) (s : List ℕ) (at : ℕ) where
  pub group_count : (k : ℕ) → Reads (read_group (read_ty d) k s at) → Ok (little s (at + 9) 2, at + 11) ≡ count_of (head 2 s at)
  unfolding read_group
  group_count k r = counted_there s at (first_read s _ (head 2 s at) r)

  module _ (r : Reads (read_enum (read_expr d) (read_ty d) s at)) where
    pub enum_count : Ok (little s (at + 9) 2, at + 11) ≡ count_of (head 2 s at)
    unfolding read_enum
    enum_count = counted_there s at (first_read s _ (head 2 s at) r)

    pub tag_no : (j : Refusal) → Err j ≡ step_of (read_expr d s (at + 11)) → ⊥
    tag_no j g = refused_no (read_enum (read_expr d) (read_ty d) s at) j r (enum_tag_refused (read_expr d) (read_ty d) s at _ (at + 11) j enum_count g)

  module _ (r : Reads (read_array (read_expr d) (read_ty d) s at)) where
    pub array_body : Ok (at + 10) ≡ step_of (array_head s at)
    unfolding read_array
    array_body =
        let m = ended (array_head s at) (first_read s _ (array_head s at) r) in
        ap Ok (sym (array_where at m.0 s m.1).0) ∙ m.1

    pub size_no : (j : Refusal) → Err j ≡ step_of (read_expr d s (at + 10)) → ⊥
    size_no j g = refused_no (read_array (read_expr d) (read_ty d) s at) j r (array_size_refused (read_expr d) (read_ty d) s at (at + 10) j array_body g)

-- the attributes of a body that was read
head_attributes : (w at n : ℕ) (s : List ℕ) (h : Head) → head w s at ≡ ok h n → h.attributes ≡ attributes (get_or s at 0) (little s (at + 1) 8)
unfolding head
head_attributes w at n s h e =
    let g = went (due (9 + w) s at) _ s h n e in
    let t = there (9 + w) at s g.value g.middle g.first in
    rest g.middle t.same (leb (get_or s g.middle 0) 1) g.then
  where
    rest : (i : ℕ) → i ≡ at → (t : Bool)
        → after (check t 4 s (i + 1 + 8 + w)) (λ u t j. ok (record { attributes = record { packed = get_or s i 0; aligned = little s (i + 1) 8 }; last = little s (i + 1 + 8) w }) j) s ≡ ok h n
        → h.attributes ≡ attributes (get_or s at 0) (little s (at + 1) 8)
    rest i p true q = let v : record { attributes = record { packed = get_or s i 0; aligned = little s (i + 1) 8 }; last = little s (i + 1 + 8) w } ≡ h = cc in ap (λ (x : Head). x.attributes) (sym v) ∙ rw p
    rest i p false q = let z : ◌≡◌ {A = ℕ} 0 1 = cc in absurd (omega arith)

counted_attributes : (s : List ℕ) (at n i : ℕ) → Ok (n, i) ≡ count_of (head 2 s at) → (value_or zero_head (head 2 s at)).attributes ≡ attributes (get_or s at 0) (little s (at + 1) 8)
counted_attributes s at n i e = go (head 2 s at) refl e
  where
    go : (x : Read Head) → head 2 s at ≡ x → Ok (n, i) ≡ count_of x → (value_or zero_head x).attributes ≡ attributes (get_or s at 0) (little s (at + 1) 8)
    go (ok h m) p q = head_attributes 2 at m s h p
    go (refused k) p q = let z : ◌≡◌ {A = ℕ} 0 1 = cc in absurd (omega arith)

head_ended : (s : List ℕ) (at n i : ℕ) → Ok (n, i) ≡ count_of (head 2 s at) → Ok i ≡ step_of (head 2 s at)
head_ended s at n i e = go (head 2 s at) e
  where
    go : (x : Read Head) → Ok (n, i) ≡ count_of x → Ok i ≡ step_of x
    go (ok h m) q = let z : ◌≡◌ {A = ℕ × ℕ} (n, i) (h.last, m) = cc in ap (λ p. Ok p.1) z
    go (refused k) q = let z : ◌≡◌ {A = ℕ} 0 1 = cc in absurd (omega arith)

head_last_is : (s : List ℕ) (at n i : ℕ) → Ok (n, i) ≡ count_of (head 2 s at) → (value_or zero_head (head 2 s at)).last ≡ n
head_last_is s at n i e = go (head 2 s at) e
  where
    go : (x : Read Head) → Ok (n, i) ≡ count_of x → (value_or zero_head x).last ≡ n
    go (ok h m) q = let z : ◌≡◌ {A = ℕ × ℕ} (n, i) (h.last, m) = cc in sym (ap (λ p. p.0) z)
    go (refused k) q = let z : ◌≡◌ {A = ℕ} 0 1 = cc in absurd (omega arith)

-- a group whose count n ended at i
module _ (s : List ℕ) (d k b n i : ℕ) (c : Ok (n, i) ≡ count_of (head 2 s b)) (r : Reads (read_group (read_ty d) k s b)) where
  pub group_attributes : (value_or zero_group (read_group (read_ty d) k s b)).attributes ≡ attributes (get_or s b 0) (little s (b + 1) 8)
  unfolding read_group
  group_attributes =
      rw (then_value s _ (head 2 s b) i zero_head zero_group (head_ended s b n i c), head_last_is s b n i c)
      (ap (λ (g : Group). g.attributes) (made_value s (λ ms. record { attributes = (value_or zero_head (head 2 s b)).attributes; members = ms }) none zero_group (read_members (read_ty d) k n s i) (group_reads (read_ty d) k s b n i c r))
      ∙ counted_attributes s b n i c)

  pub group_is : (kept : Extents) → close_of k (attributes (get_or s b 0) (little s (b + 1) 8)) (members_of s kept k (get_or s b 0) (members_at d k n s i) (sized 0 1)) ≡ group_of s kept k (value_or zero_group (read_group (read_ty d) k s b))
  unfolding group_of
  group_is kept = sym (rw (group_attributes, group_value (read_ty d) k s b n i c r zero_group))

  pub group_ended : step_of (read_members (read_ty d) k n s i) ≡ step_of (read_group (read_ty d) k s b)
  group_ended = sym (group_ends (read_expr 0) (read_ty d) s b k n i c)

-- the count of an array that varies where it is jagged
abbrev pub Counts : ℕ → math.Option ℕ → Option ℕ → Type 0
Counts jagged due y = (x : meaning.Extent) → array_of 0 (count_meant y) x ≡ array_of jagged due x

pub counts_none : (jagged : ℕ) (due : math.Option ℕ) → jagged ≡ 1 → Counts jagged due None
unfolding array_of count_meant
counts_none jagged math.none h x = refl
counts_none jagged (math.some n) h x = rw (eq-eqb jagged 1 h)

pub counts_due : (jagged : ℕ) (due : math.Option ℕ) (y : Option ℕ) → (jagged ≡ 1 → ⊥) → count_meant y ≡ due → Counts jagged due y
unfolding array_of
counts_due jagged due y h e x = rw e (go due)
  where
    go : (due : math.Option ℕ) → array_of 0 due x ≡ array_of jagged due x
    go math.none = refl
    go (math.some n) = rw (ne_eqb jagged 1 h)

-- The extents of a type by its form.
module _ (s : List ℕ) where
  struct_group : (kept : Extents) (g : Group) → group_of s kept 0x50 g ≡ part_of s kept (struct g.attributes g.members)
  unfolding group_of members_of part_of join_of close_of
  struct_group kept g = refl

  union_group : (kept : Extents) (g : Group) → group_of s kept 0x51 g ≡ part_of s kept (union g.attributes g.members)
  unfolding group_of members_of part_of join_of close_of
  union_group kept g = refl

  size_union_group : (kept : Extents) (g : Group) → group_of s kept 0x53 g ≡ part_of s kept (size_union g.attributes g.members)
  unfolding group_of members_of part_of join_of close_of
  size_union_group kept g = refl

  -- a type that was read, by its form
  module _ {d at : ℕ} {f : Form} (o : Opened d at s f) (r : Reads (read_ty d s at)) where
    pub primitive_is : (kept : Extents) → f ≡ OfType Primitive → sized (get_primitive_size (get_or s at 0)) (get_primitive_size (get_or s at 0)) ≡ part_of s kept (type_at d s at)
    unfolding part_of
    primitive_is kept p = sym (rw (primitive_tree o r p))

    pub primitive_ended : f ≡ OfType Primitive → Ok (at + 1) ≡ step_of (read_ty d s at)
    primitive_ended p = sym (primitive_ends o p)

    pub type_ref_is : (kept : Extents) → f ≡ OfType TypeRef → known s kept (little s (at + 1) 2) ≡ part_of s kept (type_at d s at)
    unfolding part_of
    type_ref_is kept p = sym (ap (part_of s kept) (typeRef-found o r p))

    pub type_ref_ended : f ≡ OfType TypeRef → Ok (at + 1 + 2) ≡ step_of (read_ty d s at)
    type_ref_ended p =
        let m = ended (body 2 s (at + 1)) (type_ref_reads o r p) in
        sym (type_ref_ends o p ∙ sym m.1 ∙ ap Ok (body_where 2 (at + 1) m.0 s m.1).0)

    pub struct_is : (kept : Extents) → f ≡ OfType Struct → group_of s kept 0x50 (value_or zero_group (read_group (read_ty (d - 1)) 0x50 s (at + 1))) ≡ part_of s kept (type_at d s at)
    struct_is kept p = struct_group kept _ ∙ sym (ap (part_of s kept) (struct_tree o r zero_group p))

    pub union_is : (kept : Extents) → f ≡ OfType Union → group_of s kept 0x51 (value_or zero_group (read_group (read_ty (d - 1)) 0x51 s (at + 1))) ≡ part_of s kept (type_at d s at)
    union_is kept p = union_group kept _ ∙ sym (ap (part_of s kept) (union_tree o r zero_group p))

    pub size_union_is : (kept : Extents) → f ≡ OfType SizeUnion → group_of s kept 0x53 (value_or zero_group (read_group (read_ty (d - 1)) 0x53 s (at + 1))) ≡ part_of s kept (type_at d s at)
    size_union_is kept p = size_union_group kept _ ∙ sym (ap (part_of s kept) (size_union_tree o r zero_group p))

    pub enum_is : (kept : Extents) → f ≡ OfType Enum → part_of s kept (value_or (primitive 0) (read_enum (read_expr (d - 1)) (read_ty (d - 1)) s (at + 1))) ≡ part_of s kept (type_at d s at)
    enum_is kept p = sym (ap (part_of s kept) (enum_tree o r p))

    pub array_is : (kept : Extents) → f ≡ OfType Array → part_of s kept (value_or (primitive 0) (read_array (read_expr (d - 1)) (read_ty (d - 1)) s (at + 1))) ≡ part_of s kept (type_at d s at)
    array_is kept p = sym (ap (part_of s kept) (array_tree o r p))

  -- an enum whose tag starts at i and ended at e
  module _ (d b n i e : ℕ) (c : Ok (n, i) ≡ count_of (head 2 s b)) (r : Reads (read_enum (read_expr d) (read_ty d) s b)) (g : Ok e ≡ step_of (read_expr d s i)) where
    pub enum_group : (kept : Extents) → close_of 0x52 (attributes (get_or s b 0) (little s (b + 1) 8)) (members_of s kept 0x52 (get_or s b 0) (members_at d 0x52 n s e) (sized 0 1)) ≡ part_of s kept (value_or (primitive 0) (read_enum (read_expr d) (read_ty d) s b))
    unfolding members_of part_of join_of close_of
    enum_group kept = sym (rw (enum_value (read_expr d) (read_ty d) s b n i c r e g (primitive 0), counted_attributes s b n i c))

    pub enum_ended : step_of (read_members (read_ty d) 0x52 n s e) ≡ step_of (read_enum (read_expr d) (read_ty d) s b)
    enum_ended = sym (enum_members (read_expr d) (read_ty d) s b n i e c g)

  -- an array whose size starts at i and ended at e
  module _ (d b i e : ℕ) (c : Ok i ≡ step_of (array_head s b)) (r : Reads (read_array (read_expr d) (read_ty d) s b)) (g : Ok e ≡ step_of (read_expr d s i)) where
    pub array_group : (kept : Extents) (x : meaning.Extent) → x ≡ part_of s kept (type_at d s e) → (y : Option ℕ) → Counts (get_or s (b + 9) 0) (sizeCount (expr_at d s i)) y
        → array_of 0 (count_meant y) x ≡ part_of s kept (value_or (primitive 0) (read_array (read_expr d) (read_ty d) s b))
    unfolding part_of
    array_group kept x p y q =
        q x
        ∙ ap (array_of (get_or s (b + 9) 0) (sizeCount (expr_at d s i))) p
        ∙ sym (rw (array_value_lem (read_expr d) (read_ty d) s b i c r e g (primitive 0), (array_last s b (ended_reads (array_head s b) i c)).0))

    pub array_ended : step_of (read_ty d s e) ≡ step_of (read_array (read_expr d) (read_ty d) s b)
    array_ended = sym (array_element (read_expr d) (read_ty d) s b i e c g)

-- of n members of kind k at `at`, those behind the first `done`, at `next`, are still to be joined to what these have made
pub record Joining (s : List ℕ) (kept : Extents) (d k packed n at : ℕ) (so : Result Members Unsized) (next done : ℕ) : Type 0 where
  pub reads : Reads (read_members (read_ty d) k (n - done) s next)
  pub step : step_of (read_members (read_ty d) k (n - done) s next) ≡ step_of (read_members (read_ty d) k n s at)
  pub join : members_of s kept k packed (members_at d k (n - done) s next) (members_meant so) ≡ members_of s kept k packed (members_at d k n s at) (sized 0 1)

pub joining_start : {s : List ℕ} {kept : Extents} {d k packed n at : ℕ} → Reads (read_members (read_ty d) k n s at) → (m : Members) → m.end ≡ 0 → m.alignment ≡ 1 → Joining s kept d k packed n at (Ok m) at 0
unfolding members_meant
joining_start {n = n} r m e a =
    let z : n - 0 ≡ n = omega arith in
    record { reads = rw z r; step = rw z refl; join = rw (z, e, a) refl }

module _ {s : List ℕ} {kept : Extents} {d k packed n at : ℕ} {so : Result Members Unsized} {next done : ℕ} (t : Joining s kept d k packed n at so next done) where
  pub joining_end : n ≤ done → IsRead members_meant (members_of s kept k packed (members_at d k n s at) (sized 0 1)) (step_of (read_members (read_ty d) k n s at)) (record { extent = so; end = next })
  unfolding members_of
  joining_end h =
      let e : n - done ≡ 0 = omega arith in
      record {
        is = sym (rw (members_none d k s (n - done) next e)) ∙ t.join;
        ended = sym (many_none more none (read_member (read_ty d) k) s (n - done) next e) ∙ t.step;
      }

  -- the first of them
  module _ (h : done < n) where
    some : 0 < n - done
    some = omega arith

    one_less : n - (done + 1) ≡ n - done - 1
    one_less = omega arith

    pub member_read : Reads (read_member (read_ty d) k s next)
    member_read = many_first more none (read_member (read_ty d) k) s zero_member (n - done) next some t.reads

    module _ (m : ℕ) (e : Ok m ≡ step_of (read_member (read_ty d) k s next)) where
      pub others_read : Reads (read_members (read_ty d) k (n - done - 1) s m)
      others_read = many_rest more none (read_member (read_ty d) k) s zero_member (n - done) next m some e t.reads

      pub members_split : members_at d k (n - done) s next ≡ more (value_or zero_member (read_member (read_ty d) k s next)) (members_at d k (n - done - 1) s m)
      members_split = many_value more none (read_member (read_ty d) k) s zero_member (n - done) next m some e t.reads

    -- it is joined
    pub joining_next : {r : Measured Extent} {so' : Result Members Unsized} → MemberMeasured s kept d k next r
        → members_meant so' ≡ join_of k packed (members_meant so) (extent_meant r.extent) → Joining s kept d k packed n at so' r.end (done + 1)
    unfolding members_of member_of
    joining_next {r} g j =
        record {
          reads = rw one_less (others_read r.end g.ended);
          step = rw one_less (sym (many_more more none (read_member (read_ty d) k) s (n - done) next r.end some g.ended) ∙ t.step);
          join = rw (one_less, j, g.is) (sym (ap (λ ms. members_of s kept k packed ms (members_meant so)) (members_split r.end g.ended)) ∙ t.join);
        }

-- a member whose type stands at i
module _ (s : List ℕ) (kept : Extents) (d k at : ℕ) (r : Reads (read_member (read_ty d) k s at)) where
  pub member_no : (j : Refusal) → Err j ≡ step_of (member_head k s at) → ⊥
  unfolding read_member
  member_no j e = refused_no (member_head k s at) j (first_read s _ (member_head k s at) r) (sym e)

  pub member_is : (i : ℕ) → Ok i ≡ step_of (member_head k s at) → {m : Measured Extent} → TypeMeasured s kept (read_ty d s i) m → MemberMeasured s kept d k at m
  unfolding part_of member_of
  member_is i e g = is_same (sym (ap (λ x. measure_member x (known s kept)) (member_value (read_ty d) k s at i e r zero_member (primitive 0)))) (sym (member_type_lem (read_expr 0) (read_ty d) s at k i e)) g

-- members that are joined as the packed byte says
pub members_packing : (s : List ℕ) (kept : Extents) (k packed : ℕ) (ms : tree.Members) (so : meaning.Extent) → members_of s kept k (mark (packing_of packed)) ms so ≡ members_of s kept k packed ms so
unfolding members_of join_of
members_packing s kept k packed ms so = go ms so
  where
    one : (so e : meaning.Extent) → join_of k (mark (packing_of packed)) so e ≡ join_of k packed so e
    one so e = ap (λ x. cond (eqb k 0x50) x (with_member so e)) (with_packing packed so e)

    go : (ms : tree.Members) (so : meaning.Extent) → measure_all (join_of k (mark (packing_of packed))) ms so (known s kept) ≡ measure_all (join_of k packed) ms so (known s kept)
    go none so = refl
    go (more m ms) so = go ms _ ∙ ap (λ x. measure_all (join_of k packed) ms x (known s kept)) (one so _)

-- the type that has members of kind k: it is fixed, or varies
pub fixed_closed : (k : ℕ) (a : Attributes) (e : meaning.Extent) → k ≤ 0x51 → closed a e ≡ close_of k a e
unfolding close_of
fixed_closed k a e h = rw (le-leb k 0x51 h)

pub varying_closed : (k : ℕ) (a : Attributes) (e : meaning.Extent) → 0x51 < k → closed a (varying e) ≡ close_of k a e
unfolding close_of
varying_closed k a e h = rw (lt-leb k 0x51 h)

-- members of kind k that were closed
pub closed_same : (k packed aligned : ℕ) {e f : meaning.Extent} {m n : Result ℕ Refusal} {r : Measured Members} {x : Result Extent Unsized}
    → extent_meant x ≡ close_of k (attributes packed aligned) (members_meant r.extent)
    → IsRead members_meant e m r → close_of k (attributes packed aligned) e ≡ f → m ≡ n
    → IsRead extent_meant f n (record { extent = x; end = r.end })
closed_same k packed aligned w g p q = record { is = w ∙ ap (close_of k (attributes packed aligned)) g.is ∙ p; ended = g.ended ∙ q }

-- the kept extent of the first definition of the name n
module _ (s : List ℕ) (kept : Extents) (n : ℕ) where
  pub name_none : count (bundle_of s) ≤ definition_of (bundle_of s) n → extent_meant (Err Varies) ≡ known s kept n
  unfolding known extent_meant
  name_none h = sym (rw (le-ltb (definition_of (bundle_of s) n) (count (bundle_of s)) h) refl)

  pub name_kept : {i : ℕ} → (i ≡ definition_of (bundle_of s) n) × (i < count (bundle_of s)) → i < length kept → {r : Result Extent Unsized} (d : Option (Result Extent Unsized)) → r ≡ unwrap_or (get_or kept i d) (Err Circle) → extent_meant r ≡ known s kept n
  unfolding known
  name_kept {i} f h d e = ap extent_meant (e ∙ ap (λ o. unwrap_or o (Err Circle)) (get_or_default kept i d None h) ∙ ap (kept_at kept) f.0) ∙ sym (rw (lt-ltb (definition_of (bundle_of s) n) (count (bundle_of s)) (omega (arith, f.0, f.1))) refl)
