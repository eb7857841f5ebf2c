-- What is read is within the limits: its numbers fit their bytes, its kinds lie in their ranges, its depth and counts are allowed.
use Prim.Native.Nat.{ℕ, zero, suc, ◌+◌, ◌-◌, ◌*◌, ◌≤◌, ◌<◌}
use native.Mathlib.Omega.{arith}
use mathlib.Core.Bool.{Bool, true, false, cond, ◌&&◌}
use mathlib.Core.Path.{◌≡◌, refl, ap, subst}
use mathlib.Core.List.{List, [], ◌∷◌}
use lib.ListN.{length, get_or}
use lib.Dec.{T, eqb, leb, leb→le, eqb→eq}
use borrow.Author.Tests.{leb-true, eqb-true}
use Rattle.meaning.specs.Limits.{size_limit, definition_limit, edge_limit, depth_limit}
use Rattle.meaning.specs.Kinds.{ExprForm, Literal, FieldRef, Sizeof, Alignof, Binary, Unary}
use Rattle.meaning.specs.Kinds.{TypeForm, Primitive, TypeRef, Struct, Union, Enum, Array, SizeUnion}
use Rattle.meaning.specs.Kinds.{Form, OfExpr, OfType, OfMember, OfRecord, Unknown, form_of, lookup, widths}
use Rattle.meaning.specs.Tree.{Expr, Ty, Member, Members, none, more, Definition, Edge, Bundle}
use Rattle.meaning.specs.Reader.{ok, refused, Reader, after, due, number, check, many, little}
use Rattle.meaning.specs.ReadExpr.{body, read_expr, expr_after, expr_body, kind}
use Rattle.meaning.specs.ReadType.{Head, head, member_body, member_head, read_member, read_members, Group, read_group, read_enum, array_head, read_array, type_body, type_after, read_ty}
use Rattle.meaning.specs.ReadBundle.{opening, read_definition, read_edge, Header, read_header, end, read_edges, read_rest, read_records, read_bundle}
use Rattle.meaning.specs.Encoding.{Bytes, member_count, bundle_bytes}
use Rattle.meaning.specs.Within.{Fits, Each, Between, ExprOk, expr_depth, AttributesOk, TyOk, MemberOk, MembersOk, ty_depth, member_depth, members_depth, DefinitionOk, EdgeOk, BundleOk}
use Rattle.meaning.proofs.Readings.{went}
use Rattle.meaning.proofs.KindTable.{and_0, and_1}
use Rattle.meaning.proofs.ExprSpans.{agree, agrees, all_at, little_fits, kind_spans, settle, no}
use Rattle.meaning.proofs.TypeSpans.{passed}
use Rattle.meaning.proofs.BundleSpans.{bundle_law}

-- kind k is between lo and hi
abbrev inside : ℕ → ℕ → ℕ → Bool
inside lo hi k = leb lo k && leb k hi

between : (lo hi k : ℕ) → T (inside lo hi k) → Between lo hi k
between lo hi k t = (leb→le lo k (and_0 (leb lo k) (leb k hi) t), leb→le k hi (and_1 (leb lo k) (leb k hi) t))

-- the range of a kind, or of a count of names, by the form
abbrev ranged : ℕ → Form → Bool
ranged k (OfExpr (Literal w)) = inside 0x01 0x08 k
ranged k (OfExpr (FieldRef n)) = inside 1 4 n
ranged k (OfExpr Sizeof) = true
ranged k (OfExpr Alignof) = true
ranged k (OfExpr Binary) = inside 0x10 0x23 k
ranged k (OfExpr Unary) = inside 0x24 0x27 k
ranged k (OfType Primitive) = inside 0x30 0x3B k
ranged k (OfType TypeRef) = true
ranged k (OfType Struct) = true
ranged k (OfType Union) = true
ranged k (OfType Enum) = true
ranged k (OfType Array) = true
ranged k (OfType SizeUnion) = true
ranged k (OfMember w) = true
ranged k (OfRecord before names behind) = true
ranged k Unknown = true

in_range : (k : ℕ) (f : Form) → k < 256 → f ≡ form_of k → T (ranged k f)
unfolding lookup
in_range k f h e = rw e (all_at (λ k. ranged k (form_of k)) 256 k tt h)

-- what holds of each value that is read holds of them gathered
module _ {A B : Type 0} (s : List ℕ) (cons : A → B → B) (nil : B) (r : Reader A) (P : A → Type 0) (Q : ℕ → B → Type 0)
    (law : (at n : ℕ) (a : A) → r s at ≡ ok a n → P a) (start : Q 0 nil) (next : (n : ℕ) (a : A) (b : B) → P a → Q n b → Q (suc n) (cons a b)) where
  pub many_within : (n at m : ℕ) (b : B) → many cons nil r n s at ≡ ok b m → Q n b
  unfolding many
  many_within zero at m b e = settle (λ b m. Q 0 b) e start
  many_within (suc n) at m b e =
      let g = went (r s at) _ s b m e in
      let h = went (many cons nil r n s g.middle) _ s b m g.then in
      settle (λ b m. Q (suc n) b) h.then
      (next n g.value h.value (law at g.middle g.value g.first) (many_within n g.middle h.middle h.value h.first))

-- of a list: each value, and how many there are
pub list_within : {A : Type 0} (s : List ℕ) (r : Reader A) (P : A → Type 0) → ((at n : ℕ) (a : A) → r s at ≡ ok a n → P a)
    → (n at m : ℕ) (l : List A) → many ◌∷◌ [] r n s at ≡ ok l m → Each P l × (length l ≡ n)
list_within s r P law =
    many_within s ◌∷◌ [] r P (λ n l. Each P l × (length l ≡ n)) law (tt, refl) (λ n a b p q. ((p, q.0), ap suc q.1))

module _ (s : List ℕ) (bytes : Bytes s) where
  -- a body that is one number
  body_fits : (w at v n : ℕ) → body w s at ≡ ok v n → Fits w v
  body_fits w at v n e =
      let g = went (due w s at) _ s v n e in
      let p : little s g.middle w ≡ v = cc in
      rw (← p) (little_fits s bytes w g.middle)

  -- an expression, if those inside it are
  module _ (inner : Reader Expr) (d : ℕ) (law : (at n : ℕ) (e : Expr) → inner s at ≡ ok e n → ExprOk e × (expr_depth e ≤ d)) where
    expr_body_within : (k at n : ℕ) (e : Expr) (f : ExprForm) → T (agree k (OfExpr f)) → T (ranged k (OfExpr f)) → expr_body inner k f s at ≡ ok e n
        → ExprOk e × (expr_depth e ≤ suc d)
    unfolding expr_body
    expr_body_within k at n e (Literal w) a t r =
        let g = went (body w s at) _ s e n r in
        settle (λ e n. ExprOk e × (expr_depth e ≤ suc d)) g.then
        ((between 0x01 0x08 k t, rw (← eqb→eq w (get_or widths (k - 1) 0) a) (body_fits w at g.value g.middle g.first)), omega arith)
    expr_body_within k at n e (FieldRef m) a t r =
        let g = went (due (2 * m) s at) _ s e n r in
        let h = went (many ◌∷◌ [] (number 2) m s g.middle) _ s e n g.then in
        let q = list_within s (number 2) (Fits 2) (λ i j v p. let z : little s i 2 ≡ v = cc in rw (← z) (little_fits s bytes 2 i)) m g.middle h.middle h.value h.first in
        settle (λ e n. ExprOk e × (expr_depth e ≤ suc d)) h.then ((rw q.1 (between 1 4 m t), q.0), omega arith)
    expr_body_within k at n e Sizeof a t r =
        let g = went (body 2 s at) _ s e n r in
        settle (λ e n. ExprOk e × (expr_depth e ≤ suc d)) g.then (body_fits 2 at g.value g.middle g.first, omega arith)
    expr_body_within k at n e Alignof a t r =
        let g = went (body 2 s at) _ s e n r in
        settle (λ e n. ExprOk e × (expr_depth e ≤ suc d)) g.then (body_fits 2 at g.value g.middle g.first, omega arith)
    expr_body_within k at n e Binary a t r =
        let g = went (inner s at) _ s e n r in
        let h = went (inner s g.middle) _ s e n g.then in
        let p = law at g.middle g.value g.first in
        let q = law g.middle h.middle h.value h.first in
        settle (λ e n. ExprOk e × (expr_depth e ≤ suc d)) h.then ((between 0x10 0x23 k t, p.0, q.0), omega (arith, p.1, q.1))
    expr_body_within k at n e Unary a t r =
        let g = went (inner s at) _ s e n r in
        let p = law at g.middle g.value g.first in
        settle (λ e n. ExprOk e × (expr_depth e ≤ suc d)) g.then ((between 0x24 0x27 k t, p.0), omega (arith, p.1))

  -- an expression
  pub expr_within : (d at n : ℕ) (e : Expr) → read_expr d s at ≡ ok e n → ExprOk e × (expr_depth e ≤ d)
  unfolding read_expr expr_after
  expr_within zero at n e r = no r
  expr_within (suc d) at n e r =
      let g = went (kind s at) _ s e n r in
      let q = kind_spans s bytes at g.value g.middle g.first in
      form g.value g.middle (rw q.0 (bytes at)) (form_of g.value) refl (λ i j x y. expr_within d i j x y) g.then
    where
      form : (k m : ℕ) → k < 256 → (f : Form) → f ≡ form_of k → ((i j : ℕ) (x : Expr) → read_expr d s i ≡ ok x j → ExprOk x × (expr_depth x ≤ d))
          → expr_after (read_expr d) k f s m ≡ ok e n → ExprOk e × (expr_depth e ≤ suc d)
      form k m b (OfExpr f) p law q = expr_body_within (read_expr d) d law k m n e f (agrees k (OfExpr f) b p) (in_range k (OfExpr f) b p) q
      form k m b (OfType f) p law q = no q
      form k m b (OfMember w) p law q = no q
      form k m b (OfRecord before names behind) p law q = no q
      form k m b Unknown p law q = no q

  -- the attributes of a type and the number behind them
  head_within : (w at n : ℕ) (h : Head) → head w s at ≡ ok h n → AttributesOk h.attributes × Fits w h.last
  unfolding head
  head_within w at n h e =
      let g = went (due (9 + w) s at) _ s h n e in
      rest g.middle g.then
    where
      rest : (i : ℕ)
          → after (check (leb (get_or s i 0) 1) 4 s (i + 1 + 8 + w)) (λ u t j. ok (record { attributes = record { packed = get_or s i 0; aligned = little s (i + 1) 8 }; last = little s (i + 1 + 8) w }) j) s ≡ ok h n
          → AttributesOk h.attributes × Fits w h.last
      rest i q =
          let g = went (check (leb (get_or s i 0) 1) 4 s (i + 1 + 8 + w)) _ s h n q in
          let t = passed (leb (get_or s i 0) 1) 4 s (i + 1 + 8 + w) g.value g.middle g.first in
          settle (λ (h : Head) n. AttributesOk h.attributes × Fits w h.last) g.then
          ((leb-true (get_or s i 0) 1 t.0, little_fits s bytes 8 (i + 1)), little_fits s bytes w (i + 1 + 8))

  -- name and value of a member
  member_head_within : (m w : ℕ) → OfMember w ≡ form_of m → (at n : ℕ) (h : ℕ × ℕ) → member_head m s at ≡ ok h n → Fits 2 h.0 × Fits w h.1
  unfolding member_head member_body
  member_head_within m w f at n h e =
      let g = went (kind s at) _ s h n e in
      let c = went (check (eqb g.value m) 3 s g.middle) _ s h n g.then in
      let p = passed (eqb g.value m) 3 s g.middle c.value c.middle c.first in
      values g.value c.middle (eqb-true g.value m p.0) c.then
    where
      values : (k i : ℕ) → k ≡ m → member_body (form_of k) s i ≡ ok h n → Fits 2 h.0 × Fits w h.1
      values k i z q =
          let g = went (due (2 + w) s i) _ s h n (rw (z, ← f) at q) in
          settle (λ (h : ℕ × ℕ) n. Fits 2 h.0 × Fits w h.1) g.then
          (little_fits s bytes 2 g.middle, little_fits s bytes w (g.middle + 2))

  -- a type, if the expressions and types inside are
  module _ (expr : Reader Expr) (inner : Reader Ty) (d : ℕ)
      (expr-law : (at n : ℕ) (e : Expr) → expr s at ≡ ok e n → ExprOk e × (expr_depth e ≤ d))
      (law : (at n : ℕ) (t : Ty) → inner s at ≡ ok t n → TyOk t × (ty_depth t ≤ d)) where
    module _ (m w : ℕ) (f : OfMember w ≡ form_of m) where
      member_within : (at n : ℕ) (x : Member) → read_member inner m s at ≡ ok x n → MemberOk x w × (member_depth x ≤ d)
      unfolding read_member
      member_within at n x e =
          let g = went (member_head m s at) _ s x n e in
          let h = went (inner s g.middle) _ s x n g.then in
          let p = member_head_within m w f at g.middle g.value g.first in
          let q = law g.middle h.middle h.value h.first in
          settle (λ x n. MemberOk x w × (member_depth x ≤ d)) h.then ((p.0, p.1, q.0), q.1)

      members_within : (n at i : ℕ) (ms : Members) → read_members inner m n s at ≡ ok ms i → MembersOk ms w × (members_depth ms ≤ d) × (member_count ms ≡ n)
      unfolding member_count
      members_within =
          many_within s more none (read_member inner m) (λ x. MemberOk x w × (member_depth x ≤ d))
          (λ n ms. MembersOk ms w × (members_depth ms ≤ d) × (member_count ms ≡ n)) member_within (tt, omega arith, refl)
          (λ n a b p q. ((p.0, q.0), omega (arith, p.1, q.1), ap suc q.2))

      group_within : (at n : ℕ) (g : Group) → read_group inner m s at ≡ ok g n
          → AttributesOk g.attributes × Fits 2 (member_count g.members) × MembersOk g.members w × (members_depth g.members ≤ d)
      unfolding read_group
      group_within at n g e =
          let h = went (head 2 s at) _ s g n e in
          let x = went (read_members inner m h.value.last s h.middle) _ s g n h.then in
          let p = head_within 2 at h.middle h.value h.first in
          let q = members_within h.value.last h.middle x.middle x.value x.first in
          settle (λ (g : Group) n. AttributesOk g.attributes × Fits 2 (member_count g.members) × MembersOk g.members w × (members_depth g.members ≤ d)) x.then
          (p.0, rw q.2 p.1, q.0, q.1)

    enum_within : (at n : ℕ) (t : Ty) → read_enum expr inner s at ≡ ok t n → TyOk t × (ty_depth t ≤ suc d)
    unfolding read_enum lookup
    enum_within at n t e =
        let h = went (head 2 s at) _ s t n e in
        let g = went (expr s h.middle) _ s t n h.then in
        let x = went (read_members inner 0x52 h.value.last s g.middle) _ s t n g.then in
        let a = head_within 2 at h.middle h.value h.first in
        let p = expr-law h.middle g.middle g.value g.first in
        let q = members_within 0x52 8 refl h.value.last g.middle x.middle x.value x.first in
        settle (λ t n. TyOk t × (ty_depth t ≤ suc d)) x.then ((a.0, rw q.2 a.1, p.0, q.0), omega (arith, p.1, q.1))

    array_within : (at n : ℕ) (t : Ty) → read_array expr inner s at ≡ ok t n → TyOk t × (ty_depth t ≤ suc d)
    unfolding read_array array_head
    array_within at n t e =
        let h = went (array_head s at) _ s t n e in
        let g = went (expr s h.middle) _ s t n h.then in
        let x = went (inner s g.middle) _ s t n g.then in
        let i = went (head 1 s at) _ s h.value h.middle h.first in
        let c = went (check (leb i.value.last 1) 4 s i.middle) _ s h.value h.middle i.then in
        let j = passed (leb i.value.last 1) 4 s i.middle c.value c.middle c.first in
        let a = head_within 1 at i.middle i.value i.first in
        let same : i.value ≡ h.value = cc in
        let p = expr-law h.middle g.middle g.value g.first in
        let q = law g.middle x.middle x.value x.first in
        settle (λ t n. TyOk t × (ty_depth t ≤ suc d)) x.then
        ((subst (λ (v : Head). AttributesOk v.attributes) same a.0, subst (λ (v : Head). v.last ≤ 1) same (leb-true i.value.last 1 j.0), p.0, q.0), omega (arith, p.1, q.1))

    type_body_within : (k at n : ℕ) (t : Ty) (f : TypeForm) → T (ranged k (OfType f)) → type_body expr inner k f s at ≡ ok t n → TyOk t × (ty_depth t ≤ suc d)
    unfolding type_body lookup
    type_body_within k at n t Primitive a r = settle (λ t n. TyOk t × (ty_depth t ≤ suc d)) r (between 0x30 0x3B k a, omega arith)
    type_body_within k at n t TypeRef a r =
        let g = went (body 2 s at) _ s t n r in
        settle (λ t n. TyOk t × (ty_depth t ≤ suc d)) g.then (body_fits 2 at g.value g.middle g.first, omega arith)
    type_body_within k at n t Struct a r =
        let g = went (read_group inner 0x50 s at) _ s t n r in
        let p = group_within 0x50 0 refl at g.middle g.value g.first in
        settle (λ t n. TyOk t × (ty_depth t ≤ suc d)) g.then ((p.0, p.1, p.2), omega (arith, p.3))
    type_body_within k at n t Union a r =
        let g = went (read_group inner 0x51 s at) _ s t n r in
        let p = group_within 0x51 0 refl at g.middle g.value g.first in
        settle (λ t n. TyOk t × (ty_depth t ≤ suc d)) g.then ((p.0, p.1, p.2), omega (arith, p.3))
    type_body_within k at n t Enum a r = enum_within at n t r
    type_body_within k at n t Array a r = array_within at n t r
    type_body_within k at n t SizeUnion a r =
        let g = went (read_group inner 0x53 s at) _ s t n r in
        let p = group_within 0x53 8 refl at g.middle g.value g.first in
        settle (λ t n. TyOk t × (ty_depth t ≤ suc d)) g.then ((p.0, p.1, p.2), omega (arith, p.3))

  -- a type
  pub type_within : (d at n : ℕ) (t : Ty) → read_ty d s at ≡ ok t n → TyOk t × (ty_depth t ≤ d)
  unfolding read_ty type_after
  type_within zero at n t r = no r
  type_within (suc d) at n t r =
      let g = went (kind s at) _ s t n r in
      let q = kind_spans s bytes at g.value g.middle g.first in
      form g.value g.middle (rw q.0 (bytes at)) (form_of g.value) refl (λ i j x y. type_within d i j x y) g.then
    where
      form : (k m : ℕ) → k < 256 → (f : Form) → f ≡ form_of k → ((i j : ℕ) (x : Ty) → read_ty d s i ≡ ok x j → TyOk x × (ty_depth x ≤ d))
          → type_after (read_expr d) (read_ty d) k f s m ≡ ok t n → TyOk t × (ty_depth t ≤ suc d)
      form k m b (OfType f) p law q = type_body_within (read_expr d) (read_ty d) d (expr_within d) law k m n t f (in_range k (OfType f) b p) q
      form k m b (OfExpr f) p law q = no q
      form k m b (OfMember w) p law q = no q
      form k m b (OfRecord before names behind) p law q = no q
      form k m b Unknown p law q = no q

  -- a definition
  pub definition_within : (at n : ℕ) (d : Definition) → read_definition s at ≡ ok d n → DefinitionOk d
  unfolding read_definition
  definition_within at n d e =
      let o = went (opening 0x61 s at) _ s d n e in
      let b = o.middle in
      let g = went (read_ty depth_limit s (b + 2)) _ s d n o.then in
      let p = type_within depth_limit (b + 2) g.middle g.value g.first in
      settle (λ (d : Definition) n. DefinitionOk d) g.then (little_fits s bytes 2 b, p.0, p.1)

  -- an edge
  pub edge_within : (at n : ℕ) (x : Edge) → read_edge s at ≡ ok x n → EdgeOk x
  unfolding read_edge
  edge_within at n x e =
      let o = went (opening 0x62 s at) _ s x n e in
      parts o.middle o.then
    where
      parts : (b : ℕ)
          → after (check (leb (get_or s (b + 2 + 2) 0) 3) 4 s (b + 2 + 2 + 1)) (λ u t j. ok (record { from = little s b 2; to = little s (b + 2) 2; kind = get_or s (b + 2 + 2) 0 }) j) s ≡ ok x n
          → EdgeOk x
      parts b q =
          let c = went (check (leb (get_or s (b + 2 + 2) 0) 3) 4 s (b + 2 + 2 + 1)) _ s x n q in
          let t = passed (leb (get_or s (b + 2 + 2) 0) 3) 4 s (b + 2 + 2 + 1) c.value c.middle c.first in
          settle (λ (x : Edge) n. EdgeOk x) c.then (little_fits s bytes 2 b, little_fits s bytes 2 (b + 2), leb-true (get_or s (b + 2 + 2) 0) 3 t.0)

  -- the header
  pub header_within : (at n : ℕ) (h : Header) → read_header s at ≡ ok h n → (h.definitions ≤ definition_limit) × (h.edges ≤ edge_limit) × Fits 2 h.current
  unfolding read_header
  header_within at n h e =
      let o = went (opening 0x60 s at) _ s h n e in
      parts o.middle o.then
    where
      parts : (b : ℕ)
          → after (check (leb (little s b 2) definition_limit && leb (little s (b + 2) 2) edge_limit) 5 s (b + 2 + 2 + 2)) (λ u t j. ok (record { definitions = little s b 2; edges = little s (b + 2) 2; current = little s (b + 2 + 2) 2 }) j) s ≡ ok h n
          → (h.definitions ≤ definition_limit) × (h.edges ≤ edge_limit) × Fits 2 h.current
      parts b q =
          let c = went (check (leb (little s b 2) definition_limit && leb (little s (b + 2) 2) edge_limit) 5 s (b + 2 + 2 + 2)) _ s h n q in
          let t = passed (leb (little s b 2) definition_limit && leb (little s (b + 2) 2) edge_limit) 5 s (b + 2 + 2 + 2) c.value c.middle c.first in
          let u : T (leb (little s b 2) definition_limit && leb (little s (b + 2) 2) edge_limit) = rw t.0 tt in
          settle (λ (h : Header) n. (h.definitions ≤ definition_limit) × (h.edges ≤ edge_limit) × Fits 2 h.current) c.then
          (leb→le (little s b 2) definition_limit (and_0 (leb (little s b 2) definition_limit) (leb (little s (b + 2) 2) edge_limit) u), leb→le (little s (b + 2) 2) edge_limit (and_1 (leb (little s b 2) definition_limit) (leb (little s (b + 2) 2) edge_limit) u), little_fits s bytes 2 (b + 2 + 2))

  -- the definitions, the edges and the end
  rest_within : (d m at n : ℕ) (r : List Definition × List Edge) → read_rest d m s at ≡ ok r n
      → Each DefinitionOk r.0 × (length r.0 ≡ d) × Each EdgeOk r.1 × (length r.1 ≡ m)
  unfolding read_rest read_edges
  rest_within d m at n r e =
      let g = went (many ◌∷◌ [] read_definition d s at) _ s r n e in
      let c = went (read_edges m s g.middle) _ s r n g.then in
      let x = went (many ◌∷◌ [] read_edge m s g.middle) _ s c.value c.middle c.first in
      let y = went (end s x.middle) _ s c.value c.middle x.then in
      let p = list_within s read_definition DefinitionOk definition_within d at g.middle g.value g.first in
      let q = list_within s read_edge EdgeOk edge_within m g.middle x.middle x.value x.first in
      let es = settle (λ (es : List Edge) n. Each EdgeOk es × (length es ≡ m)) y.then q in
      settle (λ (r : List Definition × List Edge) n. Each DefinitionOk r.0 × (length r.0 ≡ d) × Each EdgeOk r.1 × (length r.1 ≡ m)) c.then
      (p.0, p.1, es.0, es.1)

-- what is read is within the limits
pub bundle_within : (s : List ℕ) → Bytes s → (b : Bundle) (n : ℕ) → read_bundle s ≡ ok b n → BundleOk b
unfolding read_bundle read_records
bundle_within s bytes b n e = records (leb (length s) size_limit) refl e
  where
    records : (t : Bool) → leb (length s) size_limit ≡ t → cond t (read_records s 0) (refused 1) ≡ ok b n → BundleOk b
    records true u q =
        let g = went (read_header s 0) _ s b n q in
        let c = went (read_rest g.value.definitions g.value.edges s g.middle) _ s b n g.then in
        let h = header_within s bytes 0 g.middle g.value g.first in
        let r = rest_within s bytes g.value.definitions g.value.edges g.middle c.middle c.value c.first in
        settle (λ (b : Bundle) n. length (bundle_bytes b) ≤ size_limit → BundleOk b) c.then
        (λ small. record { definitions = (rw r.1 h.0, r.0); edges = (rw r.3 h.1, r.2); current = h.2; size = small })
        (rw (bundle_law s bytes b n e) (leb-true (length s) size_limit u))
    records false u q = no q
