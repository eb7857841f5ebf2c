-- A type that was read from bytes is written as those bytes.
use Prim.Native.Nat.{ℕ, zero, suc, ◌+◌, ◌≤◌, ◌<◌}
use native.Mathlib.Omega.{arith}
use mathlib.Core.Bool.{Bool, true, false}
use mathlib.Core.Path.{◌≡◌, refl, ap, ◌∙◌}
use mathlib.Core.List.{List, [], ◌∷◌, ◌++◌}
use lib.ListN.{length, get_or, drop}
use lib.Dec.{T, leb, eqb, eqb→eq}
use borrow.Author.Tests.{eqb-true}
use Rattle.meaning.specs.Kinds.{TypeForm}
use Rattle.meaning.specs.Kinds.{Primitive, TypeRef, Struct, Union, Enum, Array, SizeUnion}
use Rattle.meaning.specs.Kinds.{Form}
use Rattle.meaning.specs.Kinds.{OfExpr, OfType, OfMember, OfRecord, Unknown}
use Rattle.meaning.specs.Kinds.{form_of, lookup}
use Rattle.meaning.specs.Tree.{Expr, Ty, Member, Members, none, more}
use Rattle.meaning.specs.ReadExpr.{body, read_expr, kind}
use Rattle.meaning.specs.ReadType.{Head, head, member_body, member_head, read_member, read_members, Group, read_group, read_enum, array_head, read_array, type_body, type_after, read_ty}
use Rattle.meaning.specs.Reader.{ok, Reader, after, due, check, many, little}
use Rattle.meaning.specs.Encoding.{Bytes, member_count}
use Rattle.meaning.proofs.Written.{bytes_of, expr_bytes, head_bytes, type_bytes, member_bytes, members_bytes, name_bytes}
use Rattle.meaning.proofs.Readings.{went, there}
use Rattle.meaning.proofs.ExprSpans.{Spans, both, byte_spans, number_spans, name_spans, name_body_spans, kind_spans, settle, agree, agrees, node_spans, no, expr_spans}

-- a check that let reading go on
pub passed : (t : Bool) (k : ℕ) (s : List ℕ) (at : ℕ) (u : Unit {0}) (m : ℕ) → check t k s at ≡ ok u m → (t ≡ true) × (m ≡ at)
passed true k s at u m e = (refl, cc)
passed false k s at u m e = no e

-- values read one after the other: each of them, in order, and their number
module _ {A B : Type 0} (s : List ℕ) (cons : A → B → B) (nil : B) (r : Reader A) (one : A → List ℕ) (every : B → List ℕ) (size : B → ℕ)
    (law : (at n : ℕ) (a : A) → r s at ≡ ok a n → Spans s at (one a) n)
    (none_is : every nil ≡ []) (more_is : (a : A) (b : B) → every (cons a b) ≡ one a ++ every b)
    (size_none : size nil ≡ 0) (size-more : (a : A) (b : B) → size (cons a b) ≡ suc (size b)) where
  pub many_spans : (n at m : ℕ) (b : B) → many cons nil r n s at ≡ ok b m → Spans s at (every b) m × (size b ≡ n)
  unfolding many
  many_spans zero at m b e = settle (λ b m. Spans s at (every b) m × (size b ≡ 0)) e (rw none_is, size_none)
  many_spans (suc n) at m b e =
      let g = went (r s at) _ s b m e in
      let h = went (many cons nil r n s g.middle) _ s b m g.then in
      let q = many_spans n g.middle h.middle h.value h.first in
      settle (λ b m. Spans s at (every b) m × (size b ≡ suc n)) h.then (
        rw (more_is g.value h.value) (both s at g.middle h.middle (one g.value) (every h.value) (law at g.middle g.value g.first) q.0),
        size-more g.value h.value ∙ ap suc q.1,
      )

module _ (s : List ℕ) (bytes : Bytes s) where
  -- the body of a struct, union, enum or array
  pub head_spans : (w at n : ℕ) (h : Head) → head w s at ≡ ok h n → Spans s at (head_bytes h.attributes w h.last) n
  unfolding head head_bytes
  head_spans w at n h e =
      let g = went (due (9 + w) s at) _ s h n e in
      let t = there (9 + w) at s g.value g.middle g.first in
      rest g.middle t.same t.bound g.then
    where
      rest : (i : ℕ) → i ≡ at → at + (9 + w) ≤ length s
          → after (check (leb (get_or s i 0) 1) 4 s (i + 1 + 8 + w)) (λ u t j. ok (record { attributes = record { packed = get_or s i 0; aligned = little s (i + 1) 8 }; last = little s (i + 1 + 8) w }) j) s ≡ ok h n
          → Spans s at (head_bytes h.attributes w h.last) n
      rest i p b q =
          let g = went (check (leb (get_or s i 0) 1) 4 s (i + 1 + 8 + w)) _ s h n q in
          let t = passed (leb (get_or s i 0) 1) 4 s (i + 1 + 8 + w) g.value g.middle g.first in
          settle (λ (h : Head) n. Spans s at (head_bytes h.attributes w h.last) n) g.then
          (rw (t.1, p)
          (both s at (at + 1 + 8) (at + 1 + 8 + w) (get_or s at 0 ∷ bytes_of 8 (little s (at + 1) 8)) (bytes_of w (little s (at + 1 + 8) w))
          (both s at (at + 1) (at + 1 + 8) (get_or s at 0 ∷ []) (bytes_of 8 (little s (at + 1) 8)) (byte_spans s bytes at (omega arith)) (number_spans s bytes 8 (at + 1) (omega arith)))
          (number_spans s bytes w (at + 1 + 8) (omega arith))))

  -- the same, with the number of members that were read in the place of the member_count
  pub counted : (at n : ℕ) (h : Head) (c : ℕ) → c ≡ h.last → head 2 s at ≡ ok h n → Spans s at (head_bytes h.attributes 2 c) n
  counted at n h c e r = rw e (head_spans 2 at n h r)

  -- the body of an array
  pub array_head_spans : (at n : ℕ) (h : Head) → array_head s at ≡ ok h n → Spans s at (head_bytes h.attributes 1 h.last) n
  unfolding array_head
  array_head_spans at n h e =
      let g = went (head 1 s at) _ s h n e in
      let c = went (check (leb g.value.last 1) 4 s g.middle) _ s h n g.then in
      let p = passed (leb g.value.last 1) 4 s g.middle c.value c.middle c.first in
      settle (λ (h : Head) n. Spans s at (head_bytes h.attributes 1 h.last) n) c.then
      (rw p.1 (head_spans 1 at g.middle g.value g.first))

  -- a kind byte that must be m
  pub expected : (m at k i j : ℕ) (u : Unit {0}) → kind s at ≡ ok k i → check (eqb k m) 3 s i ≡ ok u j → (k ≡ m) × Spans s at (m ∷ []) j
  expected m at k i j u e c =
      let p = passed (eqb k m) 3 s i u j c in
      let q : k ≡ m = eqb-true k m p.0 in
      (q, rw (← q, p.1) (node_spans s bytes at k i i (k ∷ []) e refl))

  -- the kind, name and value of a member
  pub member_head_spans : (m w : ℕ) → OfMember w ≡ form_of m → (at n : ℕ) (h : ℕ × ℕ) → member_head m s at ≡ ok h n → Spans s at (m ∷ name_bytes h.0 ++ bytes_of w h.1) n
  unfolding member_head member_body
  member_head_spans m w f at n h e =
      let g = went (kind s at) _ s h n e in
      let c = went (check (eqb g.value m) 3 s g.middle) _ s h n g.then in
      let x = expected m at g.value g.middle c.middle c.value g.first c.first in
      values g.value c.middle x.0 x.1 c.then
    where
      pair : (i : ℕ) → i + (2 + w) ≤ length s → Spans s at (m ∷ []) i → Spans s at (m ∷ name_bytes (little s i 2) ++ bytes_of w (little s (i + 2) w)) (i + 2 + w)
      pair i b p =
          both s at (i + 2) (i + 2 + w) (m ∷ name_bytes (little s i 2)) (bytes_of w (little s (i + 2) w))
          (both s at i (i + 2) (m ∷ []) (name_bytes (little s i 2)) p (name_spans s bytes i (omega arith)))
          (number_spans s bytes w (i + 2) (omega arith))

      ends : (i j : ℕ) → j ≡ i → i + (2 + w) ≤ length s → Spans s at (m ∷ []) i → ok (little s j 2, little s (j + 2) w) (j + 2 + w) ≡ ok h n → Spans s at (m ∷ name_bytes h.0 ++ bytes_of w h.1) n
      ends i j e b p q = settle (λ (h : ℕ × ℕ) n. Spans s at (m ∷ name_bytes h.0 ++ bytes_of w h.1) n) (rw e at q) (pair i b p)

      values : (k i : ℕ) → k ≡ m → Spans s at (m ∷ []) i → member_body (form_of k) s i ≡ ok h n → Spans s at (m ∷ name_bytes h.0 ++ bytes_of w h.1) n
      values k i z p q =
          let g = went (due (2 + w) s i) _ s h n (rw (z, ← f) at q) in
          let t = there (2 + w) i s g.value g.middle g.first in
          ends i g.middle t.same t.bound p g.then

-- the parts of a type, if the expressions and types inside are
module _ (s : List ℕ) (bytes : Bytes s) (expr : Reader Expr) (inner : Reader Ty)
    (expr-law : (at n : ℕ) (e : Expr) → expr s at ≡ ok e n → Spans s at (expr_bytes e) n)
    (law : (at n : ℕ) (t : Ty) → inner s at ≡ ok t n → Spans s at (type_bytes t) n) where
  module _ (m w : ℕ) (f : OfMember w ≡ form_of m) where
    pub member_spans : (at n : ℕ) (x : Member) → read_member inner m s at ≡ ok x n → Spans s at (member_bytes x m w) n
    unfolding read_member type_bytes
    member_spans at n x e =
        let g = went (member_head m s at) _ s x n e in
        let h = went (inner s g.middle) _ s x n g.then in
        settle (λ x n. Spans s at (member_bytes x m w) n) h.then
        (both s at g.middle h.middle (m ∷ name_bytes g.value.0 ++ bytes_of w g.value.1) (type_bytes h.value)
        (member_head_spans s bytes m w f at g.middle g.value g.first) (law g.middle h.middle h.value h.first))

    pub members_spans : (n at i : ℕ) (ms : Members) → read_members inner m n s at ≡ ok ms i → Spans s at (members_bytes ms m w) i × (member_count ms ≡ n)
    unfolding type_bytes member_count
    members_spans n at i ms e =
        many_spans s more none (read_member inner m) (λ x. member_bytes x m w) (λ ms. members_bytes ms m w) member_count
        member_spans refl (λ a b. refl) refl (λ a b. refl) n at i ms e

    pub group_spans : (at n : ℕ) (g : Group) → read_group inner m s at ≡ ok g n → Spans s at (head_bytes g.attributes 2 (member_count g.members) ++ members_bytes g.members m w) n
    unfolding read_group
    group_spans at n g e =
        let h = went (head 2 s at) _ s g n e in
        let x = went (read_members inner m h.value.last s h.middle) _ s g n h.then in
        let q = members_spans h.value.last h.middle x.middle x.value x.first in
        settle (λ (g : Group) n. Spans s at (head_bytes g.attributes 2 (member_count g.members) ++ members_bytes g.members m w) n) x.then
        (both s at h.middle x.middle (head_bytes h.value.attributes 2 (member_count x.value)) (members_bytes x.value m w)
        (counted s bytes at h.middle h.value (member_count x.value) q.1 h.first) q.0)

  pub enum_spans : (at n : ℕ) (t : Ty) → read_enum expr inner s at ≡ ok t n → 0x43 ∷ drop at s ≡ type_bytes t ++ drop n s
  unfolding read_enum type_bytes lookup
  enum_spans at n t e =
      let h = went (head 2 s at) _ s t n e in
      let g = went (expr s h.middle) _ s t n h.then in
      let x = went (read_members inner 0x52 h.value.last s g.middle) _ s t n g.then in
      let q = members_spans 0x52 8 refl h.value.last g.middle x.middle x.value x.first in
      settle (λ t n. 0x43 ∷ drop at s ≡ type_bytes t ++ drop n s) x.then
      (ap (λ (l : List ℕ). 0x43 ∷ l)
      (both s at g.middle x.middle (head_bytes h.value.attributes 2 (member_count x.value) ++ expr_bytes g.value) (members_bytes x.value 0x52 8)
      (both s at h.middle g.middle (head_bytes h.value.attributes 2 (member_count x.value)) (expr_bytes g.value)
      (counted s bytes at h.middle h.value (member_count x.value) q.1 h.first) (expr-law h.middle g.middle g.value g.first))
      q.0))

  pub array_spans : (at n : ℕ) (t : Ty) → read_array expr inner s at ≡ ok t n → 0x44 ∷ drop at s ≡ type_bytes t ++ drop n s
  unfolding read_array type_bytes
  array_spans at n t e =
      let h = went (array_head s at) _ s t n e in
      let g = went (expr s h.middle) _ s t n h.then in
      let x = went (inner s g.middle) _ s t n g.then in
      settle (λ t n. 0x44 ∷ drop at s ≡ type_bytes t ++ drop n s) x.then
      (ap (λ (l : List ℕ). 0x44 ∷ l)
      (both s at g.middle x.middle (head_bytes h.value.attributes 1 h.value.last ++ expr_bytes g.value) (type_bytes x.value)
      (both s at h.middle g.middle (head_bytes h.value.attributes 1 h.value.last) (expr_bytes g.value)
      (array_head_spans s bytes at h.middle h.value h.first) (expr-law h.middle g.middle g.value g.first))
      (law g.middle x.middle x.value x.first)))

  pub type_body_spans : (k at n : ℕ) (t : Ty) (f : TypeForm) → T (agree k (OfType f)) → type_body expr inner k f s at ≡ ok t n → k ∷ drop at s ≡ type_bytes t ++ drop n s
  unfolding type_body type_bytes lookup
  type_body_spans k at n t Primitive a r = settle (λ t n. k ∷ drop at s ≡ type_bytes t ++ drop n s) r refl
  type_body_spans k at n t TypeRef a r =
      let g = went (body 2 s at) _ s t n r in
      settle (λ t n. k ∷ drop at s ≡ type_bytes t ++ drop n s) g.then
      (rw (eqb→eq k 0x40 a, ← name_body_spans s bytes at g.value g.middle g.first))
  type_body_spans k at n t Struct a r =
      let g = went (read_group inner 0x50 s at) _ s t n r in
      settle (λ t n. k ∷ drop at s ≡ type_bytes t ++ drop n s) g.then
      (rw (eqb→eq k 0x41 a, group_spans 0x50 0 refl at g.middle g.value g.first))
  type_body_spans k at n t Union a r =
      let g = went (read_group inner 0x51 s at) _ s t n r in
      settle (λ t n. k ∷ drop at s ≡ type_bytes t ++ drop n s) g.then
      (rw (eqb→eq k 0x42 a, group_spans 0x51 0 refl at g.middle g.value g.first))
  type_body_spans k at n t Enum a r = rw (eqb→eq k 0x43 a) (enum_spans at n t r)
  type_body_spans k at n t Array a r = rw (eqb→eq k 0x44 a) (array_spans at n t r)
  type_body_spans k at n t SizeUnion a r =
      let g = went (read_group inner 0x53 s at) _ s t n r in
      settle (λ t n. k ∷ drop at s ≡ type_bytes t ++ drop n s) g.then
      (rw (eqb→eq k 0x45 a, group_spans 0x53 8 refl at g.middle g.value g.first))

-- a type
pub type_spans : (s : List ℕ) → Bytes s → (d at n : ℕ) (t : Ty) → read_ty d s at ≡ ok t n → Spans s at (type_bytes t) n
unfolding read_ty type_after
type_spans s bytes zero at n t r = no r
type_spans s bytes (suc d) at n t r =
    let g = went (kind s at) _ s t n r in
    let q = kind_spans s bytes at g.value g.middle g.first in
    node_spans s bytes at g.value g.middle n (type_bytes t) g.first
    (form g.value g.middle (rw q.0 (bytes at)) (form_of g.value) refl (λ i j x y. type_spans s bytes d i j x y) g.then)
  where
    form : (k m : ℕ) → k < 256 → (f : Form) → f ≡ form_of k → ((i j : ℕ) (x : Ty) → read_ty d s i ≡ ok x j → Spans s i (type_bytes x) j)
        → type_after (read_expr d) (read_ty d) k f s m ≡ ok t n → k ∷ drop m s ≡ type_bytes t ++ drop n s
    form k m b (OfType f) p law q = type_body_spans s bytes (read_expr d) (read_ty d) (expr_spans s bytes d) law k m n t f (agrees k (OfType f) b p) q
    form k m b (OfExpr f) p law q = no q
    form k m b (OfMember w) p law q = no q
    form k m b (OfRecord before names behind) p law q = no q
    form k m b Unknown p law q = no q
