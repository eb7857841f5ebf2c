-- A type that the format can hold is read back from what was written of it.
use Prim.Native.Nat.{ℕ, zero, suc, ◌+◌, ◌-◌, ◌≤◌, ◌<◌}
use native.Mathlib.Nat.{not-suc-le-zero}
use native.Mathlib.Omega.{arith}
use mathlib.Core.Path.{◌≡◌, refl, ap, ◌∙◌}
use mathlib.Core.List.{List, ◌∷◌, ◌++◌, append_assoc}
use lib.ListN.{length, get_or, drop, length-append}
use lib.Dec.{lit<}
use borrow.Author.Tests.{le-leb, eq-eqb}
use Rattle.meaning.specs.Kinds.{Primitive, TypeRef, Struct, Union, Enum, Array, SizeUnion}
use Rattle.meaning.specs.Kinds.{Form}
use Rattle.meaning.specs.Kinds.{OfType, OfMember}
use Rattle.meaning.specs.Kinds.{form_of, kinds, lookup}
use Rattle.meaning.specs.Tree.{Expr, Ty, primitive, type_ref, struct, union, enum, array, size_union, Attributes, Member, member, Members, none, more}
use Rattle.meaning.specs.Reader.{ok, after, many}
use Rattle.meaning.specs.ReadExpr.{node, only, read_expr}
use Rattle.meaning.specs.ReadType.{Head, head, member_body, member_head, read_member, read_members, read_group, read_enum, array_head, read_array, type_body, type_after, read_ty}
use Rattle.meaning.specs.Encoding.{member_count}
use Rattle.meaning.proofs.Written.{bytes_of, expr_bytes, head_bytes, type_bytes, member_bytes, members_bytes, name_bytes}
use Rattle.meaning.specs.Within.{Fits, AttributesOk, TyOk, MemberOk, MembersOk, ty_depth, member_depth, members_depth}
use Rattle.meaning.proofs.KindTable.{hit}
use Rattle.meaning.proofs.Readings.{due_ok}
use Rattle.meaning.proofs.Heads.{head_ok}
use Rattle.meaning.proofs.ExprBack.{Starts, follows, starts_byte, length_bytes_of, starts_number, length_name, starts_name, node_back, name_body_back, expr_back}

pub length_head : (a : Attributes) (w last : ℕ) → length (head_bytes a w last) ≡ 9 + w
unfolding head_bytes
length_head a w last =
    ap suc (length-append (bytes_of 8 a.aligned) (bytes_of w last)) ∙ rw (length_bytes_of 8 a.aligned, length_bytes_of w last) (omega arith)

-- a head with these values
abbrev pub head_of : Attributes → ℕ → Head
head_of a last = record { attributes = a; last = last }

module _ (s : List ℕ) where
  -- attributes and the number behind them
  pub head_back : (a : Attributes) (w last at : ℕ) (rest : List ℕ) → AttributesOk a → Fits w last → Starts s at (head_bytes a w last) rest
      → head w s at ≡ ok (head_of a last) (at + length (head_bytes a w last))
  unfolding head_bytes
  head_back a w last at rest o f e =
      let xs = bytes_of 8 a.aligned in
      let b = starts_byte s at a.packed (xs ++ bytes_of w last ++ rest) e in
      let q : drop (at + 1) s ≡ xs ++ (bytes_of w last ++ rest) = b.2 ∙ append_assoc xs (bytes_of w last) rest in
      let n = starts_number s 8 a.aligned (at + 1) (bytes_of w last ++ rest) o.1 q in
      let p : drop (at + 1 + 8) s ≡ bytes_of w last ++ rest = rw (length_bytes_of 8 a.aligned) at (follows s (at + 1) xs (bytes_of w last ++ rest) q) in
      let l = starts_number s w last (at + 1 + 8) rest f p in
      let h : at + 1 + 8 ≤ length s = n.1 (omega (arith, b.1)) in
      let g : at + (9 + w) ≤ length s = omega (arith, l.1 h) in
      let k : get_or s at 0 ≤ 1 = rw b.0 o.0 in
      head_ok w at s g k ∙ rw (b.0, n.0, l.0) (ap (ok (head_of a last)) (omega (arith, length_head a w last)))

  -- an array's body
  pub array_head_back : (a : Attributes) (jagged at : ℕ) (rest : List ℕ) → AttributesOk a → jagged ≤ 1 → Starts s at (head_bytes a 1 jagged) rest
      → array_head s at ≡ ok (head_of a jagged) (at + length (head_bytes a 1 jagged))
  unfolding array_head
  array_head_back a jagged at rest o j e = rw (head_back a 1 jagged at rest o (omega arith) e, le-leb jagged 1 j)

  -- kind, name and value of a member
  pub member_head_back : (m w name value at : ℕ) (rest : List ℕ) → form_of m ≡ OfMember w → Fits 2 name → Fits w value → Starts s at (m ∷ name_bytes name ++ bytes_of w value) rest
      → member_head m s at ≡ ok (name, value) (at + length (m ∷ name_bytes name ++ bytes_of w value))
  unfolding member_head member_body
  member_head_back m w name value at rest p f g e =
      let xs = name_bytes name in
      let ys = bytes_of w value in
      let b = starts_byte s at m (xs ++ ys ++ rest) e in
      let q : drop (at + 1) s ≡ xs ++ (ys ++ rest) = b.2 ∙ append_assoc xs ys rest in
      let n = starts_name s name (at + 1) (ys ++ rest) f q in
      let v = starts_number s w value (at + 1 + 2) rest g (rw (length_name name) at (follows s (at + 1) xs (ys ++ rest) q)) in
      let h : at + 1 + (2 + w) ≤ length s = omega (arith, v.1 (n.1 (omega (arith, b.1)))) in
      node_back s (only m member_body) at m (OfMember w) (xs ++ ys ++ rest) e p
      ∙ rw (eq-eqb m m refl, due_ok (2 + w) (at + 1) s h, n.0, v.0)
      (ap (ok (name, value)) (omega (arith, length-append xs ys, length_name name, length_bytes_of w value)))

-- a type where a level is left is a node
ty_node : (d at : ℕ) (s : List ℕ) → 0 < d → read_ty d s at ≡ node (type_after (read_expr (d - 1)) (read_ty (d - 1))) s at
unfolding read_ty
ty_node zero at s h = absurd (not-suc-le-zero h)
ty_node (suc d) at s h = let p : suc d - 1 ≡ d = omega arith in rw p

-- a struct or union of kind k, if its members are read back
grouped : (make : Attributes → Members → Ty) (s : List ℕ) (d at k m : ℕ) (rest : List ℕ) (f : Form) (a : Attributes) (ms : Members) (ys : List ℕ)
    → 0 < d → form_of k ≡ f → AttributesOk a → Fits 2 (member_count ms)
    → type_after (read_expr (d - 1)) (read_ty (d - 1)) k f s (at + 1) ≡ after (read_group (read_ty (d - 1)) m s (at + 1)) (λ g v j. ok (make g.attributes g.members) j) s
    → Starts s at (k ∷ head_bytes a 2 (member_count ms) ++ ys) rest
    → ((i : ℕ) → Starts s i ys rest → read_members (read_ty (d - 1)) m (member_count ms) s i ≡ ok ms (i + length ys))
    → read_ty d s at ≡ ok (make a ms) (at + length (k ∷ head_bytes a 2 (member_count ms) ++ ys))
unfolding read_group
grouped make s d at k m rest f a ms ys h p o c q e law =
    let xs = head_bytes a 2 (member_count ms) in
    let b = starts_byte s at k (xs ++ ys ++ rest) e in
    let g : Starts s (at + 1) xs (ys ++ rest) = b.2 ∙ append_assoc xs ys rest in
    ty_node d at s h
    ∙ node_back s (type_after (read_expr (d - 1)) (read_ty (d - 1))) at k f (xs ++ ys ++ rest) e p
    ∙ q
    ∙ rw (head_back s a 2 (member_count ms) (at + 1) (ys ++ rest) o c g, law (at + 1 + length xs) (follows s (at + 1) xs (ys ++ rest) g))
    (ap (ok (make a ms)) (omega (arith, length-append xs ys)))

-- three parts in a row
three : (xs ys zs rest : List ℕ) → xs ++ ys ++ zs ++ rest ≡ xs ++ (ys ++ (zs ++ rest))
three xs ys zs rest = append_assoc (xs ++ ys) zs rest ∙ append_assoc xs ys (zs ++ rest)

-- an enum, if its tag and its members are read back
enumed : (s : List ℕ) (d at : ℕ) (rest : List ℕ) (a : Attributes) (tag : Expr) (ms : Members) (ys zs : List ℕ)
    → 0 < d → AttributesOk a → Fits 2 (member_count ms) → Starts s at (0x43 ∷ head_bytes a 2 (member_count ms) ++ ys ++ zs) rest
    → ((i : ℕ) → Starts s i ys (zs ++ rest) → read_expr (d - 1) s i ≡ ok tag (i + length ys))
    → ((i : ℕ) → Starts s i zs rest → read_members (read_ty (d - 1)) 0x52 (member_count ms) s i ≡ ok ms (i + length zs))
    → read_ty d s at ≡ ok (enum a tag ms) (at + length (0x43 ∷ head_bytes a 2 (member_count ms) ++ ys ++ zs))
unfolding type_after type_body lookup read_enum
enumed s d at rest a tag ms ys zs h o c e expr-law law =
    let xs = head_bytes a 2 (member_count ms) in
    let b = starts_byte s at 0x43 (xs ++ ys ++ zs ++ rest) e in
    let g : Starts s (at + 1) xs (ys ++ (zs ++ rest)) = b.2 ∙ three xs ys zs rest in
    let i : Starts s (at + 1 + length xs) ys (zs ++ rest) = follows s (at + 1) xs (ys ++ (zs ++ rest)) g in
    ty_node d at s h
    ∙ node_back s (type_after (read_expr (d - 1)) (read_ty (d - 1))) at 0x43 (OfType Enum) (xs ++ ys ++ zs ++ rest) e refl
    ∙ rw (
      head_back s a 2 (member_count ms) (at + 1) (ys ++ (zs ++ rest)) o c g,
      expr-law (at + 1 + length xs) i,
      law (at + 1 + length xs + length ys) (follows s (at + 1 + length xs) ys (zs ++ rest) i),
    )
    (ap (ok (enum a tag ms)) (omega (arith, length-append (xs ++ ys) zs, length-append xs ys)))

-- an array, if its size and its element are read back
arrayed : (s : List ℕ) (d at : ℕ) (rest : List ℕ) (a : Attributes) (jagged : ℕ) (size : Expr) (element : Ty) (ys zs : List ℕ)
    → 0 < d → AttributesOk a → jagged ≤ 1 → Starts s at (0x44 ∷ head_bytes a 1 jagged ++ ys ++ zs) rest
    → ((i : ℕ) → Starts s i ys (zs ++ rest) → read_expr (d - 1) s i ≡ ok size (i + length ys))
    → ((i : ℕ) → Starts s i zs rest → read_ty (d - 1) s i ≡ ok element (i + length zs))
    → read_ty d s at ≡ ok (array a jagged size element) (at + length (0x44 ∷ head_bytes a 1 jagged ++ ys ++ zs))
unfolding type_after type_body lookup read_array
arrayed s d at rest a jagged size element ys zs h o c e expr-law law =
    let xs = head_bytes a 1 jagged in
    let b = starts_byte s at 0x44 (xs ++ ys ++ zs ++ rest) e in
    let g : Starts s (at + 1) xs (ys ++ (zs ++ rest)) = b.2 ∙ three xs ys zs rest in
    let i : Starts s (at + 1 + length xs) ys (zs ++ rest) = follows s (at + 1) xs (ys ++ (zs ++ rest)) g in
    ty_node d at s h
    ∙ node_back s (type_after (read_expr (d - 1)) (read_ty (d - 1))) at 0x44 (OfType Array) (xs ++ ys ++ zs ++ rest) e refl
    ∙ rw (
      array_head_back s a jagged (at + 1) (ys ++ (zs ++ rest)) o c g,
      expr-law (at + 1 + length xs) i,
      law (at + 1 + length xs + length ys) (follows s (at + 1 + length xs) ys (zs ++ rest) i),
    )
    (ap (ok (array a jagged size element)) (omega (arith, length-append (xs ++ ys) zs, length-append xs ys)))

mutual
  unfolding type_after type_body type_bytes lookup member_count many read_member

  -- a type
  pub ty_back : (t : Ty) (s : List ℕ) → TyOk t → (d at : ℕ) (rest : List ℕ) → ty_depth t ≤ d → Starts s at (type_bytes t) rest → read_ty d s at ≡ ok t (at + length (type_bytes t))
  ty_back (primitive k) s o d at rest h e =
      ty_node d at s h
      ∙ node_back s (type_after (read_expr (d - 1)) (read_ty (d - 1))) at k (OfType Primitive) rest e (hit kinds 1 6 k tt (lit< tt) o.0 o.1)
  ty_back (type_ref x) s o d at rest h e =
      let b = starts_byte s at 0x40 (name_bytes x ++ rest) e in
      ty_node d at s h
      ∙ node_back s (type_after (read_expr (d - 1)) (read_ty (d - 1))) at 0x40 (OfType TypeRef) (name_bytes x ++ rest) e refl
      ∙ rw (name_body_back s x (at + 1) rest (omega (arith, b.1)) o b.2) (ap (ok (type_ref x)) (omega (arith, length_name x)))
  ty_back (struct a ms) s o d at rest h e =
      grouped struct s d at 0x41 0x50 rest (OfType Struct) a ms (members_bytes ms 0x50 0) (omega arith) refl o.0 o.1 refl e
      (λ i q. members_back ms s 0x50 0 refl o.2 (d - 1) i rest (omega arith) q)
  ty_back (union a ms) s o d at rest h e =
      grouped union s d at 0x42 0x51 rest (OfType Union) a ms (members_bytes ms 0x51 0) (omega arith) refl o.0 o.1 refl e
      (λ i q. members_back ms s 0x51 0 refl o.2 (d - 1) i rest (omega arith) q)
  ty_back (enum a tag ms) s o d at rest h e =
      enumed s d at rest a tag ms (expr_bytes tag) (members_bytes ms 0x52 8) (omega arith) o.0 o.1 e
      (λ i q. expr_back s tag o.2 (d - 1) i (members_bytes ms 0x52 8 ++ rest) (omega arith) q)
      (λ i q. members_back ms s 0x52 8 refl o.3 (d - 1) i rest (omega arith) q)
  ty_back (array a jagged size element) s o d at rest h e =
      arrayed s d at rest a jagged size element (expr_bytes size) (type_bytes element) (omega arith) o.0 o.1 e
      (λ i q. expr_back s size o.2 (d - 1) i (type_bytes element ++ rest) (omega arith) q)
      (λ i q. ty_back element s o.3 (d - 1) i rest (omega arith) q)
  ty_back (size_union a ms) s o d at rest h e =
      grouped size_union s d at 0x45 0x53 rest (OfType SizeUnion) a ms (members_bytes ms 0x53 8) (omega arith) refl o.0 o.1 refl e
      (λ i q. members_back ms s 0x53 8 refl o.2 (d - 1) i rest (omega arith) q)

  -- a member
  pub member_back : (x : Member) (s : List ℕ) (m w : ℕ) → form_of m ≡ OfMember w → MemberOk x w → (d at : ℕ) (rest : List ℕ) → member_depth x ≤ d → Starts s at (member_bytes x m w) rest
      → read_member (read_ty d) m s at ≡ ok x (at + length (member_bytes x m w))
  member_back (member name value type) s m w p o d at rest h e =
      let xs = m ∷ name_bytes name ++ bytes_of w value in
      let q : Starts s at xs (type_bytes type ++ rest) = e ∙ append_assoc xs (type_bytes type) rest in
      rw (
        member_head_back s m w name value at (type_bytes type ++ rest) p o.0 o.1 q,
        ty_back type s o.2 d (at + length xs) rest h (follows s at xs (type_bytes type ++ rest) q),
      )
      (ap (ok (member name value type)) (omega (arith, length-append xs (type_bytes type))))

  -- members
  pub members_back : (ms : Members) (s : List ℕ) (m w : ℕ) → form_of m ≡ OfMember w → MembersOk ms w → (d at : ℕ) (rest : List ℕ) → members_depth ms ≤ d → Starts s at (members_bytes ms m w) rest
      → read_members (read_ty d) m (member_count ms) s at ≡ ok ms (at + length (members_bytes ms m w))
  members_back none s m w p o d at rest h e = ap (ok none) (omega arith)
  members_back (more x ms) s m w p o d at rest h e =
      let xs = member_bytes x m w in
      let q : Starts s at xs (members_bytes ms m w ++ rest) = e ∙ append_assoc xs (members_bytes ms m w) rest in
      rw (
        member_back x s m w p o.0 d at (members_bytes ms m w ++ rest) (omega arith) q,
        members_back ms s m w p o.1 d (at + length xs) rest (omega arith) (follows s at xs (members_bytes ms m w ++ rest) q),
      )
      (ap (ok (more x ms)) (omega (arith, length-append xs (members_bytes ms m w))))
