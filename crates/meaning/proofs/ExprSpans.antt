-- What was read from bytes is written as those bytes: the string from the start of what was read is what is written,
-- followed by the string from where reading ended.
use Prim.Native.Nat.{ℕ, zero, suc, ◌+◌, ◌-◌, ◌*◌, ◌/◌, ◌%◌, ◌^◌, ◌≤◌, ◌<◌}
use native.Mathlib.Numerals.{add-one}
use native.Mathlib.Nat.{pow-suc, add-zero, not-suc-le-zero, le_of_suc-le-suc, eq-or-lt_of_le}
use native.Mathlib.Omega.{arith}
use mathlib.Core.Bool.{Bool, true, ◌&&◌}
use mathlib.Core.Logic.{◌⊎◌, ⊎_elim}
use mathlib.Core.Path.{◌≡◌, refl, ap, ◌∙◌}
use mathlib.Core.List.{List, [], ◌∷◌, ◌++◌, append_assoc}
use lib.ListN.{length, get_or, drop}
use lib.Seq.{drop-cons}
use lib.Dec.{T, lit<, eqb, eqb→eq}
use Rattle.meaning.specs.Kinds.{ExprForm}
use Rattle.meaning.specs.Kinds.{Literal, FieldRef, Sizeof, Alignof, Binary, Unary}
use Rattle.meaning.specs.Kinds.{Primitive, TypeRef, Struct, Union, Enum, Array, SizeUnion}
use Rattle.meaning.specs.Kinds.{Form}
use Rattle.meaning.specs.Kinds.{OfExpr, OfType, OfMember, OfRecord, Unknown}
use Rattle.meaning.specs.Kinds.{form_of, lookup, widths}
use Rattle.meaning.specs.Tree.{Expr, field_ref}
use Rattle.meaning.specs.ReadExpr.{body, read_expr, expr_after, expr_body, kind}
use Rattle.meaning.specs.Reader.{ok, refused, Reader, after, due, number, many, little}
use Rattle.meaning.specs.Reader.{names_from}
use Rattle.meaning.specs.Encoding.{Bytes}
use Rattle.meaning.proofs.Written.{bytes_of, name_bytes, name_two, names_bytes, expr_bytes}
use Rattle.meaning.proofs.Readings.{went, there}
use Rattle.meaning.proofs.KindTable.{and_0, and_1}
use Rattle.meaning.proofs.Readings.{many_names}

-- kind k has form f only if they agree: a form of one kind fixes it, and a literal's kind fixes its width
abbrev pub agree : ℕ → Form → Bool
agree k (OfExpr (Literal w)) = eqb w (get_or widths (k - 1) 0)
agree k (OfExpr (FieldRef n)) = eqb k (8 + n)
agree k (OfExpr Sizeof) = eqb k 0x0D
agree k (OfExpr Alignof) = eqb k 0x0E
agree k (OfExpr Binary) = true
agree k (OfExpr Unary) = true
agree k (OfType Primitive) = true
agree k (OfType TypeRef) = eqb k 0x40
agree k (OfType Struct) = eqb k 0x41
agree k (OfType Union) = eqb k 0x42
agree k (OfType Enum) = eqb k 0x43
agree k (OfType Array) = eqb k 0x44
agree k (OfType SizeUnion) = eqb k 0x45
agree k (OfMember w) = true
agree k (OfRecord before names behind) = true
agree k Unknown = true

-- a test passes at each number below n
abbrev pub all : (ℕ → Bool) → ℕ → Bool
all f zero = true
all f (suc n) = f n && all f n

pub all_at : (f : ℕ → Bool) (n k : ℕ) → T (all f n) → k < n → T (f k)
all_at f zero k t h = absurd (not-suc-le-zero h)
all_at f (suc n) k t h =
    ⊎_elim (λ e. rw e (and_0 (f n) (all f n) t)) (λ l. all_at f n k (and_1 (f n) (all f n) t) l) (last h)
  where
    last : k < suc n → (k ≡ n) ⊎ (k < n)
    last h = eq-or-lt_of_le (le_of_suc-le-suc h)

-- every kind byte agrees with its form
pub agrees : (k : ℕ) (f : Form) → k < 256 → f ≡ form_of k → T (agree k f)
unfolding lookup
agrees k f h e = rw e (all_at (λ k. agree k (form_of k)) 256 k tt h)

-- from `at` on, s is xs and then s from n on
abbrev pub Spans : List ℕ → ℕ → List ℕ → ℕ → Type 0
Spans s at xs n = drop at s ≡ xs ++ drop n s

-- two spans, one after the other
pub both : (s : List ℕ) (at m n : ℕ) (xs ys : List ℕ) → Spans s at xs m → Spans s m ys n → Spans s at (xs ++ ys) n
both s at m n xs ys p q = p ∙ rw (q, append_assoc)

module _ (s : List ℕ) (bytes : Bytes s) where
  -- a byte
  pub byte_spans : (at : ℕ) → at < length s → Spans s at (get_or s at 0 ∷ []) (at + 1)
  byte_spans at h = rw (add-one, drop-cons s at 0)

  -- a number of w bytes
  pub number_spans : (w at : ℕ) → at + w ≤ length s → Spans s at (bytes_of w (little s at w)) (at + w)
  unfolding bytes_of little
  number_spans zero at h = rw (add-zero at)
  number_spans (suc w) at h =
      let b : get_or s at 0 < 256 = bytes at in
      let p : (get_or s at 0 + 256 * little s (suc at) w) % 256 ≡ get_or s at 0 = omega arith in
      let q : (get_or s at 0 + 256 * little s (suc at) w) / 256 ≡ little s (suc at) w = omega arith in
      let e : at + suc w ≡ suc at + w = omega arith in
      let l : at < length s = omega arith in
      drop-cons s at 0 l ∙ rw (p, q, e, ← number_spans w (suc at) (omega arith))

  -- a number of w bytes fits them
  pub little_fits : (w at : ℕ) → little s at w < 256 ^ w
  unfolding little
  little_fits zero at = lit< tt
  little_fits (suc w) at = omega (arith, bytes at, little_fits w (suc at), pow-suc 256 w)

  -- a name
  pub name_spans : (at : ℕ) → at + 2 ≤ length s → Spans s at (name_bytes (little s at 2)) (at + 2)
  name_spans at h = rw (name_two (little s at 2) (little_fits 2 at)) (number_spans 2 at h)

  -- a body that is one number
  pub body_spans : (w at v n : ℕ) → body w s at ≡ ok v n → Spans s at (bytes_of w v) n
  body_spans w at v n e =
      let g = went (due w s at) _ s v n e in
      let t = there w at s g.value g.middle g.first in
      let x : little s at w ≡ v = cc in
      let y : at + w ≡ n = cc in
      rw (← x, ← y) (number_spans w at t.bound)

  -- a body that is one name
  pub name_body_spans : (at x n : ℕ) → body 2 s at ≡ ok x n → Spans s at (name_bytes x) n
  name_body_spans at x n e =
      let g = went (due 2 s at) _ s x n e in
      let t = there 2 at s g.value g.middle g.first in
      let p : little s at 2 ≡ x = cc in
      let q : at + 2 ≡ n = cc in
      rw (← p, ← q) (name_spans at t.bound)

  -- names of two bytes each
  pub names_spans : (n at : ℕ) → at + 2 * n ≤ length s → Spans s at (names_bytes (names_from s at n)) (at + 2 * n)
  unfolding names_bytes names_from
  names_spans zero at h = let p : at + 2 * 0 ≡ at = omega arith in rw p
  names_spans (suc n) at h =
      let p : at + 2 + 2 * n ≡ at + 2 * suc n = omega arith in
      rw (← p)
      (both s at (at + 2) (at + 2 + 2 * n) (name_bytes (little s at 2)) (names_bytes (names_from s (at + 2) n))
      (name_spans at (omega arith)) (names_spans n (at + 2) (omega arith)))

  -- a kind byte
  pub kind_spans : (at k n : ℕ) → kind s at ≡ ok k n → (k ≡ get_or s at 0) × (n ≡ at + 1) × (at < length s)
  kind_spans at k n e =
      let g = went (due 1 s at) _ s k n e in
      let t = there 1 at s g.value g.middle g.first in
      (cc, cc, omega arith)

length_names : (s : List ℕ) (n at : ℕ) → length (names_from s at n) ≡ n
unfolding names_from
length_names s zero at = refl
length_names s (suc n) at = ap suc (length_names s n (at + 2))

-- a fact of what a reader gave, from the fact of what it is made of
pub settle : {A : Type 0} (P : A → ℕ → Type 0) {x y : A} {m n : ℕ} → ok x m ≡ ok y n → P x m → P y n
settle P {x} {y} {m} {n} e h =
    let p : y ≡ x = cc in
    let q : n ≡ m = cc in
    rw (p, q) h

-- an expression, if those inside it are
module _ (s : List ℕ) (bytes : Bytes s) (inner : Reader Expr) (law : (at n : ℕ) (e : Expr) → inner s at ≡ ok e n → Spans s at (expr_bytes e) n) where
  pub expr_body_spans : (k at n : ℕ) (e : Expr) (f : ExprForm) → T (agree k (OfExpr f)) → expr_body inner k f s at ≡ ok e n → k ∷ drop at s ≡ expr_bytes e ++ drop n s
  unfolding expr_body expr_bytes
  expr_body_spans k at n e (Literal w) a r =
      let g = went (body w s at) _ s e n r in
      settle (λ e n. k ∷ drop at s ≡ expr_bytes e ++ drop n s) g.then
      (rw (← eqb→eq w (get_or widths (k - 1) 0) a, ← body_spans s bytes w at g.value g.middle g.first))
  expr_body_spans k at n e (FieldRef m) a r =
      let g = went (due (2 * m) s at) _ s e n r in
      let t = there (2 * m) at s g.value g.middle g.first in
      names g.middle t.same t.bound g.then
    where
      names : (i : ℕ) → i ≡ at → at + 2 * m ≤ length s → after (many ◌∷◌ [] (number 2) m s i) (λ ns t j. ok (field_ref ns) j) s ≡ ok e n → k ∷ drop at s ≡ expr_bytes e ++ drop n s
      names i p b q =
          settle (λ e n. k ∷ drop at s ≡ expr_bytes e ++ drop n s) (rw (p, many_names s m at) at q)
          (rw (eqb→eq k (8 + m) a, length_names s m at, ← names_spans s bytes m at b))
  expr_body_spans k at n e Sizeof a r =
      let g = went (body 2 s at) _ s e n r in
      settle (λ e n. k ∷ drop at s ≡ expr_bytes e ++ drop n s) g.then
      (rw (eqb→eq k 0x0D a, ← name_body_spans s bytes at g.value g.middle g.first))
  expr_body_spans k at n e Alignof a r =
      let g = went (body 2 s at) _ s e n r in
      settle (λ e n. k ∷ drop at s ≡ expr_bytes e ++ drop n s) g.then
      (rw (eqb→eq k 0x0E a, ← name_body_spans s bytes at g.value g.middle g.first))
  expr_body_spans k at n e Binary a r =
      let g = went (inner s at) _ s e n r in
      let h = went (inner s g.middle) _ s e n g.then in
      settle (λ e n. k ∷ drop at s ≡ expr_bytes e ++ drop n s) h.then
      (ap (λ (l : List ℕ). k ∷ l)
      (both s at g.middle h.middle (expr_bytes g.value) (expr_bytes h.value)
      (law at g.middle g.value g.first) (law g.middle h.middle h.value h.first)))
  expr_body_spans k at n e Unary a r =
      let g = went (inner s at) _ s e n r in
      settle (λ e n. k ∷ drop at s ≡ expr_bytes e ++ drop n s) g.then (rw (← law at g.middle g.value g.first))

-- a node: its kind byte and what follows
pub node_spans : (s : List ℕ) (bytes : Bytes s) (at k m n : ℕ) (xs : List ℕ) → kind s at ≡ ok k m → k ∷ drop m s ≡ xs ++ drop n s → Spans s at xs n
node_spans s bytes at k m n xs e p =
    let q = kind_spans s bytes at k m e in
    byte_spans s bytes at q.2 ∙ rw (← q.0, ← q.1) p

-- a refusal is no value
pub no : {A B : Type 0} {a : A} {k n : ℕ} → refused k ≡ ok a n → B
no e = let z : ◌≡◌ {A = ℕ} 0 1 = cc in absurd (omega arith)

-- an expression
pub expr_spans : (s : List ℕ) → Bytes s → (d at n : ℕ) (e : Expr) → read_expr d s at ≡ ok e n → Spans s at (expr_bytes e) n
unfolding read_expr expr_after
expr_spans s bytes zero at n e r = no r
expr_spans s bytes (suc d) at n e r =
    let g = went (kind s at) _ s e n r in
    let q = kind_spans s bytes at g.value g.middle g.first in
    node_spans s bytes at g.value g.middle n (expr_bytes e) g.first
    (form g.value g.middle (rw q.0 (bytes at)) (form_of g.value) refl (λ i j x y. expr_spans s bytes d i j x y) g.then)
  where
    form : (k m : ℕ) → k < 256 → (f : Form) → f ≡ form_of k → ((i j : ℕ) (x : Expr) → read_expr d s i ≡ ok x j → Spans s i (expr_bytes x) j)
        → expr_after (read_expr d) k f s m ≡ ok e n → k ∷ drop m s ≡ expr_bytes e ++ drop n s
    form k m b (OfExpr f) p law q = expr_body_spans s bytes (read_expr d) law k m n e f (agrees k (OfExpr f) b p) q
    form k m b (OfType f) p law q = no q
    form k m b (OfMember w) p law q = no q
    form k m b (OfRecord before names behind) p law q = no q
    form k m b Unknown p law q = no q
