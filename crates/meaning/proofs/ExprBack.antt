-- What was written from a tree that the format can hold is read back as that tree. `Starts` says that the string begins, at a position, with these bytes.
use Prim.Native.Nat.{ℕ, zero, suc, ◌+◌, ◌-◌, ◌*◌, ◌/◌, ◌%◌, ◌≤◌, ◌<◌}
use native.Mathlib.Nat.{not-suc-le-zero}
use native.Mathlib.Numerals.{add-one}
use native.Mathlib.Omega.{arith}
use mathlib.Core.Logic.{⊎_elim}
use mathlib.Core.Path.{◌≡◌, refl, sym, ap, ◌∙◌}
use mathlib.Core.List.{List, [], ◌∷◌, ◌++◌, append_assoc}
use lib.ListN.{length, get_or, drop, length-append, drop_of_length-le}
use lib.Seq.{drop-cons, drop-drop, drop-append_seam}
use lib.Dec.{lit<}
use Rattle.meaning.specs.Kinds.{Literal, FieldRef, Sizeof, Alignof, Binary, Unary}
use Rattle.meaning.specs.Kinds.{Form}
use Rattle.meaning.specs.Kinds.{OfExpr}
use Rattle.meaning.specs.Kinds.{form_of, kinds, widths}
use Rattle.meaning.specs.Tree.{Expr, literal, field_ref, sizeof, alignof, binary, unary}
use Rattle.meaning.specs.Reader.{ok, Reader, little}
use Rattle.meaning.specs.ReadExpr.{node, body, expr_body, expr_after, read_expr}
use Rattle.meaning.specs.Reader.{names_from}
use Rattle.meaning.proofs.Written.{bytes_of, name_bytes, name_two, names_bytes, expr_bytes}
use Rattle.meaning.specs.Within.{Fits, Each, ExprOk, expr_depth}
use Rattle.meaning.proofs.KindTable.{hit, side}
use Rattle.meaning.proofs.Readings.{due_ok}
use Rattle.meaning.proofs.Readings.{many_names}

-- from `at` on, s is xs and then rest
abbrev pub Starts : List ℕ → ℕ → List ℕ → List ℕ → Type 0
Starts s at xs rest = drop at s ≡ xs ++ rest

-- what follows xs
pub follows : (s : List ℕ) (at : ℕ) (xs rest : List ℕ) → Starts s at xs rest → drop (at + length xs) s ≡ rest
follows s at xs rest e = sym (drop-drop (length xs) at s) ∙ rw e (drop-append_seam xs rest)

-- a first byte
pub starts_byte : (s : List ℕ) (at x : ℕ) (ys : List ℕ) → drop at s ≡ x ∷ ys → (get_or s at 0 ≡ x) × (at < length s) × (drop (at + 1) s ≡ ys)
starts_byte s at x ys e = ⊎_elim within past (side at (length s))
  where
    within : at < length s → (get_or s at 0 ≡ x) × (at < length s) × (drop (at + 1) s ≡ ys)
    within h = let q = drop-cons s at 0 h in (cc, h, rw add-one (cc))

    past : length s ≤ at → (get_or s at 0 ≡ x) × (at < length s) × (drop (at + 1) s ≡ ys)
    past h = let q : [] ≡ x ∷ ys = sym (drop_of_length-le s h) ∙ e in let z : ◌≡◌ {A = ℕ} 0 1 = cc in absurd (omega arith)

pub length_bytes_of : (w v : ℕ) → length (bytes_of w v) ≡ w
unfolding bytes_of
length_bytes_of zero v = refl
length_bytes_of (suc w) v = ap suc (length_bytes_of w (v / 256))

-- a first number
pub starts_number : (s : List ℕ) (w v at : ℕ) (rest : List ℕ) → Fits w v → Starts s at (bytes_of w v) rest → (little s at w ≡ v) × (at ≤ length s → at + w ≤ length s)
unfolding bytes_of little
starts_number s zero v at rest f e = (omega arith, λ h. omega arith)
starts_number s (suc w) v at rest f e =
    let b = starts_byte s at (v % 256) (bytes_of w (v / 256) ++ rest) e in
    let p : suc at ≡ at + 1 = omega arith in
    let n = starts_number s w (v / 256) (suc at) rest (omega arith) (rw p b.2) in
    (omega (arith, b.0, n.0), λ h. omega (arith, n.1 b.1))

-- a first name
pub length_name : (n : ℕ) → length (name_bytes n) ≡ 2
unfolding name_bytes
length_name n = refl

pub starts_name : (s : List ℕ) (n at : ℕ) (rest : List ℕ) → Fits 2 n → Starts s at (name_bytes n) rest → (little s at 2 ≡ n) × (at ≤ length s → at + 2 ≤ length s)
starts_name s n at rest f e = starts_number s 2 n at rest f (rw (name_two n f) at e)

module _ (s : List ℕ) where
  -- a node's kind byte
  pub node_back : {A : Type 0} (g : ℕ → Form → Reader A) (at k : ℕ) (f : Form) (ys : List ℕ) → drop at s ≡ k ∷ ys → form_of k ≡ f → node g s at ≡ g k f s (at + 1)
  node_back g at k f ys e p =
      let b = starts_byte s at k ys e in
      rw (due_ok 1 at s (omega (arith, b.1)), b.0, p)

  -- a body that is one number
  pub body_back : (w v at : ℕ) (rest : List ℕ) → at ≤ length s → Fits w v → Starts s at (bytes_of w v) rest → body w s at ≡ ok v (at + w)
  body_back w v at rest h f e =
      let n = starts_number s w v at rest f e in
      rw (due_ok w at s (n.1 h), n.0)

  -- a body that is one name
  pub name_body_back : (n at : ℕ) (rest : List ℕ) → at ≤ length s → Fits 2 n → Starts s at (name_bytes n) rest → body 2 s at ≡ ok n (at + 2)
  name_body_back n at rest h f e = body_back 2 n at rest h f (rw (name_two n f) at e)

  -- names
  pub names_back : (names : List ℕ) (at : ℕ) (rest : List ℕ) → at ≤ length s → Each (Fits 2) names → Starts s at (names_bytes names) rest → (names_from s at (length names) ≡ names) × (at + 2 * length names ≤ length s)
  unfolding names_from names_bytes
  names_back [] at rest h f e = (refl, omega arith)
  names_back (x ∷ xs) at rest h f e =
      let q : drop at s ≡ name_bytes x ++ (names_bytes xs ++ rest) = e ∙ append_assoc (name_bytes x) (names_bytes xs) rest in
      let n = starts_name s x at (names_bytes xs ++ rest) f.0 q in
      let l : at + 2 ≤ length s = n.1 h in
      let t = names_back xs (at + 2) rest l f.1 (rw (length_name x) at (follows s at (name_bytes x) (names_bytes xs ++ rest) q)) in
      (rw (n.0, t.0), omega (arith, t.1))

length_names_bytes : (names : List ℕ) → length (names_bytes names) ≡ 2 * length names
unfolding names_bytes
length_names_bytes [] = refl
length_names_bytes (x ∷ xs) = length-append (name_bytes x) (names_bytes xs) ∙ rw (length_name x) (omega (arith, length_names_bytes xs))

-- an expression where a level is left is a node
pub expr_node : (d at : ℕ) (s : List ℕ) → 0 < d → read_expr d s at ≡ node (expr_after (read_expr (d - 1))) s at
unfolding read_expr
expr_node zero at s h = absurd (not-suc-le-zero h)
expr_node (suc d) at s h = let p : suc d - 1 ≡ d = omega arith in rw p

-- an expression
pub expr_back : (s : List ℕ) (e : Expr) → ExprOk e → (d at : ℕ) (rest : List ℕ) → expr_depth e ≤ d → Starts s at (expr_bytes e) rest → read_expr d s at ≡ ok e (at + length (expr_bytes e))
unfolding expr_after expr_body expr_bytes
expr_back s (literal k v) o d at rest h e =
    let w = get_or widths (k - 1) 0 in
    let b = starts_byte s at k (bytes_of w v ++ rest) e in
    expr_node d at s h
    ∙ node_back s (expr_after (read_expr (d - 1))) at k (OfExpr (Literal w)) (bytes_of w v ++ rest) e (hit kinds 1 0 k tt (lit< tt) o.0.0 o.0.1)
    ∙ rw (body_back s w v (at + 1) rest (omega (arith, b.1)) o.1 b.2) (ap (ok (literal k v)) (omega (arith, length_bytes_of w v)))
expr_back s (field_ref names) o d at rest h e =
    let n = length names in
    let b = starts_byte s at (8 + n) (names_bytes names ++ rest) e in
    let t = names_back s names (at + 1) rest (omega (arith, b.1)) o.1 b.2 in
    let q : 8 + n - 8 ≡ n = omega arith in
    expr_node d at s h
    ∙ node_back s (expr_after (read_expr (d - 1))) at (8 + n) (OfExpr (FieldRef n)) (names_bytes names ++ rest) e
    (hit kinds 1 1 (8 + n) tt (lit< tt) (omega (arith, o.0.0)) (omega (arith, o.0.1)) ∙ ap (λ (z : ℕ). OfExpr (FieldRef z)) q)
    ∙ rw (due_ok (2 * n) (at + 1) s t.1, many_names s n (at + 1), t.0) (ap (ok (field_ref names)) (omega (arith, length_names_bytes names)))
expr_back s (sizeof x) o d at rest h e =
    let b = starts_byte s at 0x0D (name_bytes x ++ rest) e in
    expr_node d at s h
    ∙ node_back s (expr_after (read_expr (d - 1))) at 0x0D (OfExpr Sizeof) (name_bytes x ++ rest) e (hit kinds 1 2 0x0D tt (lit< tt) (omega arith) (omega arith))
    ∙ rw (name_body_back s x (at + 1) rest (omega (arith, b.1)) o b.2) (ap (ok (sizeof x)) (omega (arith, length_name x)))
expr_back s (alignof x) o d at rest h e =
    let b = starts_byte s at 0x0E (name_bytes x ++ rest) e in
    expr_node d at s h
    ∙ node_back s (expr_after (read_expr (d - 1))) at 0x0E (OfExpr Alignof) (name_bytes x ++ rest) e (hit kinds 1 3 0x0E tt (lit< tt) (omega arith) (omega arith))
    ∙ rw (name_body_back s x (at + 1) rest (omega (arith, b.1)) o b.2) (ap (ok (alignof x)) (omega (arith, length_name x)))
expr_back s (binary k l r) o d at rest h e =
    let xs = expr_bytes l in
    let ys = expr_bytes r in
    let q : drop at s ≡ k ∷ (xs ++ (ys ++ rest)) = e ∙ ap (λ (z : List ℕ). k ∷ z) (append_assoc xs ys rest) in
    let b = starts_byte s at k (xs ++ (ys ++ rest)) q in
    expr_node d at s (omega arith)
    ∙ node_back s (expr_after (read_expr (d - 1))) at k (OfExpr Binary) (xs ++ (ys ++ rest)) q (hit kinds 1 4 k tt (lit< tt) o.0.0 o.0.1)
    ∙ rw (
      expr_back s l o.1 (d - 1) (at + 1) (ys ++ rest) (omega arith) b.2,
      expr_back s r o.2 (d - 1) (at + 1 + length xs) rest (omega arith) (follows s (at + 1) xs (ys ++ rest) b.2),
    )
    (ap (ok (binary k l r)) (omega (arith, length-append xs ys)))
expr_back s (unary k x) o d at rest h e =
    let b = starts_byte s at k (expr_bytes x ++ rest) e in
    expr_node d at s (omega arith)
    ∙ node_back s (expr_after (read_expr (d - 1))) at k (OfExpr Unary) (expr_bytes x ++ rest) e (hit kinds 1 5 k tt (lit< tt) o.0.0 o.0.1)
    ∙ rw (expr_back s x o.1 (d - 1) (at + 1) rest (omega arith) b.2) (ap (ok (unary k x)) (omega arith))
