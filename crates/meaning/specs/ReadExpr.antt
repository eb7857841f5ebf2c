-- The meaning of an expression's bytes: the tree that they stand for, or the number of the first fault.
use Rattle.std.specs.Prelude.{ℕ, zero, suc, ◌*◌, [], ◌∷◌, eqb}
use Rattle.meaning.specs.Kinds.{ExprForm}
use Rattle.meaning.specs.Kinds.{Literal, FieldRef, Sizeof, Alignof, Binary, Unary}
use Rattle.meaning.specs.Kinds.{Form}
use Rattle.meaning.specs.Kinds.{OfExpr, OfType, OfMember, OfRecord, Unknown}
use Rattle.meaning.specs.Kinds.{form_of}
use Rattle.meaning.specs.Tree.{Expr, literal, field_ref, sizeof, alignof, binary, unary}
use Rattle.meaning.specs.Reader.{Reader, done, refuse, due, byte, number, check, many, ◌>>=◌, ◌>>◌}

-- a kind byte
abbrev pub kind : Reader ℕ
kind = do
  due 1
  byte

-- the kind byte of a record, and then what `then` makes of it and its form
abbrev pub node : {A : Type 0} → (ℕ → Form → Reader A) → Reader A
node then = do
  k ← kind
  then k (form_of k)

-- the kind must be m
abbrev pub only : {A : Type 0} → ℕ → (Form → Reader A) → ℕ → Form → Reader A
only m then k f = do
  check (eqb k m) 3
  then f

-- a body that is one number of w bytes
abbrev pub body : ℕ → Reader ℕ
body w = do
  due w
  number w

-- the expression after its kind byte k, whose form is known; `inner` reads an expression inside it
unfoldable pub expr_body : Reader Expr → ℕ → ExprForm → Reader Expr
expr_body inner k (Literal w) = do
  v ← body w
  done (literal k v)
expr_body inner k (FieldRef n) = do
  due (2 * n)
  names ← many ◌∷◌ [] (number 2) n
  done (field_ref names)
expr_body inner k Sizeof = do
  x ← body 2
  done (sizeof x)
expr_body inner k Alignof = do
  x ← body 2
  done (alignof x)
expr_body inner k Binary = do
  l ← inner
  r ← inner
  done (binary k l r)
expr_body inner k Unary = do
  e ← inner
  done (unary k e)

-- the expression after its kind byte k
unfoldable pub expr_after : Reader Expr → ℕ → Form → Reader Expr
expr_after inner k (OfExpr f) = expr_body inner k f
expr_after inner k (OfType f) = refuse 3
expr_after inner k (OfMember w) = refuse 3
expr_after inner k (OfRecord before names behind) = refuse 3
expr_after inner k Unknown = refuse 3

-- an expression, where d levels are left
unfoldable pub read_expr : ℕ → Reader Expr
read_expr zero = refuse 6
read_expr (suc d) = node (expr_after (read_expr d))
