-- The value of an expression (document 02, L2) as a relation, a case for each of its sentences, and apart from the functions of fixed_meaning.
use Rattle.std.specs.Prelude.{ℕ, suc, ◌^◌, ◌≤◌, ◌<◌, List, ◌↔◌, ◌⊎◌, ◌≡◌, ℤ, pos, neg_ℤ, nat_abs, ◌+ℤ◌, ◌-ℤ◌, ◌*ℤ◌, ◌<ℤ◌, ◌≤ℤ◌}
use Rattle.std.specs.Int.Signed.{non_neg}
use Rattle.meaning.specs.Tree.{Expr, literal, field_ref, sizeof, alignof, binary, unary}
use Rattle.meaning.specs.Renumbering.{map_expr}
use Rattle.fixed_meaning.specs.Value.{valued, unvalued, value_of}

-- within signed 64 bits
pub record InRange (z : ℤ) : Type 0 where
  pub from : neg_ℤ (pos (2 ^ 63)) ≤ℤ z
  pub below : z <ℤ pos (2 ^ 63)

-- what v stands for in two's complement, with n bits beside the sign
pub data Complement (n v : ℕ) (z : ℤ) : Type 0 where
  plus : v < 2 ^ n → z ≡ pos v → Complement n v z
  minus : 2 ^ n ≤ v → z +ℤ pos (2 ^ suc n) ≡ pos v → Complement n v z

-- what a literal stands for: 01 to 04 are unsigned, 05 to 08 have 64, 32, 16 and 8 bits in two's complement
pub data Stands (k v : ℕ) (z : ℤ) : Type 0 where
  unsigned : k ≤ 4 → z ≡ pos v → Stands k v z
  i64 : k ≡ 5 → Complement 63 v z → Stands k v z
  i32 : k ≡ 6 → Complement 31 v z → Stands k v z
  i16 : k ≡ 7 → Complement 15 v z → Stands k v z
  i8 : k ≡ 8 → Complement 7 v z → Stands k v z

-- a divided by b is q, cut toward zero, and m is left, which has the sign of a
pub record Division (a b q m : ℤ) : Type 0 where
  pub whole : a ≡ q *ℤ b +ℤ m
  pub nearer : nat_abs m < nat_abs b
  pub sign : (m ≡ pos 0) ⊎ (non_neg m ≡ non_neg a)

-- 1 where P holds, and 0 where it does not
pub data Truth (P : Type 0) (z : ℤ) : Type 0 where
  holds : P → z ≡ pos 1 → Truth P z
  fails : (P → ⊥) → z ≡ pos 0 → Truth P z

-- kind k makes z of the values l and r, whatever the range: Add, Sub, Mul, Div, Mod, Eq, Ne, Lt, Gt, Le, Ge
pub data Makes (l r : ℤ) (k : ℕ) (z : ℤ) : Type 0 where
  add : k ≡ 0x10 → z ≡ l +ℤ r → Makes l r k z
  sub : k ≡ 0x11 → z ≡ l -ℤ r → Makes l r k z
  mul : k ≡ 0x12 → z ≡ l *ℤ r → Makes l r k z
  div : {m : ℤ} → k ≡ 0x13 → Division l r z m → Makes l r k z
  rem : {q : ℤ} → k ≡ 0x14 → Division l r q z → Makes l r k z
  eq : k ≡ 0x1B → Truth (l ≡ r) z → Makes l r k z
  ne : k ≡ 0x1C → Truth (l ≡ r → ⊥) z → Makes l r k z
  lt : k ≡ 0x1D → Truth (l <ℤ r) z → Makes l r k z
  gt : k ≡ 0x1E → Truth (r <ℤ l) z → Makes l r k z
  le : k ≡ 0x1F → Truth (l ≤ℤ r) z → Makes l r k z
  ge : k ≡ 0x20 → Truth (r ≤ℤ l) z → Makes l r k z

-- the binary kinds that are covered
pub data Covered (k : ℕ) : Type 0 where
  arithmetic : 0x10 ≤ k → k ≤ 0x14 → Covered k
  comparison : 0x1B ≤ k → k ≤ 0x20 → Covered k

-- an expression has this value; so have its sides
pub data HasValue : Expr → ℤ → Type 0 where
  a_literal : {k v : ℕ} {z : ℤ} → Stands k v z → InRange z → HasValue (literal k v) z
  a_result : {k : ℕ} {l r : Expr} {a b z : ℤ} → HasValue l a → HasValue r b → Makes a b k z → InRange z → HasValue (binary k l r) z

-- an expression is refused with this number, the first that is met: the kind before the sides, the left side first
pub data NoValue : Expr → ℕ → Type 0 where
  literal_outside : {k v : ℕ} {z : ℤ} → Stands k v z → (InRange z → ⊥) → NoValue (literal k v) 14
  other_literal : {k v : ℕ} → 8 < k → NoValue (literal k v) 15
  a_field_ref : {ns : List ℕ} → NoValue (field_ref ns) 15
  a_sizeof : {n : ℕ} → NoValue (sizeof n) 15
  an_alignof : {n : ℕ} → NoValue (alignof n) 15
  a_unary : {k : ℕ} {e : Expr} → NoValue (unary k e) 15
  other_binary : {k : ℕ} {l r : Expr} → (Covered k → ⊥) → NoValue (binary k l r) 15
  left : {k j : ℕ} {l r : Expr} → Covered k → NoValue l j → NoValue (binary k l r) j
  right : {k j : ℕ} {l r : Expr} {a : ℤ} → Covered k → HasValue l a → NoValue r j → NoValue (binary k l r) j
  zero_divisor : {k : ℕ} {l r : Expr} {a b : ℤ} → (k ≡ 0x13) ⊎ (k ≡ 0x14) → HasValue l a → HasValue r b → b ≡ pos 0 → NoValue (binary k l r) 13
  outside : {k : ℕ} {l r : Expr} {a b z : ℤ} → HasValue l a → HasValue r b → Makes a b k z → (InRange z → ⊥) → NoValue (binary k l r) 14

-- What the value of an expression is, and its refusals.
pub record Values : Type 0 where
  -- the meaning gives the values and the numbers that the sentences give, and no others
  pub value : (e : Expr) (z : ℤ) → (value_of e ≡ valued z) ↔ HasValue e z
  pub number : (e : Expr) (k : ℕ) → (value_of e ≡ unvalued k) ↔ NoValue e k
  -- an expression has exactly one of the two, and one of it
  pub either : (e : Expr) → ((z : ℤ) × HasValue e z) ⊎ ((k : ℕ) × NoValue e k)
  pub not_both : (e : Expr) (z : ℤ) (k : ℕ) → HasValue e z → NoValue e k → ⊥
  pub one_value : (e : Expr) (y z : ℤ) → HasValue e y → HasValue e z → y ≡ z
  pub one_number : (e : Expr) (j k : ℕ) → NoValue e j → NoValue e k → j ≡ k
  -- a value is within the range, and a number is 13, 14 or 15
  pub in_range : (e : Expr) (z : ℤ) → HasValue e z → InRange z
  pub numbers : (e : Expr) (k : ℕ) → NoValue e k → (13 ≤ k) × (k ≤ 15)
  -- a division has one quotient and one remainder, and none where the divisor is 0
  pub division : (a b : ℤ) → (b ≡ pos 0 → ⊥) → (q : ℤ) × ((m : ℤ) × Division a b q m)
  pub one_division : (a b p q m n : ℤ) → Division a b p m → Division a b q n → (p ≡ q) × (m ≡ n)
  pub no_division : (a q m : ℤ) → Division a (pos 0) q m → ⊥
  -- an exchange of names changes nothing
  pub same : (f : ℕ → ℕ) (e : Expr) → value_of (map_expr f e) ≡ value_of e
