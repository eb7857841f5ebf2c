-- The meaning of an expression gives the values and numbers that the sentences of the document give, and no others.
use Prim.Native.Nat.{ℕ, ◌≤◌}
use native.Mathlib.Omega.{arith}
use mathlib.Core.Bool.{Bool, true, false, cond, not}
use mathlib.Core.Logic.{◌⊎◌, inl, inr}
use mathlib.Core.Option.{Option, none, some}
use mathlib.Core.Path.{◌≡◌, refl, sym, ap, ap₂, subst, ◌∙◌}
use lib.IntN.{ℤ, pos}
use lib.Signed.{lt_z, le_z, ◌<ℤ◌, ◌≤ℤ◌, quot_z, rem_z}
use Rattle.meaning.specs.Tree.{Expr, literal, field_ref, sizeof, alignof, binary, unary}
use Rattle.fixed_meaning.specs.Value.{Value, valued, unvalued, ranged, literal_value, eq_z, divided, operations, operation_of, applied, operated_by, operated, value_of}
use Rattle.fixed_laws.specs.Expressions.{InRange, Stands, unsigned, i64, i32, i16, i8, Makes, add, sub, mul, div, rem, eq, ne, lt, gt, le, ge, Covered, HasValue, a_literal, a_result, NoValue, literal_outside, other_literal, a_field_ref, a_sizeof, an_alignof, a_unary, other_binary, left, right, zero_divisor, outside, Values}
use Rattle.fixed_laws.proofs.Divisions.{division_is, divisor_is, division_one}
use Rattle.fixed_laws.proofs.Exchanged.{value_same}
use Rattle.fixed_laws.proofs.Operating.{by_zero, too_far, Gives, gives, stops, Right, operation_there, operation_right}
use Rattle.fixed_laws.proofs.Ranged.{no_number, Ranged, within, beyond, range_of, in_ranged, out_ranged, Literal, stands, other, literal_of, stands_one, Says, says_truth, says_eq, says_not, says_lt, says_le}

-- What the meaning gives, the sentences give.

-- v is right for e
data Judged (e : Expr) (v : Value) : Type 0 where
  has_value : {z : ℤ} → HasValue e z → v ≡ valued z → Judged e v
  no_value : {k : ℕ} → NoValue e k → v ≡ unvalued k → Judged e v

judged_literal : (k v : ℕ) → Judged (literal k v) (literal_value k v)
judged_literal k v = go (literal_of k v)
  where
    go : Literal k v → Judged (literal k v) (literal_value k v)
    go (other h p) = no_value (other_literal h) p
    go (stands z s p) = by (range_of z)
      where
        by : Ranged z → Judged (literal k v) (literal_value k v)
        by (within i e) = has_value (a_literal s i) (p ∙ e)
        by (beyond n e) = no_value (literal_outside s n) (p ∙ e)

judged_binary : (k : ℕ) (l r : Expr) (v w : Value) → Judged l v → Judged r w → Judged (binary k l r) (operated k v w)
unfolding operated operated_by applied
judged_binary k l r v w jl jr = go (operation_of operations k) refl
  where
    go : (o : Option (ℤ → ℤ → Value)) → operation_of operations k ≡ o → Judged (binary k l r) (operated_by o v w)
    go none p = no_value (other_binary (λ c. nothing (operation_there k c).1)) refl
      where
        nothing : {f : ℤ → ℤ → Value} → operation_of operations k ≡ some f → ⊥
        nothing q = let z : none ≡ some _ = sym p ∙ q in let y : ◌≡◌ {A = ℕ} 0 1 = cc in omega arith
    go (some f) p = sides jl jr
      where
        c : Right k f
        c = operation_right k f p

        made : {a b : ℤ} → HasValue l a → HasValue r b → Gives k a b (f a b) → Judged (binary k l r) (f a b)
        made h g (gives m i e) = has_value (a_result h g m i) e
        made h g (stops (by_zero d z j) e) = no_value (zero_divisor d h g z) (e ∙ ap unvalued j)
        made h g (stops (too_far m n j) e) = no_value (outside h g m n) (e ∙ ap unvalued j)

        sides : Judged l v → Judged r w → Judged (binary k l r) (applied f v w)
        sides (no_value n e) jr = rw e (no_value (left c.covered n) refl)
        sides (has_value h e) (no_value n g) = rw (e, g) (no_value (right c.covered h n) refl)
        sides (has_value {z = a} h e) (has_value {z = b} h' g) = rw (e, g) (made h h' (c.right a b))

judged : (e : Expr) → Judged e (value_of e)
unfolding value_of
judged (literal k v) = judged_literal k v
judged (field_ref ns) = no_value a_field_ref refl
judged (sizeof n) = no_value a_sizeof refl
judged (alignof n) = no_value an_alignof refl
judged (binary k l r) = judged_binary k l r (value_of l) (value_of r) (judged l) (judged r)
judged (unary k e) = no_value a_unary refl

-- What the sentences give, the meaning gives.

-- by the operation of a kind
module _ (k : ℕ) (l r z : ℤ) where
  by_kind : (j : ℕ) → k ≡ j → operated j (valued l) (valued r) ≡ ranged z → operated k (valued l) (valued r) ≡ ranged z
  by_kind j e h = rw e h

  divide : (f : ℤ → ℤ → ℤ) → (r ≡ pos 0 → ⊥) → z ≡ f l r → divided f l r ≡ ranged z
  unfolding divided
  divide f n e = go (eq_z r (pos 0)) (says_eq r (pos 0))
    where
      go : (t : Bool) → Says t (r ≡ pos 0) → cond t (unvalued 13) (ranged (f l r)) ≡ ranged z
      go true h = absurd (n h)
      go false h = ap ranged (sym e)

  made : Makes l r k z → operated k (valued l) (valued r) ≡ ranged z
  unfolding operated operated_by operation_of applied
  made (add p e) = by_kind 0x10 p (ap ranged (sym e))
  made (sub p e) = by_kind 0x11 p (ap ranged (sym e))
  made (mul p e) = by_kind 0x12 p (ap ranged (sym e))
  made (div p d) = by_kind 0x13 p (divide quot_z (divisor_is d) (division_one d).0)
  made (rem p d) = by_kind 0x14 p (divide rem_z (divisor_is d) (division_one d).1)
  made (eq p t) = by_kind 0x1B p (says_truth (eq_z l r) (l ≡ r) (says_eq l r) t)
  made (ne p t) = by_kind 0x1C p (says_truth (not (eq_z l r)) (l ≡ r → ⊥) (says_not (eq_z l r) (l ≡ r) (says_eq l r)) t)
  made (lt p t) = by_kind 0x1D p (says_truth (lt_z l r) (l <ℤ r) (says_lt l r) t)
  made (gt p t) = by_kind 0x1E p (says_truth (lt_z r l) (r <ℤ l) (says_lt r l) t)
  made (le p t) = by_kind 0x1F p (says_truth (le_z l r) (l ≤ℤ r) (says_le l r) t)
  made (ge p t) = by_kind 0x20 p (says_truth (le_z r l) (r ≤ℤ l) (says_le r l) t)

-- a covered kind
covered_by : (k : ℕ) → Covered k → (v w x : Value) → ((f : ℤ → ℤ → Value) → applied f v w ≡ x) → operated k v w ≡ x
unfolding operated operated_by
covered_by k c v w x h = let o = operation_there k c in rw o.1 (h o.0)

pub has_valued : {e : Expr} {z : ℤ} → HasValue e z → value_of e ≡ valued z
unfolding value_of
has_valued (a_literal {k} {v} s i) = stands_one k v s ∙ in_ranged i
has_valued (a_result {k} {l} {r} {a} {b} h g m i) = ap₂ (operated k) (has_valued h) (has_valued g) ∙ made k a b _ m ∙ in_ranged i

uncovered : (k : ℕ) → (Covered k → ⊥) → (v w : Value) → operated k v w ≡ unvalued 15
unfolding operated operated_by
uncovered k n v w = go (operation_of operations k) refl
  where
    go : (o : Option (ℤ → ℤ → Value)) → operation_of operations k ≡ o → operated_by o v w ≡ unvalued 15
    go none p = refl
    go (some f) p = absurd (n (operation_right k f p).covered)

by_zero_lem : (k : ℕ) → (k ≡ 0x13) ⊎ (k ≡ 0x14) → (a b : ℤ) → b ≡ pos 0 → operated k (valued a) (valued b) ≡ unvalued 13
unfolding operated operated_by operation_of applied divided eq_z
by_zero_lem k (inl e) a b z = rw (e, z)
by_zero_lem k (inr e) a b z = rw (e, z)

pub no_valued : {e : Expr} {k : ℕ} → NoValue e k → value_of e ≡ unvalued k
unfolding value_of applied
no_valued (literal_outside {k} {v} s n) = stands_one k v s ∙ out_ranged n
no_valued (other_literal {k} {v} h) = go (literal_of k v)
  where
    go : Literal k v → literal_value k v ≡ unvalued 15
    go (other h p) = p
    go (stands z s p) = absurd (few s)
      where
        few : Stands k v z → ⊥
        few (unsigned l e) = omega arith
        few (i64 e c) = omega arith
        few (i32 e c) = omega arith
        few (i16 e c) = omega arith
        few (i8 e c) = omega arith
no_valued a_field_ref = refl
no_valued a_sizeof = refl
no_valued an_alignof = refl
no_valued a_unary = refl
no_valued (other_binary {k} {l} {r} n) = uncovered k n (value_of l) (value_of r)
no_valued (left {k} {j} {l} {r} c n) = ap (λ v. operated k v (value_of r)) (no_valued n) ∙ covered_by k c (unvalued j) (value_of r) (unvalued j) (λ f. refl)
no_valued (right {k} {j} {l} {r} {a} c h n) = ap₂ (operated k) (has_valued h) (no_valued n) ∙ covered_by k c (valued a) (unvalued j) (unvalued j) (λ f. refl)
no_valued (zero_divisor {k} {l} {r} {a} {b} d h g z) = ap₂ (operated k) (has_valued h) (has_valued g) ∙ by_zero_lem k d a b z
no_valued (outside {k} {l} {r} {a} {b} h g m n) = ap₂ (operated k) (has_valued h) (has_valued g) ∙ made k a b _ m ∙ out_ranged n

-- All of it.

pub value_is : (e : Expr) (z : ℤ) → value_of e ≡ valued z → HasValue e z
value_is e z h = go (judged e)
  where
    go : Judged e (value_of e) → HasValue e z
    go (has_value {z = y} v p) = let q : y ≡ z = let r : valued y ≡ valued z = sym p ∙ h in cc in subst (HasValue e) q v
    go (no_value n p) = no_number (sym h ∙ p)

pub number_is : (e : Expr) (k : ℕ) → value_of e ≡ unvalued k → NoValue e k
number_is e k h = go (judged e)
  where
    go : Judged e (value_of e) → NoValue e k
    go (has_value v p) = no_number (sym p ∙ h)
    go (no_value {k = j} n p) = let q : j ≡ k = let r : unvalued j ≡ unvalued k = sym p ∙ h in cc in subst (NoValue e) q n

in_range : {e : Expr} {z : ℤ} → HasValue e z → InRange z
in_range (a_literal s i) = i
in_range (a_result h g m i) = i

pub number_range : {e : Expr} {k : ℕ} → NoValue e k → (13 ≤ k) × (k ≤ 15)
number_range (literal_outside s n) = (omega arith, omega arith)
number_range (other_literal h) = (omega arith, omega arith)
number_range a_field_ref = (omega arith, omega arith)
number_range a_sizeof = (omega arith, omega arith)
number_range an_alignof = (omega arith, omega arith)
number_range a_unary = (omega arith, omega arith)
number_range (other_binary n) = (omega arith, omega arith)
number_range (left c n) = number_range n
number_range (right c h n) = number_range n
number_range (zero_divisor d h g z) = (omega arith, omega arith)
number_range (outside h g m n) = (omega arith, omega arith)

same_value : {y z : ℤ} → valued y ≡ valued z → y ≡ z
same_value e = cc

same_number : {j k : ℕ} → unvalued j ≡ unvalued k → j ≡ k
same_number e = cc

pub values : Values
values = record {
  value = λ e z. (value_is e z, has_valued);
  number = λ e k. (number_is e k, no_valued);
  either = λ e. one_of e (judged e);
  not_both = λ e z k h n. no_number (sym (has_valued h) ∙ no_valued n);
  one_value = λ e y z h g. same_value (sym (has_valued h) ∙ has_valued g);
  one_number = λ e j k h g. same_number (sym (no_valued h) ∙ no_valued g);
  in_range = λ e z. in_range;
  numbers = λ e k. number_range;
  division = λ a b h. (quot_z a b, (rem_z a b, division_is a b h));
  one_division = λ a b p q m n d e. ((division_one d).0 ∙ sym (division_one e).0, (division_one d).1 ∙ sym (division_one e).1);
  no_division = λ a q m d. divisor_is d refl;
  same = value_same;
}
  where
    one_of : (e : Expr) → Judged e (value_of e) → ((z : ℤ) × HasValue e z) ⊎ ((k : ℕ) × NoValue e k)
    one_of e (has_value {z = z} h p) = inl (z, h)
    one_of e (no_value {k = k} n p) = inr (k, n)
