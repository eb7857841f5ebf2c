-- The value of an expression by its form, in the form in which the code returns it.
use Prim.Native.Nat.{ℕ, ◌+◌, ◌-◌, ◌≤◌, ◌<◌}
use native.Mathlib.Omega.{arith}
use mathlib.Core.Bool.{true≢false}
use mathlib.Core.List.{List}
use mathlib.Core.Option.{some, none}
use mathlib.Core.Path.{◌≡◌, refl, sym, ap, ◌∙◌}
use lib.Dec.{T, leb, leb→le}
use lib.IntN.{ℤ, pos, negsuc, nat_abs}
use lib.ListN.{length, get_or}
use mir.Syntax.{w64}
use mir.Val.{SFits}
use mir.ValLaws.{to_z-of_z}
use Rattle.std.specs.Option.{unwrap_or}
use Rattle.bundle.proofs.Forms.{field_ref_meant, sizeof_meant, alignof_meant, unary_meant}
use Rattle.std.specs.Prelude.{is_some, Result, Ok, Err, Some, None, IsErrAnd, OkIff}
use Rattle.std.specs.Result.{result_ok}
use Rattle.std.specs.Int.{FitsUnsignedBits}
use Rattle.meaning.specs.Kinds.{Form, OfExpr, OfType, Literal, FieldRef, Sizeof, Alignof, Binary, Unary, form_of, lookup}
use Rattle.meaning.specs.Kinds as kinds
use Rattle.meaning.specs.Reader.{little}
use Rattle.meaning.specs.ReadExpr.{read_expr}
use Rattle.meaning.specs.Tree.{Expr, literal}
use Rattle.meaning.proofs.Readings.{due_ok}
use Rattle.bundle.specs.declared.Form as code
use Rattle.bundle.specs.declared.ExprForm as code_expr
use Rattle.bundle.specs.View.{step_of, Reads, form_meant}
use Rattle.bundle.specs.Expressions.{expr_at}
use Rattle.bundle.proofs.ExprLaws.{Opened, literal_ends, binary_ends}
use Rattle.bundle.proofs.Trees.{expr_deep, expr_there, ended, literal_tree, field_ref_tree, sizeof_tree, alignof_tree, unary_tree, binary_tree, left_reads, right_reads}
use Rattle.bundle.proofs.Heads.{body_where}
use Rattle.fixed_meaning.specs.Value as meaning
use Rattle.fixed_meaning.specs.Value.{valued, unvalued, literal_value, operations, operation_of, applied, operated_by, operated, value_of}
use Rattle.fixed_meaning.specs.Fixed.{count_by, count_of}
use Rattle.fixed_meaning.proofs.Every.{every_at}
use Rattle.extents.specs.Meant.{count_meant}
use Rattle.values.specs.declared.Operation.{Operation}
use Rattle.values.specs.Meant.{value_meant, operation_kind}
use Rattle.values.proofs.Arithmetic.{back}
use Rattle.values.proofs.Operations.{operation_is}
use Rattle.refusal.specs.declared.Refusal.{Refusal}
use Rattle.refusal.specs.Numbers.{number}
use Rattle.evaluate.specs.Evaluates.{Evaluates}

-- the bytes of a literal
abbrev literal_width : Form → ℕ
literal_width (OfExpr (Literal w)) = w
literal_width (OfExpr (FieldRef n)) = 0
literal_width (OfExpr Sizeof) = 0
literal_width (OfExpr Alignof) = 0
literal_width (OfExpr Binary) = 0
literal_width (OfExpr Unary) = 0
literal_width (OfType t) = 0
literal_width (kinds.OfMember w) = 0
literal_width (kinds.OfRecord x y z) = 0
literal_width kinds.Unknown = 0

width_most : (k w : ℕ) → k < 256 → form_of k ≡ OfExpr (Literal w) → w ≤ 8
unfolding lookup
width_most k w h e =
    let t : T (leb (literal_width (form_of k)) 8) = every_at (λ k. leb (literal_width (form_of k)) 8) 256 k tt h in
    leb→le w 8 (rw e at t)

-- a form that is no expression's
pub not_expr : (f : code.Form) → ((x : code_expr.ExprForm) → f ≡ code.TheVariants.OfExpr x → ⊥) → (e : kinds.ExprForm) → form_meant f ≡ OfExpr e → ⊥
unfolding form_meant
not_expr (code.TheVariants.OfExpr x) o e p = o x refl
not_expr (code.TheVariants.OfType x) o e p = let z : ◌≡◌ {A = ℕ} 0 1 = cc in omega arith
not_expr (code.TheVariants.OfMember x) o e p = let z : ◌≡◌ {A = ℕ} 0 1 = cc in omega arith
not_expr (code.TheVariants.OfRecord x) o e p = let z : ◌≡◌ {A = ℕ} 0 1 = cc in omega arith
not_expr code.TheVariants.Unknown o e p = let z : ◌≡◌ {A = ℕ} 0 1 = cc in omega arith

pub expr_opened : (d at : ℕ) (s : List ℕ) (f : Form) → Reads (read_expr d s at) → f ≡ form_of (get_or s at 0) → Opened d at s f
expr_opened d at s f r e = record { deep = expr_deep d at s r; there = expr_there d at s r; form = e }

module _ (d : ℕ) (s : List ℕ) (at : ℕ) where
  -- a refusal that is passed on
  pub refused : (r : Result (ℤ × ℕ) Refusal) (k : Refusal) → IsErrAnd r (λ e. e ≡ k) → unvalued (number k) ≡ value_of (expr_at d s at) → Evaluates d s at r
  refused (Err e) k m h = rw m h
  refused (Ok x) k m h = absurd m

-- an expression that was read, by its form
module _ {d at : ℕ} {s : List ℕ} {f : Form} (o : Opened d at s f) (r : Reads (read_expr d s at)) where
  module _ (w : ℕ) (p : f ≡ OfExpr (Literal w)) where
    body_ends : (m : ℕ) × ((m ≡ at + 1 + w) × ((at + 1 + w ≤ length s) × (Ok m ≡ step_of (read_expr d s at))))
    body_ends = let m = ended (read_expr d s at) r in let b = body_where w (at + 1) m.0 s (m.1 ∙ literal_ends o w p) in (m.0, (b.0, (b.1, m.1)))

    pub literal_there : at + 1 + w ≤ length s
    literal_there = body_ends.1.1.0

    pub literal_most : get_or s at 0 < 256 → w ≤ 8
    literal_most h = width_most (get_or s at 0) w h (sym o.form ∙ p)

    literal_is : expr_at d s at ≡ literal (get_or s at 0) (little s (at + 1) w)
    literal_is = literal_tree o r w p ∙ ap (literal (get_or s at 0)) (rw (due_ok w (at + 1) s literal_there))

    pub literal_valued : (v : ℕ) → v ≡ little s (at + 1) w → (y : meaning.Value) → y ≡ literal_value (get_or s at 0) v → y ≡ value_of (expr_at d s at)
    unfolding value_of
    literal_valued v e y same = same ∙ ap (literal_value (get_or s at 0)) e ∙ sym (rw literal_is)

    pub literal_end : Ok (at + 1 + w) ≡ step_of (read_expr d s at)
    literal_end = ap Ok (sym body_ends.1.0) ∙ body_ends.1.1.1

  -- a binary expression
  module _ (p : f ≡ OfExpr Binary) where
    abbrev kind : ℕ
    kind = get_or s at 0

    -- of which the left side ends at m
    module _ (m : ℕ) (e : Ok m ≡ step_of (read_expr (d - 1) s (at + 1))) where
      binary_is : value_of (expr_at d s at) ≡ operated kind (value_of (expr_at (d - 1) s (at + 1))) (value_of (expr_at (d - 1) s m))
      unfolding value_of
      binary_is = rw (binary_tree o r p m e)

    -- is not covered
    pub kind_refused : operation_of operations kind ≡ none → unvalued 15 ≡ value_of (expr_at d s at)
    unfolding operated operated_by
    kind_refused h = let m = ended (read_expr (d - 1) s (at + 1)) (left_reads o r p) in sym (binary_is m.0 m.1 ∙ rw h)

    -- is covered
    module _ (x : Operation) (c : operation_kind x ≡ kind) where
      by_sides : (l r : meaning.Value) (k : ℕ) → ((g : ℤ → ℤ → meaning.Value) → applied g l r ≡ unvalued k) → operated kind l r ≡ unvalued k
      unfolding operated operated_by
      by_sides l r k a = let g = operation_is x in rw (← c, g.1) (a g.0)

      -- and its left side is refused
      pub left_refused : (k : ℕ) → unvalued k ≡ value_of (expr_at (d - 1) s (at + 1)) → unvalued k ≡ value_of (expr_at d s at)
      unfolding applied
      left_refused k h =
          let m = ended (read_expr (d - 1) s (at + 1)) (left_reads o r p) in
          sym (binary_is m.0 m.1 ∙ rw (← h) (by_sides (unvalued k) (value_of (expr_at (d - 1) s m.0)) k (λ g. refl)))

      -- its left side has a value, and the right side is refused
      pub right_refused : (x : ℤ) (m k : ℕ) → Evaluates (d - 1) s (at + 1) (Ok (x, m)) → unvalued k ≡ value_of (expr_at (d - 1) s m) → unvalued k ≡ value_of (expr_at d s at)
      unfolding applied
      right_refused x m k l h = sym (binary_is m l.1 ∙ rw (← l.0, ← h) (by_sides (valued x) (unvalued k) k (λ g. refl)))

    -- the right side was read where the left one ends
    pub right_there : (x : ℤ) (m : ℕ) → Evaluates (d - 1) s (at + 1) (Ok (x, m)) → Reads (read_expr (d - 1) s m)
    right_there x m l = right_reads o r p m l.1

    -- both sides have a value; these have come back from their bits
    module _ (x y : ℤ) (m end : ℕ) (i : SFits w64 x) (h : SFits w64 y) (l : Evaluates (d - 1) s (at + 1) (Ok (x, m))) (k : Evaluates (d - 1) s m (Ok (y, end))) where
      pub both_valued : (j : ℕ) → j ≡ kind → operated j (valued (back x)) (valued (back y)) ≡ value_of (expr_at d s at)
      both_valued j e = sym (binary_is m l.1 ∙ rw (← l.0, ← k.0, to_z-of_z w64 x i, to_z-of_z w64 y h, e) refl)

      pub both_end : Ok end ≡ step_of (read_expr d s at)
      both_end = k.1 ∙ sym (binary_ends o m p l.1)

-- an expression that is neither a literal nor binary has no value
module _ {d at : ℕ} {s : List ℕ} (r : Reads (read_expr d s at)) where
  pub other_refused : (f : code.Form) (x : code_expr.ExprForm) → f ≡ code.TheVariants.OfExpr x → Opened d at s (form_meant f) → ((w : ℕ) → x ≡ code_expr.TheVariants.Literal w → ⊥) → (x ≡ code_expr.TheVariants.Binary → ⊥) → unvalued 15 ≡ value_of (expr_at d s at)
  unfolding value_of
  other_refused f (code_expr.TheVariants.Literal w) e o l b = absurd (l w refl)
  other_refused f (code_expr.TheVariants.FieldRef n) e o l b = rw (field_ref_tree o r n (field_ref_meant e))
  other_refused f code_expr.TheVariants.Sizeof e o l b = rw (sizeof_tree o r (sizeof_meant e))
  other_refused f code_expr.TheVariants.Alignof e o l b = rw (alignof_tree o r (alignof_meant e))
  other_refused f code_expr.TheVariants.Binary e o l b = absurd (b refl)
  other_refused f code_expr.TheVariants.Unary e o l b = rw (unary_tree o r (unary_meant e))

-- a value that has come back from its bits
pub returned : (z : ℤ) (v : meaning.Value) → SFits w64 z → value_meant (Ok z) ≡ v → valued (back z) ≡ v
unfolding value_meant
returned z v f e = ap valued (to_z-of_z w64 z f) ∙ e

pub value_returned : (z : ℤ) (v : meaning.Value) → SFits w64 z → valued z ≡ v → value_meant (Ok (back z)) ≡ v
unfolding value_meant
value_returned z v f e = ap valued (to_z-of_z w64 z f) ∙ e

pub value_refused : (r : Result ℤ Refusal) (k : Refusal) (v : meaning.Value) → IsErrAnd r (λ e. e ≡ k) → unvalued (number k) ≡ v → value_meant r ≡ v
unfolding value_meant
value_refused (Err e) k v m h = rw m h
value_refused (Ok x) k v m h = absurd m

-- the count
pub no_count : (e : Expr) (u : Result ℤ Refusal) → value_meant u ≡ value_of e → result_ok u ≡ None → count_meant None ≡ count_of e
unfolding count_of count_by count_meant value_meant
no_count e (Ok z) q n = absurd (true≢false (ap is_some n))
no_count e (Err k) q n = rw (← q)

pub count_is : {E : Type 0} (e : Expr) (u : Result ℤ Refusal) (z : ℤ) (r : Result ℕ E) → value_meant u ≡ value_of e → result_ok u ≡ Some z → SFits w64 z → OkIff r (FitsUnsignedBits 64 (back z)) (nat_abs (back z)) → count_meant (result_ok r) ≡ count_of e
unfolding count_of count_by count_meant value_meant
count_is e (Err k) z r q n f c = absurd (true≢false (sym (ap is_some n)))
count_is e (Ok y) z r q n f c =
    let s : y ≡ z = ap (λ o. unwrap_or o z) n in
    rw (← (sym (ap valued s) ∙ q)) (go z r f (rw (to_z-of_z w64 z f) at c))
  where
    go : {E : Type 0} (z : ℤ) (r : Result ℕ E) → SFits w64 z → OkIff r (FitsUnsignedBits 64 z) (nat_abs z) → count_meant (result_ok r) ≡ count_by (valued z)
    go (pos n) (Ok x) f c = ap some c.1
    go (pos n) (Err i) f c = absurd (c (omega (arith, f.sfits)))
    go (negsuc n) (Ok x) f c = absurd c.0
    go (negsuc n) (Err i) f c = refl
