-- Demand 1 holds of every call for the value of a size.
use Prim.Native.Nat.{ℕ}
use native.Mathlib.Omega.{arith}
use mathlib.Core.Bool.{Bool, true, false, cond}
use mathlib.Core.List.{List, [], ◌∷◌}
use mathlib.Core.Logic.{◌⊎◌, inl, inr, ⊎_elim}
use mathlib.Core.Option.{Option, none, some}
use mathlib.Core.Path.{◌≡◌, refl, sym, ap, subst, ◌∙◌}
use lib.IntN.{ℤ, pos, negsuc}
use Rattle.meaning.specs.Tree.{Expr, Ty, primitive, type_ref, struct, union, enum, array, size_union, Bundle}
use Rattle.meaning.specs.Circle.{circles}
use Rattle.meaning.specs.Encoding.{Bytes}
use Rattle.meaning.specs.Lookup.{type_at}
use Rattle.meaning.specs.Reader.{Read, ok, refused}
use Rattle.meaning.specs.ReadBundle.{read_bundle}
use Rattle.meaning.specs.Calls.{Outcome, result, refusal, due_of, on_bundle}
use Rattle.refusals.specs.Numbers.{Keeps, number_of}
use Rattle.refusals.proofs.Laws.{number_is as refused_number}
use Rattle.refusals.proofs.Unique.{one_to_eight}
use Rattle.demands.proofs.Kept.{accepted_kept, cases}
use Rattle.demands.proofs.Answering.{due_refused, kept_due}
use Rattle.fixed_meaning.specs.Value.{Value, valued, unvalued, value_of}
use Rattle.fixed_meaning.specs.Valuing.{array_value, value_due, valuing}
use Rattle.fixed_laws.proofs.Evaluating.{has_valued, no_valued, value_is, number_is, number_range}
use Rattle.std.specs.Prelude.{Result, Ok, Err}
use Rattle.refusal.specs.declared.Refusal.{Refusal}
use Rattle.refusal.specs.Numbers.{number}
use Rattle.values.specs.Meant.{value_meant}
use Rattle.value_demand.specs.Demand.{HasSize, an_array, SizeIs, Unvalued, no_array, no_value, KnownNumber, RefusedWith, ValueDemand}

-- A value as an outcome, by which the laws of calls apply.

abbrev outcome : Value → Outcome
outcome (valued (pos n)) = result (0 ∷ n ∷ [])
outcome (valued (negsuc n)) = result (1 ∷ n ∷ [])
outcome (unvalued k) = refusal k

outcome_same : (v w : Value) → outcome v ≡ outcome w → v ≡ w
outcome_same (valued (pos a)) (valued (pos b)) e = let z : a ≡ b = cc in ap (λ n. valued (pos n)) z
outcome_same (valued (pos a)) (valued (negsuc b)) e = let z : ◌≡◌ {A = ℕ} 0 1 = cc in absurd (omega arith)
outcome_same (valued (pos a)) (unvalued k) e = let z : ◌≡◌ {A = ℕ} 0 1 = cc in absurd (omega arith)
outcome_same (valued (negsuc a)) (valued (pos b)) e = let z : ◌≡◌ {A = ℕ} 0 1 = cc in absurd (omega arith)
outcome_same (valued (negsuc a)) (valued (negsuc b)) e = let z : a ≡ b = cc in ap (λ n. valued (negsuc n)) z
outcome_same (valued (negsuc a)) (unvalued k) e = let z : ◌≡◌ {A = ℕ} 0 1 = cc in absurd (omega arith)
outcome_same (unvalued j) (valued (pos b)) e = let z : ◌≡◌ {A = ℕ} 0 1 = cc in absurd (omega arith)
outcome_same (unvalued j) (valued (negsuc b)) e = let z : ◌≡◌ {A = ℕ} 0 1 = cc in absurd (omega arith)
outcome_same (unvalued j) (unvalued k) e = let z : j ≡ k = cc in ap unvalued z

due_outcome : (i : ℕ) (s : List ℕ) → outcome (valuing i s) ≡ on_bundle (λ b. outcome (array_value (type_at b i))) s
unfolding valuing value_due on_bundle due_of
due_outcome i s = go (read_bundle s)
  where
    circle : (b : Bundle) (t : Bool) → outcome (cond t (unvalued 8) (array_value (type_at b i))) ≡ cond t (refusal 8) (outcome (array_value (type_at b i)))
    circle b true = refl
    circle b false = refl

    go : (x : Read Bundle) → outcome (value_due (λ b. array_value (type_at b i)) x) ≡ due_of (λ b. outcome (array_value (type_at b i))) x
    go (ok b n) = circle b (circles b)
    go (refused k) = refl

kept_value : (i : ℕ) (s : List ℕ) (b : Bundle) → Keeps s b → valuing i s ≡ array_value (type_at b i)
kept_value i s b k = outcome_same _ _ (due_outcome i s ∙ kept_due (λ b. outcome (array_value (type_at b i))) s b k)

other_value : (i : ℕ) (s : List ℕ) → Bytes s → ((b : Bundle) → Keeps s b → ⊥) → valuing i s ≡ unvalued (number_of s)
other_value i s bytes n = outcome_same _ _ (due_outcome i s ∙ due_refused (λ b. outcome (array_value (type_at b i))) s bytes (λ y. n y.tree (accepted_kept y)))

-- What is due to a definition.

size_value : {o : Option Ty} {size : Expr} → HasSize o size → array_value o ≡ value_of size
unfolding array_value
size_value (an_array e) = rw e

abbrev is_array : Option Ty → Bool
is_array none = false
is_array (some (primitive k)) = false
is_array (some (type_ref n)) = false
is_array (some (struct a ms)) = false
is_array (some (union a ms)) = false
is_array (some (enum a tag ms)) = false
is_array (some (array a jagged size element)) = true
is_array (some (size_union a ms)) = false

no_size : {o : Option Ty} → is_array o ≡ false → (size : Expr) → HasSize o size → ⊥
no_size p size (an_array q) = let t : true ≡ false = sym (ap is_array q) ∙ p in let z : ◌≡◌ {A = ℕ} 0 1 = cc in omega arith

-- an array with its size, or 11
data Sized (o : Option Ty) : Type 0 where
  of_size : (size : Expr) → HasSize o size → Sized o
  of_none : is_array o ≡ false → array_value o ≡ unvalued 11 → Sized o

sized : (o : Option Ty) → Sized o
unfolding array_value
sized none = of_none refl refl
sized (some (primitive k)) = of_none refl refl
sized (some (type_ref n)) = of_none refl refl
sized (some (struct a ms)) = of_none refl refl
sized (some (union a ms)) = of_none refl refl
sized (some (enum a tag ms)) = of_none refl refl
sized (some (array a jagged size element)) = of_size size (an_array refl)
sized (some (size_union a ms)) = of_none refl refl

-- a value or a number, which is due
data Due (o : Option Ty) : Type 0 where
  given : (z : ℤ) → SizeIs o z → array_value o ≡ valued z → Due o
  refused_with : (k : ℕ) → Unvalued o k → KnownNumber k → array_value o ≡ unvalued k → Due o

due : (o : Option Ty) → Due o
due o = go (sized o)
  where
    by : (size : Expr) → HasSize o size → (v : Value) → value_of size ≡ v → Due o
    by size h (valued z) e = given z (record { size = size; array = h; value = value_is size z e }) (size_value h ∙ e)
    by size h (unvalued k) e = let n = number_is size k e in refused_with k (no_value h n) (inr (inr (number_range n))) (size_value h ∙ e)

    go : Sized o → Due o
    go (of_none p e) = refused_with 11 (no_array (no_size p)) (inr (inl refl)) e
    go (of_size size h) = by size h (value_of size) refl

unvalued_is : {o : Option Ty} {k : ℕ} → Unvalued o k → array_value o ≡ unvalued k
unvalued_is (no_value h n) = size_value h ∙ no_valued n
unvalued_is {o} (no_array n) = go (sized o)
  where
    go : Sized o → array_value o ≡ unvalued 11
    go (of_none p e) = e
    go (of_size size h) = absurd (n size h)

-- The answer.

is_valued : (r : Result ℤ Refusal) (z : ℤ) → value_meant r ≡ valued z → r ≡ Ok z
unfolding value_meant
is_valued (Ok y) z e = let q : y ≡ z = cc in ap Ok q
is_valued (Err x) z e = let q : ◌≡◌ {A = ℕ} 0 1 = cc in absurd (omega arith)

is_refused : (r : Result ℤ Refusal) (k : ℕ) → value_meant r ≡ unvalued k → RefusedWith r k
unfolding value_meant
is_refused (Ok y) k e = let q : ◌≡◌ {A = ℕ} 0 1 = cc in absurd (omega arith)
is_refused (Err x) k e = let q : number x ≡ k = cc in (x, (refl, q))

refused_is : (r : Result ℤ Refusal) (k : ℕ) → RefusedWith r k → value_meant r ≡ unvalued k
unfolding value_meant
refused_is r k h = ap value_meant h.1.0 ∙ ap unvalued h.1.1

same_number : {j k : ℕ} → unvalued j ≡ unvalued k → j ≡ k
same_number e = cc

-- the numbers of the call, by its meaning
pub value_number : (i : ℕ) (s : List ℕ) (k : ℕ) → Bytes s → valuing i s ≡ unvalued k → KnownNumber k
value_number i s k bytes e = ⊎_elim kept other (cases s bytes).either
  where
    kept : ((b : Bundle) × Keeps s b) → KnownNumber k
    kept b = go (due (type_at b.0 i))
      where
        go : Due (type_at b.0 i) → KnownNumber k
        go (given z v p) = let t : unvalued k ≡ valued z = sym e ∙ kept_value i s b.0 b.1 ∙ p in let q : ◌≡◌ {A = ℕ} 0 1 = cc in absurd (omega arith)
        go (refused_with j u n p) = subst KnownNumber (sym (same_number (sym e ∙ kept_value i s b.0 b.1 ∙ p))) n

    other : ((b : Bundle) → Keeps s b → ⊥) → KnownNumber k
    other n =
        let z : k ≡ number_of s = same_number (sym e ∙ other_value i s bytes n) in
        inl (omega (arith, z, (one_to_eight s).0), omega (arith, z, (one_to_eight s).1))

pub value_demand : (i : ℕ) (s : List ℕ) (r : Result ℤ Refusal) → Bytes s → value_meant r ≡ valuing i s → ValueDemand i s r
value_demand i s r bytes d = record {
  every = λ b k z v. is_valued r z (d ∙ kept_value i s b k ∙ size_value v.array ∙ has_valued v.value);
  unvalued = λ b k j u. is_refused r j (d ∙ kept_value i s b k ∙ unvalued_is u);
  other = λ n. (number_of s, (refused_number s bytes n, is_refused r (number_of s) (d ∙ other_value i s bytes n)));
  cases = cases s bytes;
  either = λ b k. one_of (due (type_at b i));
  numbered = λ k h. value_number i s k bytes (sym d ∙ refused_is r k h);
}
  where
    one_of : {o : Option Ty} → Due o → ((z : ℤ) × SizeIs o z) ⊎ ((k : ℕ) × Unvalued o k)
    one_of (given z v p) = inl (z, v)
    one_of (refused_with k u n p) = inr (k, u)
