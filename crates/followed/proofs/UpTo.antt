-- The tests on walks say what the relations of the chain's meaning say.
--     up_to_true, true_up_to       es is fs or comes before it
--     last_but_one_of              the last element but one of a list
use Prim.Native.Nat.{ℕ, ◌<◌}
use mathlib.Core.Path.{◌≡◌, refl, ap, subst}
use mathlib.Core.Logic.{◌⊎◌, inl, inr, ⊎_elim}
use mathlib.Core.List.{List, [], ◌∷◌, ◌++◌}
use mathlib.Core.Bool.{Bool, true, false, ◌&&◌, ◌||◌, false≢true}
use mathlib.Core.Option.{some}
use native.Mathlib.Omega.{arith}
use lib.Dec.{eqb, ltb}
use lib.ListN.{length}
use borrow.Author.Tests.{ltb-true, lt-ltb, le-ltb, eqb-true, eq-eqb}
use Rattle.meaning.specs.Chain.{Earlier, fewer, earlier}
use Rattle.followed.specs.Followed.{not_later, up_to, last_but_one}
use Rattle.followed.proofs.Order.{AtMost}

-- smaller, or equal and something more
less_or : (m n : ℕ) (t : Bool) → (ltb m n || (eqb m n && t)) ≡ true → (m < n) ⊎ ((m ≡ n) × (t ≡ true))
less_or m n t h = go (ltb m n) refl (eqb m n) refl h
  where
    go : (x : Bool) → ltb m n ≡ x → (y : Bool) → eqb m n ≡ y → (x || (y && t)) ≡ true → (m < n) ⊎ ((m ≡ n) × (t ≡ true))
    go true p y q h = inl (ltb-true m n p)
    go false p true q h = inr (eqb-true m n q, h)
    go false p false q h = absurd (false≢true h)

or_less : (m n : ℕ) (t : Bool) → (m < n) ⊎ ((m ≡ n) × (t ≡ true)) → (ltb m n || (eqb m n && t)) ≡ true
or_less m n t (inl p) = rw (lt-ltb m n p) refl
or_less m n t (inr p) = rw (le-ltb m n (omega arith), eq-eqb m n p.0) p.1

not_later_true : (es fs : List ℕ) → length es ≡ length fs → not_later es fs ≡ true → (es ≡ fs) ⊎ Earlier es fs
not_later_true [] [] l h = inl refl
not_later_true [] (f ∷ fs) l h = absurd (omega arith)
not_later_true (e ∷ es) [] l h = absurd (false≢true h)
not_later_true (e ∷ es) (f ∷ fs) l h =
    ⊎_elim (λ (p : e < f). inr (inl p))
    (λ (p : (e ≡ f) × (not_later es fs ≡ true)).
    ⊎_elim (λ (q : es ≡ fs). inl (let s = p.0 in cc)) (λ (q : Earlier es fs). inr (inr (p.0, q))) (not_later_true es fs (omega arith) p.1))
    (less_or e f (not_later es fs) h)

true_not_later : (es fs : List ℕ) → (es ≡ fs) ⊎ Earlier es fs → not_later es fs ≡ true
true_not_later es fs (inl p) = subst (λ (l : List ℕ). not_later es l ≡ true) p (self es)
  where
    self : (l : List ℕ) → not_later l l ≡ true
    self [] = refl
    self (x ∷ l) = or_less x x (not_later l l) (inr (refl, self l))
true_not_later [] fs (inr p) = refl
true_not_later (e ∷ es) [] (inr p) = absurd p
true_not_later (e ∷ es) (f ∷ fs) (inr (inl p)) = or_less e f (not_later es fs) (inl p)
true_not_later (e ∷ es) (f ∷ fs) (inr (inr p)) = or_less e f (not_later es fs) (inr (p.0, true_not_later es fs (inr p.1)))

pub up_to_true : (es fs : List ℕ) → up_to es fs ≡ true → AtMost es fs
up_to_true es fs h =
    ⊎_elim (λ (p : length es < length fs). inr (fewer p))
    (λ (p : (length es ≡ length fs) × (not_later es fs ≡ true)).
    ⊎_elim (λ (q : es ≡ fs). inl q) (λ (q : Earlier es fs). inr (earlier p.0 q)) (not_later_true es fs p.0 p.1))
    (less_or (length es) (length fs) (not_later es fs) h)

pub true_up_to : (es fs : List ℕ) → AtMost es fs → up_to es fs ≡ true
true_up_to es fs (inl p) = or_less (length es) (length fs) (not_later es fs) (inr (ap length p, true_not_later es fs (inl p)))
true_up_to es fs (inr (fewer p)) = or_less (length es) (length fs) (not_later es fs) (inl p)
true_up_to es fs (inr (earlier l p)) = or_less (length es) (length fs) (not_later es fs) (inr (l, true_not_later es fs (inr p)))

pub last_but_one_of : (names : List ℕ) (p last : ℕ) → last_but_one (names ++ p ∷ last ∷ []) ≡ some p
last_but_one_of [] p last = refl
last_but_one_of (x ∷ []) p last = refl
last_but_one_of (x ∷ y ∷ names) p last = go names (last_but_one_of (y ∷ names) p last)
  where
    go : (zs : List ℕ) → last_but_one (y ∷ zs ++ p ∷ last ∷ []) ≡ some p → last_but_one (x ∷ y ∷ zs ++ p ∷ last ∷ []) ≡ some p
    go [] h = h
    go (z ∷ zs) h = h
