-- What the operations of the table make of two values is what the sentences say.
use Prim.Native.Nat.{ℕ, ◌+◌, ◌-◌, ◌≤◌}
use native.Mathlib.Omega.{arith}
use mathlib.Core.Bool.{Bool, true, false, cond, not}
use mathlib.Core.List.{List, [], ◌∷◌}
use mathlib.Core.Logic.{◌⊎◌, inl, inr}
use mathlib.Core.Option.{Option, none, some}
use mathlib.Core.Path.{◌≡◌, refl, sym, subst}
use lib.Dec.{T, eqb}
use lib.IntN.{ℤ, pos, ◌+ℤ◌, ◌-ℤ◌, ◌*ℤ◌}
use lib.Signed.{lt_z, le_z, ◌<ℤ◌, ◌≤ℤ◌, quot_z, rem_z}
use borrow.Author.Tests.{eqb-true}
use Rattle.fixed_meaning.specs.Value.{Value, valued, unvalued, ranged, eq_z, truth, divided, operations, operation_of}
use Rattle.fixed_meaning.proofs.Every.{every_at}
use Rattle.fixed_laws.specs.Expressions.{InRange, Truth, Makes, add, sub, mul, div, rem, eq, ne, lt, gt, le, ge, Covered, arithmetic, comparison}
use Rattle.fixed_laws.proofs.Divisions.{division_is}
use Rattle.fixed_laws.proofs.Ranged.{Ranged, within, beyond, range_of, Says, truth_says, says_truth, says_eq, says_not, says_lt, says_le}

-- kind k makes no value of l and r, and why
pub data Stops (k : ℕ) (l r : ℤ) (j : ℕ) : Type 0 where
  by_zero : (k ≡ 0x13) ⊎ (k ≡ 0x14) → r ≡ pos 0 → j ≡ 13 → Stops k l r j
  too_far : {z : ℤ} → Makes l r k z → (InRange z → ⊥) → j ≡ 14 → Stops k l r j

-- what kind k gives of l and r is what it makes of them
pub data Gives (k : ℕ) (l r : ℤ) (v : Value) : Type 0 where
  gives : {z : ℤ} → Makes l r k z → InRange z → v ≡ valued z → Gives k l r v
  stops : {j : ℕ} → Stops k l r j → v ≡ unvalued j → Gives k l r v

-- f is right for kind k, which is covered
pub record Right (k : ℕ) (f : ℤ → ℤ → Value) : Type 0 where
  pub covered : Covered k
  pub right : (l r : ℤ) → Gives k l r (f l r)

by_range : {k : ℕ} {l r : ℤ} (z : ℤ) → Makes l r k z → Gives k l r (ranged z)
by_range {k} {l} {r} z m = go (range_of z)
  where
    go : Ranged z → Gives k l r (ranged z)
    go (within i e) = gives m i e
    go (beyond n e) = stops (too_far m n refl) e

by_truth : {k : ℕ} {l r : ℤ} (t : Bool) (P : Type 0) → Says t P → ((z : ℤ) → Truth P z → Makes l r k z) → Gives k l r (truth t)
by_truth {k} {l} {r} t P s m = subst (Gives k l r) (sym (says_truth t P s (truth_says t P s))) (by_range (pos (cond t 1 0)) (m (pos (cond t 1 0)) (truth_says t P s)))

by_division : {k : ℕ} {l r : ℤ} (f : ℤ → ℤ → ℤ) → (k ≡ 0x13) ⊎ (k ≡ 0x14) → ((r ≡ pos 0 → ⊥) → Makes l r k (f l r)) → Gives k l r (divided f l r)
unfolding divided
by_division {k} {l} {r} f d m = go (eq_z r (pos 0)) refl (says_eq r (pos 0))
  where
    go : (t : Bool) → eq_z r (pos 0) ≡ t → Says t (r ≡ pos 0) → Gives k l r (cond t (unvalued 13) (ranged (f l r)))
    go true p h = stops (by_zero d h refl) refl
    go false p h = by_range (f l r) (m h)

abbrev Each : List (ℕ × (ℤ → ℤ → Value)) → Type 0
Each [] = Unit {0}
Each (o ∷ os) = Right o.0 o.1 × Each os

sum : (k : ℕ) → 0x10 ≤ k → k ≤ 0x14 → {f : ℤ → ℤ → Value} → ((l r : ℤ) → Gives k l r (f l r)) → Right k f
sum k h g m = record { covered = arithmetic h g; right = m }

test : (k : ℕ) → 0x1B ≤ k → k ≤ 0x20 → {f : ℤ → ℤ → Value} → ((l r : ℤ) → Gives k l r (f l r)) → Right k f
test k h g m = record { covered = comparison h g; right = m }

each : Each operations
each = (
  sum 0x10 (omega arith) (omega arith) (λ l r. by_range (l +ℤ r) (add refl refl)),
  (
    sum 0x11 (omega arith) (omega arith) (λ l r. by_range (l -ℤ r) (sub refl refl)),
    (
      sum 0x12 (omega arith) (omega arith) (λ l r. by_range (l *ℤ r) (mul refl refl)),
      (
        sum 0x13 (omega arith) (omega arith) (λ l r. by_division quot_z (inl refl) (λ h. div refl (division_is l r h))),
        (
          sum 0x14 (omega arith) (omega arith) (λ l r. by_division rem_z (inr refl) (λ h. rem refl (division_is l r h))),
          (
            test 0x1B (omega arith) (omega arith) (λ l r. by_truth (eq_z l r) (l ≡ r) (says_eq l r) (λ z x. eq refl x)),
            (
              test 0x1C (omega arith) (omega arith) (λ l r. by_truth (not (eq_z l r)) (l ≡ r → ⊥) (says_not (eq_z l r) (l ≡ r) (says_eq l r)) (λ z x. ne refl x)),
              (
                test 0x1D (omega arith) (omega arith) (λ l r. by_truth (lt_z l r) (l <ℤ r) (says_lt l r) (λ z x. lt refl x)),
                (
                  test 0x1E (omega arith) (omega arith) (λ l r. by_truth (lt_z r l) (r <ℤ l) (says_lt r l) (λ z x. gt refl x)),
                  (
                    test 0x1F (omega arith) (omega arith) (λ l r. by_truth (le_z l r) (l ≤ℤ r) (says_le l r) (λ z x. le refl x)),
                    (test 0x20 (omega arith) (omega arith) (λ l r. by_truth (le_z r l) (r ≤ℤ l) (says_le r l) (λ z x. ge refl x)), tt),
                  ),
                ),
              ),
            ),
          ),
        ),
      ),
    ),
  ),
)

right_at : (os : List (ℕ × (ℤ → ℤ → Value))) → Each os → (k : ℕ) (f : ℤ → ℤ → Value) → operation_of os k ≡ some f → Right k f
unfolding operation_of
right_at [] e k f h = let y : ◌≡◌ {A = ℕ} 0 1 = cc in absurd (omega arith)
right_at (o ∷ os) e k f h = go (eqb o.0 k) refl (λ g. right_at os e.1 k f g) h
  where
    go : (t : Bool) → eqb o.0 k ≡ t → (operation_of os k ≡ some f → Right k f) → cond t (some o.1) (operation_of os k) ≡ some f → Right k f
    go true p later h = let z : o.1 ≡ f = cc in subst (Right k) z (subst (λ j. Right j o.1) (eqb-true o.0 k p) e.0)
    go false p later h = later h

-- The operation of a kind.

is_some : Option (ℤ → ℤ → Value) → Bool
is_some none = false
is_some (some f) = true

some_of : (o : Option (ℤ → ℤ → Value)) → T (is_some o) → (f : ℤ → ℤ → Value) × (o ≡ some f)
unfolding is_some
some_of none t = absurd t
some_of (some f) t = (f, refl)

pub operation_there : (k : ℕ) → Covered k → (f : ℤ → ℤ → Value) × (operation_of operations k ≡ some f)
unfolding operation_of is_some
operation_there k (arithmetic h g) =
    let e : 0x10 + (k - 0x10) ≡ k = omega arith in
    some_of (operation_of operations k) (rw e at (every_at (λ i. is_some (operation_of operations (0x10 + i))) 5 (k - 0x10) tt (omega arith)))
operation_there k (comparison h g) =
    let e : 0x1B + (k - 0x1B) ≡ k = omega arith in
    some_of (operation_of operations k) (rw e at (every_at (λ i. is_some (operation_of operations (0x1B + i))) 6 (k - 0x1B) tt (omega arith)))

pub operation_right : (k : ℕ) (f : ℤ → ℤ → Value) → operation_of operations k ≡ some f → Right k f
operation_right = right_at operations each
