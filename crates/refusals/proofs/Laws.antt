-- The laws of the numbers.
use Prim.Native.Nat.{ℕ, ◌≤◌}
use native.Mathlib.Decide.{ℕ_discrete}
use native.Mathlib.Omega.{arith}
use mathlib.Core.Bool.{Bool, true, false}
use mathlib.Core.Path.{◌≡◌, refl, sym, subst}
use mathlib.Core.List.{List}
use lib.ListN.{length}
use lib.Dec.{leb}
use borrow.Author.Tests.{leb-true, leb-false}
use Rattle.meaning.specs.Tree.{Bundle}
use Rattle.meaning.specs.Encoding.{Bytes}
use Rattle.meaning.specs.Circle.{Leads}
use Rattle.refusals.specs.Numbers as said
use Rattle.refusals.specs.Numbers.{Keeps, number_of, Number, Numbers}
use Rattle.refusals.proofs.Counts.{crowded}
use Rattle.refusals.proofs.Behind.{trailing}
use Rattle.refusals.proofs.Circles.{one_bundle, bundle_number, circle}
use Rattle.refusals.proofs.Front.{first_fault_lem, short}
use Rattle.refusals.proofs.Encoded.{bundle_bytes_lem}
use Rattle.refusals.proofs.Unique.{fault_range, one_to_eight, overlong, placed, fault_number}

pub number_is : (s : List ℕ) → Bytes s → ((b : Bundle) → Keeps s b → ⊥) → Number s (number_of s)
number_is s bytes none = go (leb (length s) 32768) refl
  where
    small : length s ≤ 32768 → Dec (number_of s ≡ 8) → Number s (number_of s)
    small h (yes e) = subst (Number s) (sym e) (said.circling ((circle s bytes none).0 e))
    small h (no e) = said.faulty h (placed s h e)

    go : (t : Bool) → leb (length s) 32768 ≡ t → Number s (number_of s)
    go true e = small (leb-true (length s) 32768 e) (ℕ_discrete (number_of s) 8)
    go false e = let h = leb-false (length s) 32768 e in subst (Number s) (sym ((overlong s).1 h)) (said.overlong h)

pub one_number : (s : List ℕ) → Bytes s → (k : ℕ) → Number s k → k ≡ number_of s
one_number s bytes k (said.overlong h) = sym ((overlong s).1 h)
one_number s bytes k (said.faulty h f) = fault_number s bytes h k f
one_number s bytes k (said.circling c) = sym (bundle_number s c.tree c.bundle)

pub no_number : (s : List ℕ) (b : Bundle) → Keeps s b → (k : ℕ) → Number s k → ⊥
no_number s b h k (said.overlong l) = omega (arith, (overlong s).1 l, bundle_number s b h.bundle)
no_number s b h k (said.faulty l f) = omega (arith, fault_range s k f, fault_number s (bundle_bytes_lem h.bundle) l k f, bundle_number s b h.bundle)
no_number s b h k (said.circling c) =
    h.no_circle c.at (subst (λ t. Leads t c.at c.at) (one_bundle s c.tree b c.bundle h.bundle) c.circle)

pub numbers : Numbers
numbers = record {
  number = number_is;
  one = one_number;
  none = no_number;
  one_to_eight = one_to_eight;
  overlong = overlong;
  short = λ s b k. short s (bundle_bytes_lem k) b k;
  first_fault_lem = first_fault_lem;
  crowded = crowded;
  trailing = trailing;
  circle = circle;
}
