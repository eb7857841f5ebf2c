-- A reading taken apart: what the readers that it is made of gave.
use Prim.Native.Nat.{ℕ, zero, suc, ◌+◌, ◌*◌, ◌≤◌, ◌<◌}
use native.Mathlib.Omega.{arith}
use mathlib.Core.Bool.{Bool, true, false, cond}
use mathlib.Core.Path.{◌≡◌, refl, ap}
use mathlib.Core.List.{List, [], ◌∷◌}
use lib.ListN.{length}
use lib.Dec.{leb}
use borrow.Author.Tests.{leb-true, le-leb, lt-leb}
use Rattle.meaning.specs.Reader.{Read, ok, refused, Reader, after, due, number, many, names_from}

-- what came of a reader that goes on after another
pub record Went {A B : Type 0} (x : Read A) (f : A → Reader B) (s : List ℕ) (b : B) (n : ℕ) : Type 0 where
  pub value : A
  pub middle : ℕ
  pub first : x ≡ ok value middle
  pub then : f value s middle ≡ ok b n

pub went : {A B : Type 0} (x : Read A) (f : A → Reader B) (s : List ℕ) (b : B) (n : ℕ) → after x f s ≡ ok b n → Went x f s b n
went (ok a m) f s b n e = record { value = a; middle = m; first = refl; then = e }
went (refused k) f s b n e = let z : ◌≡◌ {A = ℕ} 0 1 = cc in absurd (omega arith)

-- bytes that are due are there
pub record There (n at : ℕ) (s : List ℕ) (m : ℕ) : Type 0 where
  pub same : m ≡ at
  pub bound : at + n ≤ length s

pub there : (n at : ℕ) (s : List ℕ) (u : Unit {0}) (m : ℕ) → due n s at ≡ ok u m → There n at s m
unfolding due
there n at s u m e = go (leb (at + n) (length s)) refl e
  where
    go : (t : Bool) → leb (at + n) (length s) ≡ t → cond t (ok tt at) (refused 2) ≡ ok u m → There n at s m
    go true p q = record { same = cc; bound = leb-true (at + n) (length s) p }
    go false p q = let z : ◌≡◌ {A = ℕ} 0 1 = cc in absurd (omega arith)

-- the bytes are there
pub due_ok : (n at : ℕ) (s : List ℕ) → at + n ≤ length s → due n s at ≡ ok tt at
unfolding due
due_ok n at s h = simp (le-leb (at + n) (length s) h)

-- the bytes are not there
pub due_short : (n at : ℕ) (s : List ℕ) → length s < at + n → due n s at ≡ refused 2
unfolding due
due_short n at s h = simp (lt-leb (at + n) (length s) h)

-- names one after the other
pub many_names : (s : List ℕ) (n at : ℕ) → many ◌∷◌ [] (number 2) n s at ≡ ok (names_from s at n) (at + 2 * n)
unfolding many names_from
many_names s zero at = ap (ok []) (omega arith)
many_names s (suc n) at =
    let p : at + 2 + 2 * n ≡ at + 2 * suc n = omega arith in
    rw (many_names s n (at + 2), p)
