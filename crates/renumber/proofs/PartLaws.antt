-- The parts of a body that are left, by their numbers: bytes, then names, then bytes.
use Prim.Native.Nat.{ℕ, zero, suc, ◌-◌, ◌≤◌, ◌<◌}
use native.Mathlib.Omega.{arith}
use mathlib.Core.Path.{◌≡◌, refl}
use Rattle.meaning.specs.Kinds.{parts, body}
use Rattle.renumber.specs.Scan.{behind}

-- what is behind the first part
pub behind_byte : (a b c k : ℕ) → 0 < a → parts (a - 1) b c ≡ behind (parts a b c) k
behind_byte zero b c k h = absurd (omega arith)
behind_byte (suc a) b c k h = let e : suc a - 1 ≡ a = omega arith in rw e

pub behind_name : (a b c k : ℕ) → a ≤ 0 → 0 < b → parts 0 (b - 1) c ≡ behind (parts a b c) k
behind_name (suc a) b c k p h = absurd (omega arith)
behind_name zero zero c k p h = absurd (omega arith)
behind_name zero (suc b) c k p h = let e : suc b - 1 ≡ b = omega arith in rw e

pub behind_last : (a b c k : ℕ) → a ≤ 0 → b ≤ 0 → 0 < c → parts 0 0 (c - 1) ≡ behind (parts a b c) k
behind_last (suc a) b c k p q h = absurd (omega arith)
behind_last zero (suc b) c k p q h = absurd (omega arith)
behind_last zero zero zero k p q h = absurd (omega arith)
behind_last zero zero (suc c) k p q h = let e : suc c - 1 ≡ c = omega arith in rw e

-- behind the last, the body of the next record
pub behind_all : (a b c k : ℕ) → a ≤ 0 → b ≤ 0 → c ≤ 0 → body k ≡ behind (parts a b c) k
behind_all (suc a) b c k p q r = absurd (omega arith)
behind_all zero (suc b) c k p q r = absurd (omega arith)
behind_all zero zero (suc c) k p q r = absurd (omega arith)
behind_all zero zero zero k p q r = refl
