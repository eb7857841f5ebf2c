-- The bits of a number, the lowest first.
--     same_bits_turned   two numbers that share their lowest bits with a third
--     same_bits_equal    numbers of 16 bits, all of which are the same
use Prim.Native.Nat.{ℕ, zero, suc, ◌+◌, ◌*◌, ◌%◌, ◌^◌, ◌<◌}
use native.Mathlib.Omega.{arith}
use native.Mathlib.Nat.{mod-lt, div-add-mod, mul_assoc, pow-suc}
use mathlib.Core.Path.{◌≡◌, sym, ap, ap₂, subst, ◌∙◌}
use Rattle.tree.specs.Tree.{upper, SameBits}

-- a bit is 0 or 1
pub bit : (b : ℕ) → b % 2 < 2
bit b = mod-lt b (omega arith)

pub same_bits_turned : (d w x y : ℕ) → SameBits d w y → SameBits d w x → SameBits d y x
same_bits_turned zero w x y p q = tt
same_bits_turned (suc d) w x y p q = (same_bits_turned d w x y p.0 q.0, sym p.1 ∙ q.1)

-- numbers with the same lowest bits are the same where the bits behind those are
same_bits_number : (d x y : ℕ) → SameBits d x y → upper d x ≡ upper d y → x ≡ y
same_bits_number zero x y p e = e
same_bits_number (suc d) x y p e =
    same_bits_number d x y p.0
    (sym (div-add-mod (upper d x) 2) ∙ ap₂ (λ q r. 2 * q + r) e p.1 ∙ div-add-mod (upper d y) 2)

-- the bits behind the d lowest of a number that has no more than these and those of m
upper_below : (d x m : ℕ) → x < 2 ^ d * m → upper d x < m
upper_below zero x m l = omega (arith, l)
upper_below (suc d) x m l =
    let more : 2 ^ suc d * m ≡ 2 ^ d * (2 * m) = ap (◌* m) (pow-suc 2 d) ∙ mul_assoc (2 ^ d) 2 m in
    let h = upper_below d x (2 * m) (subst (x <◌) more l) in
    omega (arith, h, div-add-mod (upper d x) 2, bit (upper d x))

upper_none : (x : ℕ) → x < 65536 → upper 16 x ≡ 0
upper_none x l = none (upper 16 x) (upper_below 16 x 1 l)
  where
    none : (y : ℕ) → y < 1 → y ≡ 0
    none y l = omega arith

pub same_bits_equal : {x y : ℕ} → x < 65536 → y < 65536 → SameBits 16 x y → x ≡ y
same_bits_equal {x} {y} l m p = same_bits_number 16 x y p (upper_none x l ∙ sym (upper_none y m))
