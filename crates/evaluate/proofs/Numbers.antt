-- Numbers in the bytes, in the form in which the code reads them.
use Prim.Native.Nat.{ℕ, suc, ◌+◌, ◌-◌, ◌*◌, ◌^◌, ◌≤◌, ◌<◌}
use native.Mathlib.Nat.{pow-suc, pow-le-pow_right}
use native.Mathlib.Omega.{arith}
use mathlib.Core.Path.{◌≡◌, refl, ◌∙◌}
use mathlib.Core.List.{List}
use lib.ListN.{get_or}
use Rattle.meaning.specs.Reader.{little}

-- the last i of the w bytes at `at` make this value
pub record Reading (s : List ℕ) (at w value i : ℕ) : Type 0 where
  pub inside : i ≤ w
  pub is : value ≡ little s (at + (w - i)) i
  pub below : value < 256 ^ i

pub reading_start : (s : List ℕ) (at w : ℕ) → Reading s at w 0 0
unfolding little
reading_start s at w = record { inside = omega arith; is = refl; below = omega arith }

pub reading_end : (s : List ℕ) (at w value i : ℕ) → Reading s at w value i → w ≤ i → value ≡ little s at w
reading_end s at w value i r h =
    let e : i ≡ w = omega (arith, r.inside) in
    let p : at + (w - i) ≡ at = omega arith in
    r.is ∙ rw (p, e)

module _ (s : List ℕ) (at w value i : ℕ) (r : Reading s at w value i) (h : i < w) (few : w ≤ 8) where
  pub reading_shift : value * 256 < 18446744073709551616
  reading_shift =
      let p : 256 ^ i ≤ 256 ^ 7 = pow-le-pow_right {n = 256} (omega arith) {i = i} {j = 7} (omega arith) in
      omega (arith, r.below, p)

  module _ (b : get_or s (at + (w - 1 - i)) 0 < 256) where
    less : value * 256 + get_or s (at + (w - 1 - i)) 0 < 256 ^ suc i
    less = rw pow-suc (omega (arith, r.below))

    pub reading_fits : value * 256 + get_or s (at + (w - 1 - i)) 0 < 18446744073709551616
    reading_fits =
        let p : 256 ^ suc i ≤ 256 ^ 8 = pow-le-pow_right {n = 256} (omega arith) {i = suc i} {j = 8} (omega arith) in
        omega (arith, less, p)

    pub reading_next : Reading s at w (value * 256 + get_or s (at + (w - 1 - i)) 0) (i + 1)
    unfolding little
    reading_next =
        let e : i + 1 ≡ suc i = omega arith in
        let p : at + (w - suc i) ≡ at + (w - 1 - i) = omega arith in
        let q : suc (at + (w - 1 - i)) ≡ at + (w - i) = omega arith in
        rw e (record { inside = omega arith; is = rw (p, q) (omega (arith, r.is)); below = less })
