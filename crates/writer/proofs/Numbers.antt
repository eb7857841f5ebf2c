-- A number written low byte first.
use Prim.Native.Nat.{ℕ, zero, suc, ◌+◌, ◌/◌, ◌%◌, ◌^◌, ◌≤◌}
use native.Mathlib.Nat.{not-suc-le-zero, le_of_suc-le-suc, pow-zero, pow-suc, div-one, div-div-eq-div-mul}
use native.Mathlib.Omega.{arith}
use mathlib.Core.Path.{◌≡◌, refl, sym, ap, ap₂, ◌∙◌}
use mathlib.Core.List.{List, ◌∷◌, ◌++◌, append_assoc}
use lib.ListN.{length, take, drop}
use lib.Seq.{sets, sets-eq, drop-drop}
use Rattle.std.specs.Int.{w64, byte_at, bytes_low_first, to_le_bytes}
use Rattle.names.specs.Documents.{bytes}
use Rattle.meaning.specs.Encoding.{number_items}

pub number_length : (w v : ℕ) → length (bytes (number_items w v)) ≡ w
unfolding number_items
number_length zero v = refl
number_length (suc w) v = ap suc (number_length w (v / 256))

-- the first w of k bytes of v from byte i on
low_from : (w k i v n : ℕ) → w ≤ k → n ≡ v / 256 ^ i → take w (bytes_low_first i k v) ≡ bytes (number_items w n)
unfolding number_items
low_from zero k i v n h e = refl
low_from (suc w) zero i v n h e = absurd (not-suc-le-zero h)
low_from (suc w) (suc k) i v n h e = ap₂ ◌∷◌ (byte i e) (low_from w k (suc i) v (n / 256) (le_of_suc-le-suc h) next)
  where
    byte : (i : ℕ) → n ≡ v / 256 ^ i → byte_at i v ≡ n % 256
    byte zero e = let q : v ≡ n = sym (e ∙ ap (v /◌) (pow-zero 256) ∙ div-one v) in ap (◌% 256) q
    byte (suc i) e = rw e

    next : n / 256 ≡ v / 256 ^ suc i
    next = ap (◌/ 256) e ∙ div-div-eq-div-mul v (256 ^ i) 256 ∙ ap (v /◌) (sym (pow-suc 256 i))

-- the first w bytes of v
pub low_bytes : (w v : ℕ) → w ≤ 8 → take w (to_le_bytes w64 v) ≡ bytes (number_items w v)
low_bytes w v h = low_from w 8 0 v v h (sym (ap (v /◌) (pow-zero 256) ∙ div-one v))

-- a run of stores, as the places from its start on have it
pub stored_from : (at : ℕ) (l xs : List ℕ) → at + length xs ≤ length l → sets l at xs ≡ take at l ++ (xs ++ drop (length xs) (drop at l))
stored_from at l xs h = sets-eq xs l at h ∙ append_assoc (take at l) xs (drop (at + length xs) l) ∙ rw (drop-drop (length xs) at l)

-- a buffer with the first w bytes of v in its middle
pub number_put : (l ys : List ℕ) (at w k v : ℕ) → w ≤ 8 → at + w ≤ length l → k ≡ w → ys ≡ take w (to_le_bytes w64 v)
    → take at l ++ (ys ++ drop k (drop at l)) ≡ sets l at (bytes (number_items w v))
number_put l ys at w k v h room n is =
    let xs = bytes (number_items w v) in
    let q : length xs ≡ k = number_length w v ∙ sym n in
    let e : ys ≡ xs = is ∙ low_bytes w v h in
    ap₂ (λ ys k. take at l ++ (ys ++ drop k (drop at l))) e (sym q) ∙ sym (stored_from at l xs (omega (arith, number_length w v)))
