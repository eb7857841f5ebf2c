-- A list whose places from a on are lent.
--     whole_part                            what is lent
--     tail_back                             the list, where they came back as ys
--     back_length, back_below, back_part    its length, and its places
use Prim.Native.Nat.{ℕ, ◌+◌, ◌-◌, ◌≤◌, ◌<◌}
use mathlib.Core.Path.{◌≡◌, ap, ◌∙◌}
use mathlib.Core.List.{List, ◌++◌, append-nil}
use native.Mathlib.Omega.{arith}
use lib.ListN.{length, length-append, length-drop, get_or, take, drop, get_or-append, drop_of_length-le}
use lib.Seq.{length-take-le, drop_at, get_or-take, take_all}

pub whole_part : (a : ℕ) (xs : List ℕ) → take (length xs - a) (drop a xs) ≡ drop a xs
whole_part a xs = take_all (length xs - a) (drop a xs) (omega (arith, length-drop a xs))

module _ (a : ℕ) (xs ys : List ℕ) (l : a ≤ length xs) where
  pub tail_back : take a xs ++ (ys ++ drop (length xs - a) (drop a xs)) ≡ take a xs ++ ys
  tail_back =
      ap (λ (zs : List ℕ). take a xs ++ zs)
      (ap (λ (zs : List ℕ). ys ++ zs) (drop_of_length-le (drop a xs) {i = length xs - a} (omega (arith, length-drop a xs))) ∙ append-nil ys)

  pub back_length : length (take a xs ++ ys) ≡ a + length ys
  back_length = omega (arith, length-append (take a xs) ys, length-take-le a xs l)

  pub back_below : (i : ℕ) → i < a → get_or (take a xs ++ ys) i 0 ≡ get_or xs i 0
  back_below i h = get_or-append (take a xs) ys 0 i (omega (arith, length-take-le a xs l)) ∙ get_or-take a xs i 0 h

  pub back_part : drop a (take a xs ++ ys) ≡ ys
  back_part = drop_at (take a xs) ys a (length-take-le a xs l)
