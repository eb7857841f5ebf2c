-- Bytes that are compared part by part.
use Prim.Native.Nat.{ℕ, ◌+◌, ◌≤◌, ◌<◌}
use native.Mathlib.Numerals.{add-one}
use native.Mathlib.Omega.{arith}
use mathlib.Core.Bool.{Bool, true, false, true≢false}
use mathlib.Core.List.{List, [], ◌++◌, append_assoc, map, map-id}
use mathlib.Core.Path.{◌≡◌, refl, sym, ap, ◌∙◌}
use lib.IntN.{ℤ, pos, negsuc}
use lib.ListN.{length, take, drop, get_or, drop_of_length-le}
use lib.Pointwise.{pointwise}
use lib.Seq.{drop-append_seam, drop-cons}
use mir.Syntax.{w64}
use mir.Val.{of_z}
use Rattle.std.specs.Prelude.{nat_eq}
use Rattle.std.specs.Int.{to_le_bytes}
use Rattle.std.proofs.lemmas.Bool.Decides.{Decides-eqb}
use Rattle.std.proofs.lemmas.Slice.Eq.{slice_eq-Decides}
use Rattle.std.proofs.lemmas.List.{nil_from_length}
use Rattle.meaning.specs.Lists.{flat_map}
use Rattle.writer.proofs.Numbers as low
use Rattle.stored.specs.Stored.{Whether, number_bytes, numbers_bytes, layout_bytes, bits_of}

-- the bytes of a number, as the code has them
pub number_low : (w n : ℕ) → w ≤ 8 → take w (to_le_bytes w64 n) ≡ number_bytes w n
unfolding number_bytes
number_low w n h = low.low_bytes w n h

-- the bits of a number with a sign
pub bits_lem : (v : ℤ) → of_z w64 v ≡ bits_of v
unfolding bits_of
bits_lem (pos n) = refl
bits_lem (negsuc n) = omega arith

-- what a comparison tells
pub told : (r : Bool) (xs ys : List ℕ) → r ≡ pointwise nat_eq xs ys → Whether r (xs ≡ ys)
told true xs ys e = (slice_eq-Decides Decides-eqb xs ys true e).0 refl
told false xs ys e = λ p. true≢false (sym ((slice_eq-Decides Decides-eqb xs ys false e).1 p))

-- whether nothing is left
pub told_empty : (r : Bool) (xs : List ℕ) → r ≡ nat_eq (length xs) 0 → Whether r (xs ≡ [])
told_empty true xs e = nil_from_length xs ((Decides-eqb (length xs) 0).0 (sym e))
told_empty false xs e = λ p. true≢false (sym ((Decides-eqb (length xs) 0).1 (ap length p)) ∙ sym e)

-- two questions with the same answer
pub whether_same : (r : Bool) {P Q : Type 0} → (P → Q) → (Q → P) → Whether r P → Whether r Q
whether_same true f g w = f w
whether_same false f g w = λ q. w (g q)

-- what is left behind a part that stands is compared with what is left
pub part_whether : (r : Bool) (s p x q ys : List ℕ) → p ≡ q → s ≡ p ++ x → Whether r (x ≡ ys) → Whether r (s ≡ q ++ ys)
part_whether r s p x q ys e h =
    whether_same r
    (λ t. h ∙ rw (e, t))
    (λ t. sym (drop-append_seam p x) ∙ ap (drop (length p)) (sym h ∙ t) ∙ rw e (drop-append_seam q ys))

-- a part that does not stand
pub part_not : (s p q ys : List ℕ) → p ≡ q → ((rest : List ℕ) → s ≡ p ++ rest → ⊥) → s ≡ q ++ ys → ⊥
part_not s p q ys e h t = h ys (rw e t)

-- the first i numbers stand: what is left is compared with those behind them
pub record Comparing (w : ℕ) (ns due : List ℕ) (i : ℕ) (rest : List ℕ) : Type 0 where
  pub there : due ≡ numbers_bytes w ns → rest ≡ numbers_bytes w (drop i ns)
  pub back : rest ≡ numbers_bytes w (drop i ns) → due ≡ numbers_bytes w ns

module _ {w : ℕ} {ns due : List ℕ} {i : ℕ} {rest : List ℕ} (c : Comparing w ns due i rest) where
  module _ (n : ℕ) (p : List ℕ) (h : i < length ns) (e : n ≡ get_or ns i 0) (q : p ≡ number_bytes w n) where
    next : numbers_bytes w (drop i ns) ≡ p ++ numbers_bytes w (drop (i + 1) ns)
    unfolding numbers_bytes
    next = rw (q, e, add-one) (ap (flat_map (number_bytes w)) (drop-cons ns i 0 h))

    -- the next number does not stand
    pub comparing_not : ((after : List ℕ) → rest ≡ p ++ after → ⊥) → due ≡ numbers_bytes w ns → ⊥
    comparing_not f d = f (numbers_bytes w (drop (i + 1) ns)) (c.there d ∙ next)

    -- it stands
    pub comparing_next : (after : List ℕ) → rest ≡ p ++ after → Comparing w ns due (i + 1) after
    comparing_next after f =
        record {
          there = λ d. sym (drop-append_seam p after) ∙ ap (drop (length p)) (sym f ∙ c.there d ∙ next) ∙ drop-append_seam p (numbers_bytes w (drop (i + 1) ns));
          back = λ d. c.back (f ∙ ap (p ++◌) d ∙ sym next);
        }

  -- no number is left
  pub comparing_end : (r : Bool) → length ns ≤ i → r ≡ nat_eq (length rest) 0 → Whether r (due ≡ numbers_bytes w ns)
  unfolding numbers_bytes
  comparing_end r h e =
      let d : drop i ns ≡ [] = drop_of_length-le ns {i = i} h in
      whether_same r (λ z. c.back (z ∙ sym (ap (flat_map (number_bytes w)) d))) (λ z. c.there z ∙ ap (flat_map (number_bytes w)) d) (told_empty r rest e)

pub layout_parts : (size alignment : ℕ) (offsets : List ℕ) → layout_bytes size alignment offsets ≡ number_bytes 8 size ++ (number_bytes 8 alignment ++ numbers_bytes 4 offsets)
unfolding layout_bytes
layout_parts size alignment offsets = append_assoc (number_bytes 8 size) (number_bytes 8 alignment) (numbers_bytes 4 offsets)

-- behind a number, numbers that are their own values
pub plain_numbers : (r : Bool) (w head : ℕ) (ns due : List ℕ) → Whether r (due ≡ number_bytes 8 head ++ numbers_bytes w (map (λ n. n) ns))
    → Whether r (due ≡ number_bytes 8 head ++ numbers_bytes w ns)
plain_numbers r w head ns due h = rw (map-id ns) at h
