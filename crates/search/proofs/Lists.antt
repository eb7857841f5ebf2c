-- The list for a chain, lent as a part of the slice.
--     list_room          it has room for three names
--     lent_anew          no search was made
--     list_back          the slice, where it came back as ys: the list is ys, and all else is as it was
use Prim.Native.Nat.{ℕ, ◌+◌, ◌-◌, ◌*◌, ◌≤◌}
use mathlib.Core.Path.{◌≡◌, ap, ◌∙◌}
use mathlib.Core.List.{List, ◌++◌}
use native.Mathlib.Omega.{arith}
use lib.ListN.{length, length-drop, length-set, take, drop, set}
use lib.Seq.{get_or-set_same}
use Rattle.chain.proofs.Parts.{whole_part, tail_back, back_length, back_below, back_part}
use Rattle.search.specs.Work.{list_in, Below, Lent}

pub lent_anew : {count : ℕ} {edges : List ℕ} {to : ℕ} (work : List ℕ) → 7 * count + 7 ≤ length work → Lent count edges to (set work 0 0)
lent_anew work room =
    record { room = omega (arith, length-set work 0 0); sought = λ made. absurd (made (get_or-set_same work 0 0 0 (omega arith))) }

module _ (count : ℕ) (work : List ℕ) (room : 7 * count + 7 ≤ length work) where
  -- what is lent
  lent : List ℕ
  lent = take (length work - (6 * count + 3)) (drop (6 * count + 3) work)

  size : length lent ≡ length work - (6 * count + 3)
  unfolding lent
  size = ap length (whole_part (6 * count + 3) work) ∙ length-drop (6 * count + 3) work

  pub list_room : 3 ≤ length (take (length work - (6 * count + 3)) (drop (6 * count + 3) work))
  unfolding lent
  list_room = omega (arith, size)

  pub list_back : (ys : List ℕ) → length ys ≡ length (take (length work - (6 * count + 3)) (drop (6 * count + 3) work))
      → (list_in count (take (6 * count + 3) work ++ (ys ++ drop (length work - (6 * count + 3)) (drop (6 * count + 3) work))) ≡ ys)
      × Below count work (take (6 * count + 3) work ++ (ys ++ drop (length work - (6 * count + 3)) (drop (6 * count + 3) work)))
  unfolding lent
  list_back ys e =
      let l : 6 * count + 3 ≤ length work = omega arith in
      rw (tail_back (6 * count + 3) work ys l) (
        back_part (6 * count + 3) work ys l,
        record { same = back_below (6 * count + 3) work ys l; size = omega (arith, back_length (6 * count + 3) work ys l, size) },
      )
