-- A scan over records, item by item: what holds where some are done.
use Prim.Native.Nat.{ℕ, suc, ◌+◌, ◌*◌, ◌/◌, ◌%◌, ◌≤◌, ◌<◌}
use native.Mathlib.Numerals.{add-one}
use native.Mathlib.Omega.{arith}
use mathlib.Core.Bool.{Bool, true, false, cond}
use mathlib.Core.List.{List, [], ◌∷◌, ◌++◌, append_assoc, append-nil}
use mathlib.Core.Path.{◌≡◌, refl, sym, ap, ap₂, subst, ◌∙◌}
use lib.Dec.{eqb}
use lib.ListN.{length, get_or, drop, set, length-append, length-drop, drop_of_length-le}
use lib.Seq.{drop-cons, set_at}
use Rattle.table.specs.Table.{Members, Entered}
use Rattle.names.specs.Names.{distinct, numbering}
use Rattle.names.specs.Documents.{Item, byte, name, bytes, names, renumber_items}
use Rattle.names.specs.Records.{items_in, WholeIn, items, Whole, renumber_bytes}
use Rattle.names.specs.Tables.{Holds}
use Rattle.names.proofs.Items.{names_append, bytes_append, renumber_byte, renumber_name}
use Rattle.names.proofs.Tables.{distinct_next, count_next, held_none, entered_place, entered_held}
use Rattle.meaning.specs.Kinds.{body}
use Rattle.meaning.specs.Reader.{little}
use Rattle.meaning.proofs.Heads.{little_2}
use Rattle.bundle.specs.Definitions.{buckets}
use Rattle.renumber.specs.Scan.{name_first, behind, Put}

-- the bytes s are scanned up to `at`, where the parts p of a body are left: the places o have become out, the table t has the names, and
-- next is the next number
pub record Scan (s o out t : List ℕ) (next at : ℕ) (p : List Bool) : Type 0 where
  pub done : List Item
  pub found : items body s ≡ done ++ items_in body p (drop at s)
  pub whole : WholeIn body p (drop at s)
  pub written : out ≡ bytes (renumber_items done) ++ drop at o
  pub size : length (bytes (renumber_items done)) ≡ at
  pub table : Holds t buckets (distinct (names done))
  pub count : next ≡ length (distinct (names done))
  pub few : 2 * next ≤ at + 2
  pub within : at ≤ length s
  pub room : length s ≤ length o

-- the table has 0
pub scan_start : (s o : List ℕ) {t u : List ℕ} {r : ℕ} → Whole body s → length s ≤ length o → Members t 0 buckets 0 → Entered t 0 buckets 0 0 r u → Scan s o o u 1 0 []
scan_start s o whole room m e = record {
  done = [];
  found = refl;
  whole = whole;
  written = refl;
  size = refl;
  table = entered_held (held_none m) e;
  count = refl;
  few = omega arith;
  within = omega arith;
  room = room;
}

-- The next item.

items_byte : (p : List Bool) (b : ℕ) (l : List ℕ) → name_first p ≡ false → items_in body p (b ∷ l) ≡ byte b ∷ items_in body (behind p b) l
items_byte [] b l e = refl
items_byte (false ∷ p) b l e = refl
items_byte (true ∷ p) b l e = cc

whole_byte : (p : List Bool) (b : ℕ) (l : List ℕ) → name_first p ≡ false → WholeIn body p (b ∷ l) → WholeIn body (behind p b) l
whole_byte [] b l e w = w
whole_byte (false ∷ p) b l e w = w
whole_byte (true ∷ p) b l e w = let z : ◌≡◌ {A = ℕ} 0 1 = cc in absurd (omega arith)

-- a name has two bytes
name_there : (p : List Bool) (l : List ℕ) → name_first p ≡ true → WholeIn body p l → 2 ≤ length l
name_there [] l e w = let z : ◌≡◌ {A = ℕ} 0 1 = cc in absurd (omega arith)
name_there (false ∷ p) l e w = let z : ◌≡◌ {A = ℕ} 0 1 = cc in absurd (omega arith)
name_there (true ∷ p) [] e w = absurd w
name_there (true ∷ p) (b ∷ []) e w = absurd w
name_there (true ∷ p) (b ∷ c ∷ l) e w = omega arith

items_name : (p : List Bool) (b c k : ℕ) (l : List ℕ) → name_first p ≡ true → items_in body p (b ∷ c ∷ l) ≡ name (b + 256 * c) ∷ items_in body (behind p k) l
items_name [] b c k l e = cc
items_name (false ∷ p) b c k l e = cc
items_name (true ∷ p) b c k l e = refl

whole_name : (p : List Bool) (b c k : ℕ) (l : List ℕ) → name_first p ≡ true → WholeIn body p (b ∷ c ∷ l) → WholeIn body (behind p k) l
whole_name [] b c k l e w = let z : ◌≡◌ {A = ℕ} 0 1 = cc in absurd (omega arith)
whole_name (false ∷ p) b c k l e w = let z : ◌≡◌ {A = ℕ} 0 1 = cc in absurd (omega arith)
whole_name (true ∷ p) b c k l e w = w

-- two places are stored
stored : (w : List ℕ) (x y : ℕ) (l : List ℕ) (at : ℕ) → length w ≡ at → (a b : ℕ) → set (set (w ++ x ∷ y ∷ l) at a) (at + 1) b ≡ w ++ a ∷ b ∷ l
stored w x y l at e a b =
    ap (λ l. set l (at + 1) b) (set_at w x (y ∷ l) a at e ∙ sym (append_assoc w (a ∷ []) (y ∷ l)))
    ∙ set_at (w ++ a ∷ []) y l b (at + 1) (length-append w (a ∷ []) ∙ ap (◌+ 1) e)
    ∙ append_assoc w (a ∷ []) (b ∷ l)

module _ {s o out t : List ℕ} {next at : ℕ} {p : List Bool} (g : Scan s o out t next at p) where
  pub scan_length : length out ≡ length o
  scan_length = rw (g.written, length-append, g.size, length-drop) (omega (arith, g.within, g.room))

  pub scan_members : Members t 0 buckets next
  scan_members = rw g.count g.table.all

  -- one item more, i, which is written as j and ends at m
  module _ (i j : Item) (m : ℕ) (q : List Bool) (out' u : List ℕ) (next' : ℕ) where
    advance : items_in body p (drop at s) ≡ i ∷ items_in body q (drop m s) → WholeIn body q (drop m s)
        → renumber_items (g.done ++ i ∷ []) ≡ renumber_items g.done ++ j ∷ [] → at + length (bytes (j ∷ [])) ≡ m
        → out' ≡ bytes (renumber_items g.done) ++ (bytes (j ∷ []) ++ drop m o) → Holds u buckets (distinct (names (g.done ++ i ∷ [])))
        → next' ≡ length (distinct (names (g.done ++ i ∷ []))) → 2 * next' ≤ m + 2 → m ≤ length s
        → Scan s o out' u next' m q
    advance found whole renumbered ends written table count few within = record {
      done = g.done ++ i ∷ [];
      found = g.found ∙ ap (g.done ++◌) found ∙ sym (append_assoc g.done (i ∷ []) (items_in body q (drop m s)));
      whole = whole;
      written = written ∙ sym (append_assoc (bytes (renumber_items g.done)) (bytes (j ∷ [])) (drop m o)) ∙ ap (◌++ drop m o) (sym new);
      size = ap length new ∙ length-append (bytes (renumber_items g.done)) (bytes (j ∷ [])) ∙ ap (◌+ length (bytes (j ∷ []))) g.size ∙ ends;
      table = table;
      count = count;
      few = few;
      within = within;
      room = g.room;
    }
      where
        new : bytes (renumber_items (g.done ++ i ∷ [])) ≡ bytes (renumber_items g.done) ++ bytes (j ∷ [])
        new = ap bytes renumbered ∙ bytes_append (renumber_items g.done) (j ∷ [])

  -- a byte is copied
  pub scan_byte : name_first p ≡ false → at < length s → (q : List Bool) → q ≡ behind p (get_or s at 0)
      → Scan s o (set out at (get_or s at 0)) t next (at + 1) q
  scan_byte e more q left =
      advance (byte b) (byte b) (at + 1) q (set out at b) t next
      (rw (add-one, left) (ap (items_in body p) rest ∙ items_byte p b (drop (suc at) s) e))
      (rw (add-one, left) (whole_byte p b (drop (suc at) s) e (subst (WholeIn body p) rest g.whole)))
      (renumber_byte g.done b)
      refl
      (rw add-one (ap (λ l. set l at b) (g.written ∙ ap (w ++◌) (drop-cons o at 0 (omega (arith, g.room)))) ∙ set_at w (get_or o at 0) (drop (suc at) o) b at g.size))
      (subst (λ xs. Holds t buckets (distinct xs)) (sym same) g.table)
      (g.count ∙ ap (λ xs. length (distinct xs)) (sym same))
      (omega (arith, g.few))
      (omega arith)
    where
      b : ℕ
      b = get_or s at 0

      w : List ℕ
      w = bytes (renumber_items g.done)

      rest : drop at s ≡ b ∷ drop (suc at) s
      rest = drop-cons s at 0 more

      same : names (g.done ++ byte b ∷ []) ≡ names g.done
      same = names_append g.done (byte b ∷ []) ∙ append-nil (names g.done)

  -- where a name comes first, it is there
  pub scan_there : name_first p ≡ true → at + 2 ≤ length s
  scan_there e = omega (arith, g.within, rw length-drop at (name_there p (drop at s) e g.whole))

  -- a name is renumbered
  pub scan_name : name_first p ≡ true → (k : ℕ) (q : List Bool) → q ≡ behind p k
      → {out' u : List ℕ} {next' : ℕ} → Put s at t next out out' u next' → Scan s o out' u next' (at + 2) q
  scan_name e k q left {out'} {u} {next'} put =
      advance (name n) (name r) (at + 2) q out' u next'
      (rw (two, left) (ap (items_in body p) rest ∙ items_name p b c k (drop (suc (suc at)) s) e ∙ ap (λ y. name y ∷ items_in body (behind p k) (drop (suc (suc at)) s)) (sym value)))
      (rw (two, left) (whole_name p b c k (drop (suc (suc at)) s) e (subst (WholeIn body p) rest g.whole)))
      (renumber_name d n ∙ ap (λ x. renumber_items d ++ name x ∷ []) (sym gives))
      refl
      (rw two (put.written ∙ ap (λ l. set (set l at (r % 256)) (at + 1) (r / 256)) (g.written ∙ ap (w ++◌) places) ∙ stored w _ _ _ at g.size (r % 256) (r / 256)))
      (rw (seen, distinct_next) (entered_held g.table entered))
      (rw (seen, distinct_next, count_next, ← gives, ← g.count) put.count)
      (rw put.count (at_most (eqb r next)))
      there
    where
      d : List Item
      d = g.done

      w : List ℕ
      w = bytes (renumber_items d)

      b : ℕ
      b = get_or s at 0

      c : ℕ
      c = get_or s (at + 1) 0

      n : ℕ
      n = little s at 2

      r : ℕ
      r = put.number

      there : at + 2 ≤ length s
      there = scan_there e

      two : at + 2 ≡ suc (suc at)
      two = omega arith

      rest : drop at s ≡ b ∷ c ∷ drop (suc (suc at)) s
      rest = rw add-one (drop-cons s at 0 (omega (arith, there)) ∙ ap (get_or s at 0 ∷◌) (drop-cons s (suc at) 0 (omega (arith, there))))

      places : drop at o ≡ get_or o at 0 ∷ get_or o (suc at) 0 ∷ drop (suc (suc at)) o
      places = drop-cons o at 0 (omega (arith, there, g.room)) ∙ ap (get_or o at 0 ∷◌) (drop-cons o (suc at) 0 (omega (arith, there, g.room)))

      value : n ≡ b + 256 * c
      value = little_2 s at

      entered : Entered t 0 buckets (length (distinct (names d))) n r u
      entered = rw g.count at put.entered

      gives : r ≡ numbering (names d) n
      gives = entered_place g.table entered

      seen : names (d ++ name n ∷ []) ≡ names d ++ n ∷ []
      seen = names_append d (name n ∷ [])

      at_most : (x : Bool) → 2 * cond x (next + 1) next ≤ at + 2 + 2
      at_most true = omega (arith, g.few)
      at_most false = omega (arith, g.few)

-- all is scanned
pub scan_end : {s o out t : List ℕ} {next at : ℕ} {p : List Bool} → Scan s o out t next at p → length s ≤ at
    → out ≡ renumber_bytes body s ++ drop (length s) o
scan_end {s} {o} {out} {t} {next} {at} {p} g end = g.written ∙ ap₂ (λ d n. bytes (renumber_items d) ++ drop n o) (sym all) last
  where
    last : at ≡ length s
    last = omega (arith, g.within)

    nothing : (p : List Bool) → items_in body p [] ≡ []
    nothing [] = refl
    nothing (false ∷ p) = refl
    nothing (true ∷ p) = refl

    all : items body s ≡ g.done
    all = g.found ∙ ap (λ l. g.done ++ items_in body p l) (drop_of_length-le s end) ∙ ap (g.done ++◌) (nothing p) ∙ append-nil g.done
