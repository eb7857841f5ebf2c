-- Text that is written piece by piece.
use Prim.Native.Nat.{ℕ, zero, suc, ◌+◌, ◌*◌, ◌≤◌, ◌<◌}
use native.Mathlib.Omega.{arith}
use native.Mathlib.Numerals.{add-one}
use mathlib.Core.List.{List, [], ◌∷◌, ◌++◌, append_assoc, append-nil, map, map-append}
use Rattle.std.proofs.lemmas.List.{map-id, take_more_set}
use mathlib.Core.Path.{◌≡◌, sym, ap, subst, ◌∙◌}
use lib.ListN.{length, take, set, get_or, length-append, length-set}
use lib.Seq.{take-suc, length-take-le}
use Rattle.decimal.specs.Decimal.{lines, Writes}
use Rattle.decimal.proofs.DecimalLaws.{lines_append}

-- one text behind another
pub writes_then : {xs ys a b d : List ℕ} {at m r : ℕ} → Writes xs a at b m → Writes ys b m d r → Writes (xs ++ ys) a at d r
writes_then {xs} {ys} {a} {at = at} w v = record { room = v.room; places = v.places ∙ ap (λ l. l ++ ys) w.places ∙ append_assoc (take at a) xs ys }

-- no text, and a byte behind a text
pub writes_none : (a : List ℕ) {at : ℕ} → at ≤ length a → Writes [] a at a at
writes_none a {at} h = record { room = h; places = sym (append-nil (take at a)) }

pub writes_byte : {xs a b : List ℕ} {at m : ℕ} (v : ℕ) → Writes xs a at b m → m < length b → Writes (xs ++ v ∷ []) a at (set b m v) (m + 1)
writes_byte {xs} {a} {b} {at} {m} v w h = record {
  room = omega (arith, length-set b m v);
  places = take_more_set b m v h ∙ ap (λ l. l ++ v ∷ []) w.places ∙ append_assoc (take at a) xs (v ∷ []);
}

-- where the text ends
pub writes_end : {xs a b : List ℕ} {at r : ℕ} → Writes xs a at b r → at ≤ length a → r ≡ at + length xs
writes_end {xs} {a} {b} {at} {r} w h =
    sym (length-take-le r b w.room) ∙ ap length w.places ∙ length-append (take at a) xs ∙ ap (λ n. n + length xs) (length-take-le at a h)

-- lines of numbers that are their own values, as u16 and u32 are
pub writes_values : (ns : List ℕ) {a b : List ℕ} {at r : ℕ} → Writes (lines (map (λ n. n) ns)) a at b r → Writes (lines ns) a at b r
writes_values ns {a} {b} {at} {r} w = subst (λ l. Writes (lines l) a at b r) (map-id ns) w

-- room for n lines of at most w bytes is room for one behind i of them
pub room_more : (w i n : ℕ) → i < n → w * i + w ≤ w * n
room_more zero i n h = omega arith
room_more (suc w) i n h = omega (arith, room_more w i n h)

-- the numbers of a list, written line by line
module _ {A : Type 0} (f : A → ℕ) (list : List A) where
  -- one number more
  lines_more : (i : ℕ) (d : A) → i < length list → lines (map f (take (i + 1) list)) ≡ lines (map f (take i list)) ++ lines (f (get_or list i d) ∷ [])
  lines_more i d more = rw (add-one, take-suc list i d more, map-append f (take i list) (get_or list i d ∷ [])) (lines_append (map f (take i list)) (f (get_or list i d) ∷ []))

  module _ {start at i n : ℕ} {out₀ out : List ℕ} {x : A} (w : Writes (lines (map f (take i list))) out₀ start out at) (more : i < length list) (is : x ≡ get_or list i x) (e : n ≡ f x) where
    here : lines (map f (take (i + 1) list)) ≡ lines (map f (take i list)) ++ lines (n ∷ [])
    here = lines_more i x more ∙ ap (λ k. lines (map f (take i list)) ++ lines (k ∷ [])) (sym (e ∙ ap f is))

    -- the next, written
    pub lines_next : {out' : List ℕ} {r : ℕ} → Writes (lines (n ∷ [])) out at out' r → Writes (lines (map f (take (i + 1) list))) out₀ start out' r
    lines_next v = rw here (writes_then w v)
