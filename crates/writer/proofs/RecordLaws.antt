-- A record written by its shape: what is due to the call, and what its stores leave.
use Prim.Native.Nat.{ℕ, suc, ◌+◌, ◌-◌, ◌*◌, ◌≤◌, ◌<◌}
use native.Mathlib.Numerals.{add-one}
use native.Mathlib.Omega.{arith}
use mathlib.Core.Path.{◌≡◌, refl, sym, ap, subst, ◌∙◌}
use mathlib.Core.List.{List, [], ◌∷◌, ◌++◌}
use mathlib.Core.Option.{some}
use mathlib.Core.Logic.{◌⊎◌, inl, inr}
use Rattle.std.specs.Prelude.{Result, Ok, Err}
use Rattle.std.proofs.lemmas.List.{nil_from_length}
use lib.ListN.{length, take, drop, set, length-append, length-drop}
use lib.Seq.{sets, length-sets, take_at, drop_at, length-take-le}
use borrow.Author.Tests.{le-leb, lt-leb}
use Rattle.names.specs.Documents.{Item, byte, bytes}
use Rattle.meaning.specs.Encoding.{number_items}
use Rattle.meaning.specs.Calls.{Outcome, result, refusal, accepted, refused_with, answer_of, places_after}
use Rattle.meaning.specs.Writing.{Field, most, fault, body_items, first_fault, unless, record_due}
use Rattle.meaning.proofs.WritingLaws.{fits}
use Rattle.names.proofs.Items.{bytes_append}
use Rattle.refusal.specs.declared.Refusal.{Refusal}
use Rattle.refusal.specs.Numbers.{number}
use Rattle.writer.specs.declared.Part.{Part}
use Rattle.writer.specs.Shapes.{field_of, fields_in, size_of, Narrow, Checked}
use Rattle.writer.proofs.Numbers.{number_length, stored_from}
use Rattle.writer.specs.Places.{CallFrom}

-- stores behind stores
pub sets_both : (xs ys l : List ℕ) (i : ℕ) → sets (sets l i xs) (i + length xs) ys ≡ sets l i (xs ++ ys)
sets_both [] ys l i = let z : i + 0 ≡ i = omega arith in rw z
sets_both (x ∷ xs) ys l i = let q : i + suc (length xs) ≡ suc i + length xs = omega arith in rw q (sets_both xs ys (set l i x) (suc i))

-- the stores of a number, and of what follows it
run : (l m : List ℕ) (i w v : ℕ) (d : List Item) → m ≡ sets l i (bytes (number_items w v)) → sets m (i + w) (bytes d) ≡ sets l i (bytes (number_items w v ++ d))
run l m i w v d e =
    let xs = bytes (number_items w v) in
    ap (λ m. sets m (i + w) (bytes d)) e ∙ ap (λ n. sets (sets l i xs) (i + n) (bytes d)) (sym (number_length w v)) ∙ sets_both xs (bytes d) l i
    ∙ ap (sets l i) (sym (bytes_append (number_items w v) d))

-- the bytes that are still to be written from `next` on make `out` what all of them make the buffer at first
pub record Putting (start : List ℕ) (at : ℕ) (ps : List Part) (vs : List ℕ) (out : List ℕ) (next : ℕ) (rest : List Part) (left : List ℕ) : Type 0 where
  pub narrow : Narrow rest
  pub enough : length rest ≤ length left
  pub room : next + size_of rest ≤ length out
  pub same : sets out next (bytes (body_items (fields_in rest) left)) ≡ sets start at (bytes (body_items (fields_in ps) vs))

pub putting_start : (start : List ℕ) (at : ℕ) (ps : List Part) (vs : List ℕ) → Narrow ps → length ps ≤ length vs → at + size_of ps ≤ length start → Putting start at ps vs start at ps vs
putting_start start at ps vs n e h = record { narrow = n; enough = e; room = h; same = refl }

module _ {start : List ℕ} {at : ℕ} {ps : List Part} {vs out : List ℕ} {next : ℕ} {xs : List Part} {ys : List ℕ} (q : Putting start at ps vs out next xs ys) where
  module _ (p : Part) (v : ℕ) (rest : List Part) (left : List ℕ) (e : xs ≡ p ∷ rest) (f : ys ≡ v ∷ left) where
    ahead : Putting start at ps vs out next (p ∷ rest) (v ∷ left)
    ahead = rw (e, f) at q

    -- the next number has room
    pub putting_room : (p.width ≤ 8) × (next + p.width ≤ length out)
    putting_room = (ahead.narrow.0, omega (arith, ahead.room))

    pub putting_next : (m : List ℕ) → m ≡ sets out next (bytes (number_items p.width v)) → Putting start at ps vs m (next + p.width) rest left
    unfolding body_items
    putting_next m g = record {
      narrow = ahead.narrow.1;
      enough = omega (arith, ahead.enough);
      room = omega (arith, ahead.room, ap length g ∙ length-sets out next (bytes (number_items p.width v)));
      same = run out m next p.width v (body_items (fields_in rest) left) g ∙ ahead.same;
    }

  pub putting_end : xs ≡ [] → out ≡ sets start at (bytes (body_items (fields_in ps) vs))
  unfolding body_items
  putting_end e = rw e at q.same

-- the stores of a record
pub stored : (l m : List ℕ) (at k : ℕ) (ps : List Part) (vs : List ℕ) → m ≡ sets (set l at k) (at + 1) (bytes (body_items (fields_in ps) vs))
    → m ≡ sets l at (bytes (byte k ∷ body_items (fields_in ps) vs))
stored l m at k ps vs e = e ∙ ap (λ i. sets (set l at k) i (bytes (body_items (fields_in ps) vs))) (add-one at)

-- the bytes of a part and of what follows it
part_length : (w v : ℕ) (d : List Item) → length (bytes (number_items w v ++ d)) ≡ w + length (bytes d)
part_length w v d = ap length (bytes_append (number_items w v) d) ∙ length-append (bytes (number_items w v)) (bytes d) ∙ ap (◌+ length (bytes d)) (number_length w v)

body_length : (ps : List Part) (vs : List ℕ) → length (bytes (body_items (fields_in ps) vs)) ≡ size_of ps
unfolding body_items
body_length [] vs = refl
body_length (p ∷ ps) [] = part_length p.width 0 (body_items (fields_in ps) []) ∙ ap (p.width +◌) (body_length ps [])
body_length (p ∷ ps) (v ∷ vs) = part_length p.width v (body_items (fields_in ps) vs) ∙ ap (p.width +◌) (body_length ps vs)

-- where a walk over parts and as many values, or more, ends
pub spent : {A B : Type 0} {xs : List A} {ys : List B} → (xs ≡ []) ⊎ (ys ≡ []) → length xs ≤ length ys → xs ≡ []
spent (inl e) n = e
spent {xs = xs} (inr e) n = nil_from_length xs (omega (arith, ap length e))

-- narrow parts are short
pub narrow_size : (ps : List Part) → Narrow ps → size_of ps ≤ 8 * length ps
narrow_size [] n = omega arith
narrow_size (p ∷ ps) n = omega (arith, n.0, narrow_size ps n.1)

-- What is due by a shape.

large : (f : Field) (fs : List Field) (v : ℕ) (vs : List ℕ) → most f < v → first_fault (f ∷ fs) (v ∷ vs) ≡ some (fault f)
unfolding first_fault
large f fs v vs h = rw (lt-leb v (most f) h)

-- a refused call changes nothing
pub refused_from : (at : ℕ) (o : Outcome) (l : List ℕ) (k : ℕ) → o ≡ refusal k → CallFrom at o l l (refused_with k)
unfolding answer_of places_after
refused_from at o l k e = rw e (record { kept = refl; call = record { answer = refl; places = refl } })

-- an accepted call stores its result
accepted_from : (at : ℕ) (o : Outcome) (l m xs : List ℕ) → o ≡ result xs → at + length xs ≤ length l → m ≡ sets l at xs → CallFrom at o l m (accepted (length xs))
unfolding answer_of places_after
accepted_from at o l m xs e h p =
    let ys = xs ++ drop (length xs) (drop at l) in
    let q : m ≡ take at l ++ ys = p ∙ stored_from at l xs h in
    let n = length-take-le at l (omega arith) in
    let f = le-leb (length xs) (length (drop at l)) (rw (length-drop at l) (omega arith)) in
    rw e (record {
      kept = ap (take at) q ∙ take_at (take at l) ys at n;
      call = record { answer = rw f; places = ap (drop at) q ∙ drop_at (take at l) ys at n ∙ rw f };
    })

-- the values of the first parts fit: what is left to check, and the bytes so far
pub record Sizing (ps : List Part) (vs : List ℕ) (n : ℕ) (rest : List Part) (left : List ℕ) : Type 0 where
  pub fault : first_fault (fields_in ps) vs ≡ first_fault (fields_in rest) left
  pub size : n + size_of rest ≡ 1 + size_of ps
  pub enough : length rest ≤ length left

pub sizing_start : (ps : List Part) (vs : List ℕ) → length ps ≤ length vs → Sizing ps vs 1 ps vs
sizing_start ps vs h = record { fault = refl; size = refl; enough = h }

module _ {ps : List Part} {vs : List ℕ} {n : ℕ} {xs : List Part} {ys : List ℕ} (q : Sizing ps vs n xs ys) where
  module _ (p : Part) (v : ℕ) (rest : List Part) (left : List ℕ) (e : xs ≡ p ∷ rest) (f : ys ≡ v ∷ left) where
    first : Sizing ps vs n (p ∷ rest) (v ∷ left)
    first = rw (e, f) at q

    -- the next value is too large
    pub sizing_large : p.most < v → Checked ps vs (Err p.refusal)
    sizing_large h = first.fault ∙ large (field_of p) (fields_in rest) v left h

    -- it fits
    pub sizing_fits : n + p.width ≤ 1 + size_of ps
    sizing_fits = omega (arith, first.size)

    pub sizing_next : v ≤ p.most → Sizing ps vs (n + p.width) rest left
    sizing_next h = record {
      fault = first.fault ∙ fits (field_of p) (fields_in rest) v left h;
      size = omega (arith, first.size);
      enough = omega (arith, first.enough);
    }

  pub sizing_end : xs ≡ [] → Checked ps vs (Ok n)
  unfolding first_fault
  sizing_end e =
      let r : Sizing ps vs n [] ys = rw e at q in
      (r.fault, omega (arith, r.size))

module _ (at k : ℕ) (ps : List Part) (vs l : List ℕ) where
  abbrev due : Outcome
  due = record_due k vs (some (fields_in ps))

  abbrev found : List ℕ
  found = bytes (byte k ∷ body_items (fields_in ps) vs)

  -- a value is too large
  pub value_large : (x : Result ℕ Refusal) (r : Refusal) → Checked ps vs x → x ≡ Err r → CallFrom at due l l (refused_with (number r))
  value_large x r c e = let d : Checked ps vs (Err r) = rw e at c in refused_from at due l (number r) (ap (λ o. unless o found) d)

  module _ (x : Result ℕ Refusal) (n : ℕ) (c : Checked ps vs x) (e : x ≡ Ok n) where
    checked : Checked ps vs (Ok n)
    checked = rw e at c

    all_fit : due ≡ result found
    all_fit = ap (λ o. unless o found) checked.0

    found_size : length found ≡ n
    found_size = omega (arith, body_length ps vs, checked.1)

    -- the record's bytes, where there is room for so many
    pub record_room : (i : ℕ) → n ≤ i - at → at + 1 + size_of ps ≤ i
    record_room i h = omega (arith, checked.1)

    -- a record that is longer than the room is refused, and any other is stored
    pub no_room : length l - at < n → CallFrom at due l l (refused_with 9)
    unfolding answer_of places_after
    no_room h =
        let e = lt-leb (length found) (length (drop at l)) (rw (length-drop at l, found_size) h) in
        rw all_fit (record { kept = refl; call = record { answer = rw e; places = rw e } })

    pub written_from : (m : List ℕ) → n ≤ length l - at → m ≡ sets l at found → CallFrom at due l m (accepted n)
    written_from m h e =
        subst (λ n. CallFrom at due l m (accepted n)) found_size (accepted_from at due l m found all_fit (omega (arith, found_size, checked.1)) e)
