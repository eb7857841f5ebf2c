-- The records of a tree, written one by one into lent places, are the tree's encoding there.
use Prim.Native.Nat.{ℕ, zero, suc, ◌+◌, ◌≤◌}
use native.Mathlib.Nat.{not-suc-le-zero, le_of_suc-le-suc}
use native.Mathlib.Omega.{arith}
use mathlib.Core.Bool.{cond}
use mathlib.Core.Path.{◌≡◌, refl, sym, ap, ap₂, ◌∙◌}
use mathlib.Core.List.{List, [], ◌∷◌, ◌++◌}
use mathlib.Core.Option.{Option, none, some}
use lib.Dec.{T, leb}
use lib.ListN.{length, take, drop, length-append, length-drop}
use lib.Seq.{sets, length-sets, length-take-le, take_at, drop_at}
use borrow.Author.Tests.{le-leb}
use Rattle.meaning.specs.Kinds.{form_of}
use Rattle.meaning.specs.Tree.{Bundle}
use Rattle.meaning.specs.Encoding.{bundle_bytes}
use Rattle.meaning.specs.Within.{BundleOk}
use Rattle.meaning.specs.Reader.{ok}
use Rattle.meaning.specs.ReadBundle.{read_bundle}
use Rattle.meaning.specs.Calls.{Outcome, result, answer_of, places_after}
use Rattle.meaning.specs.Writing.{Field, most, fault, field_items, body_items, first_fault, fields_of, record_due, writing, bundle_records, Writes, nothing, record_first}
use Rattle.meaning.proofs.WritingLaws.{bundle_writes, records_read_back}
use Rattle.writer.specs.Places.{places_from, end_of, given, records_after}
use Rattle.writer.proofs.RecordLaws.{sets_both}
use Rattle.writer.proofs.Numbers.{stored_from}
use Rattle.meaning.proofs.WritingLaws.{fits}
use Rattle.writer.proofs.KindLaws.{short, kind_short, short_fields}

-- Values that are not given count as 0.

no_values : (fs : List Field) → first_fault fs [] ≡ none
unfolding first_fault
no_values [] = refl
no_values (f ∷ fs) = refl

given_fault : (n : ℕ) (fs : List Field) (vs : List ℕ) → length fs ≤ n → first_fault fs (given n vs) ≡ first_fault fs vs
unfolding first_fault
given_fault n [] vs h = refl
given_fault zero (f ∷ fs) vs h = absurd (not-suc-le-zero h)
given_fault (suc n) (f ∷ fs) [] h = fits f fs 0 (given n []) (omega arith) ∙ given_fault n fs [] (le_of_suc-le-suc h) ∙ no_values fs
given_fault (suc n) (f ∷ fs) (v ∷ vs) h = ap (λ r. cond (leb v (most f)) r (some (fault f))) (given_fault n fs vs (le_of_suc-le-suc h))

given_items : (n : ℕ) (fs : List Field) (vs : List ℕ) → length fs ≤ n → body_items fs (given n vs) ≡ body_items fs vs
unfolding body_items
given_items n [] vs h = refl
given_items zero (f ∷ fs) vs h = absurd (not-suc-le-zero h)
given_items (suc n) (f ∷ fs) [] h = ap (field_items f 0 ++◌) (given_items n fs [] (le_of_suc-le-suc h))
given_items (suc n) (f ∷ fs) (v ∷ vs) h = ap (field_items f v ++◌) (given_items n fs vs (le_of_suc-le-suc h))

given_due : (k : ℕ) (vs : List ℕ) → writing k (given 4 vs) ≡ writing k vs
unfolding writing
given_due k vs = by (fields_of k (form_of k)) (kind_short k)
  where
    by : (o : Option (List Field)) → T (short o) → record_due k (given 4 vs) o ≡ record_due k vs o
    by none t = refl
    by (some fs) t = let h = short_fields fs t in rw (given_fault 4 fs vs h.0, given_items 4 fs vs h.0)

-- One call: its answer and the places after it are those that the next one goes on from.

accepted_call : (at : ℕ) (o : Outcome) (l xs : List ℕ) → o ≡ result xs → at + length xs ≤ length l
    → (end_of at (answer_of o (length (drop at l))) ≡ at + length xs) × (places_from at o l ≡ sets l at xs)
unfolding answer_of places_after
accepted_call at o l xs e h =
    let f = le-leb (length xs) (length (drop at l)) (rw (length-drop at l) (omega arith)) in
    (rw (e, f), rw (e, f) (sym (stored_from at l xs h)))

-- All of them: the places hold the records' bytes, one behind the other, and else what they held before.

records_stored : {rs : List (ℕ × List ℕ)} {s : List ℕ} → Writes rs s → (at : ℕ) (l : List ℕ) → at + length s ≤ length l → records_after rs at l ≡ sets l at s
unfolding records_after
records_stored nothing at l h = refl
records_stored (record_first {k} {vs} {xs} {rs} {s} e w) at l h =
    let n = length-append xs s in
    let g = accepted_call at (writing k (given 4 vs)) l xs (given_due k vs ∙ e) (omega (arith, n)) in
    ap₂ (records_after rs) g.0 g.1 ∙ records_stored w (at + length xs) (sets l at xs) (rw (length-sets l at xs) (omega (arith, n))) ∙ sets_both xs s l at

module _ (b : Bundle) (within : BundleOk b) (at : ℕ) (l : List ℕ) (room : at + length (bundle_bytes b) ≤ length l) where
  -- the bytes of a bundle within the limits stand where its records were written, and they read back as the bundle
  pub bundle_stored : take (length (bundle_bytes b)) (drop at (records_after (bundle_records b) at l)) ≡ bundle_bytes b
  bundle_stored =
      let s = bundle_bytes b in
      let rest = drop (length s) (drop at l) in
      ap (λ m. take (length s) (drop at m)) (records_stored (bundle_writes b within) at l room ∙ stored_from at l s room)
      ∙ ap (take (length s)) (drop_at (take at l) (s ++ rest) at (length-take-le at l (omega (arith, room)))) ∙ take_at s rest (length s) refl

  pub bundle_stored_reads : read_bundle (take (length (bundle_bytes b)) (drop at (records_after (bundle_records b) at l))) ≡ ok b (length (bundle_bytes b))
  bundle_stored_reads = rw bundle_stored (records_read_back b within (bundle_bytes b) (bundle_writes b within))
