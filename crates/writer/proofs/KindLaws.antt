-- What is due by the parts of a kind is due by the kind.
use Prim.Native.Nat.{ℕ, ◌≤◌}
use native.Mathlib.Nat.{not-suc-le-zero, le_of_suc-le-suc}
use native.Mathlib.Omega.{arith}
use mathlib.Core.Path.{◌≡◌, refl, sym, ap, ap₂, subst, ◌∙◌}
use mathlib.Core.Logic.{⊎_elim}
use mathlib.Core.Bool.{Bool, true, false, cond, ◌&&◌}
use mathlib.Core.List.{List, [], ◌∷◌}
use mathlib.Core.Option.{Option, none, some}
use lib.Dec.{T, lit<, leb, leb→le, eqb, eqb→eq}
use lib.ListN.{length, length-map}
use borrow.Author.Tests.{leb-true}
use Rattle.names.specs.Documents.{bytes}
use Rattle.meaning.specs.Kinds.{kinds, lookup, form_of}
use Rattle.meaning.specs.Encoding.{number_items}
use Rattle.meaning.specs.Calls.{Answer, result, refused_with}
use Rattle.meaning.specs.Writing.{Field, numeric, named, most, fault, field_items, body_items, first_fault, fields_of, unless, record_due, writing}
use Rattle.meaning.proofs.KindTable.{past, side}
use Rattle.names.proofs.Items.{bytes_append}
use Rattle.meaning.proofs.Written.{name_bytes, name_two, number_written, both_written}
use Rattle.meaning.proofs.ExprSpans.{all_at}
use Rattle.writer.specs.declared.Part.{Part}
use Rattle.refusal.specs.Numbers.{number, refusal_of}
use Rattle.writer.specs.Shapes.{width, part_of, parts_of, ArePartsOf, fields_in, Narrow}
use Rattle.writer.specs.Places.{CallFrom}
use Rattle.writer.proofs.RecordLaws.{refused_from}

-- A part asks what its field does, where the field is sound: it has at most eight bytes, and its refusal is that of a number.

abbrev pub sound_field : Field → Bool
sound_field f = leb (width f) 8 && eqb (number (refusal_of (fault f))) (fault f)

abbrev pub sound_fields : List Field → Bool
sound_fields [] = true
sound_fields (f ∷ fs) = sound_field f && sound_fields fs

both : (a b : Bool) → T (a && b) → T a × T b
both true b t = (tt, t)
both false b t = elim t [ ]

parts_fault : (fs : List Field) (vs : List ℕ) → T (sound_fields fs) → first_fault (fields_in (parts_of fs)) vs ≡ first_fault fs vs
unfolding first_fault
parts_fault [] vs t = refl
parts_fault (f ∷ fs) [] t = refl
parts_fault (f ∷ fs) (v ∷ vs) t =
    let h = both (sound_field f) (sound_fields fs) t in
    ap₂ (λ r k. cond (leb v (most f)) r (some k)) (parts_fault fs vs h.1) (eqb→eq (number (refusal_of (fault f))) (fault f) (both (leb (width f) 8) (eqb (number (refusal_of (fault f))) (fault f)) h.0).1)

pub parts_narrow : (fs : List Field) → T (sound_fields fs) → Narrow (parts_of fs)
parts_narrow [] t = tt
parts_narrow (f ∷ fs) t =
    let h = both (sound_field f) (sound_fields fs) t in
    (leb→le (width f) 8 (both (leb (width f) 8) (eqb (number (refusal_of (fault f))) (fault f)) h.0).0, parts_narrow fs h.1)

-- a name that fits is a number of two bytes
field_bytes : (f : Field) (v : ℕ) → v ≤ most f → bytes (number_items (width f) v) ≡ bytes (field_items f v)
unfolding name_bytes
field_bytes (numeric w m k) v h = refl
field_bytes named v h = number_written 2 v ∙ sym (name_two v (omega arith))

passes : (t : Bool) (r : Option ℕ) (k : ℕ) → cond t r (some k) ≡ none → (t ≡ true) × (r ≡ none)
passes true r k e = (refl, e)
passes false r k e = let z : ◌≡◌ {A = ℕ} 0 1 = cc in absurd (omega arith)

parts_bytes : (fs : List Field) (vs : List ℕ) → length fs ≤ length vs → first_fault fs vs ≡ none → bytes (body_items (fields_in (parts_of fs)) vs) ≡ bytes (body_items fs vs)
unfolding first_fault body_items number_items
parts_bytes [] vs h e = refl
parts_bytes (f ∷ fs) [] h e = absurd (not-suc-le-zero h)
parts_bytes (f ∷ fs) (v ∷ vs) h e =
    let g = passes (leb v (most f)) (first_fault fs vs) (fault f) e in
    both_written (number_items (width f) v) (body_items (fields_in (parts_of fs)) vs) (field_bytes f v (leb-true v (most f) g.0)) (parts_bytes fs vs (le_of_suc-le-suc h) g.1)
    ∙ sym (bytes_append (field_items f v) (body_items fs vs))

parts_due : (k : ℕ) (vs : List ℕ) (fs : List Field) → length fs ≤ length vs → T (sound_fields fs) → record_due k vs (some (fields_in (parts_of fs))) ≡ record_due k vs (some fs)
parts_due k vs fs h t = rw (parts_fault fs vs t) (same (first_fault fs vs) (λ e. ap (k ∷◌) (parts_bytes fs vs h e)))
  where
    same : {xs ys : List ℕ} (o : Option ℕ) → (o ≡ none → xs ≡ ys) → unless o xs ≡ unless o ys
    same none h = ap result (h refl)
    same (some n) h = refl

-- No kind has more than four fields, and all of them are sound.

unfoldable pub short : Option (List Field) → Bool
short none = true
short (some fs) = leb (length fs) 4 && sound_fields fs

pub kind_short : (k : ℕ) → T (short (fields_of k (form_of k)))
unfolding lookup short
kind_short k =
    ⊎_elim (λ h. all_at (λ k. short (fields_of k (form_of k))) 256 k tt h)
    (λ h. subst (λ f. T (short (fields_of k f))) (sym (past kinds 1 17 k tt (lit< tt) (omega arith))) tt) (side k 256)

-- a kind with fields
pub short_fields : (fs : List Field) → T (short (some fs)) → (length fs ≤ 4) × T (sound_fields fs)
unfolding short
short_fields fs t = let h = both (leb (length fs) 4) (sound_fields fs) t in (leb→le (length fs) 4 h.0, h.1)

module _ (k : ℕ) (ps : List Part) where
  few_narrow : (o : Option (List Field)) → T (short o) → ArePartsOf o ps → Narrow ps × (length ps ≤ 4)
  few_narrow none t a = elim a [ ]
  few_narrow (some fs) t a = let h = short_fields fs t in rw a (parts_narrow fs h.1, omega (arith, length-map fs part_of, h.0))

  pub kind_parts : ArePartsOf (fields_of k (form_of k)) ps → Narrow ps × (length ps ≤ 4)
  kind_parts a = few_narrow (fields_of k (form_of k)) (kind_short k) a

  due_same : (vs : List ℕ) → length vs ≡ 4 → (o : Option (List Field)) → T (short o) → ArePartsOf o ps → record_due k vs (some (fields_in ps)) ≡ record_due k vs o
  due_same vs n none t a = elim a [ ]
  due_same vs n (some fs) t a = let h = short_fields fs t in rw a (parts_due k vs fs (omega (arith, h.0)) h.1)

  pub parts_written : (vs : List ℕ) → length vs ≡ 4 → {at : ℕ} {l m : List ℕ} {x : Answer} → ArePartsOf (fields_of k (form_of k)) ps → CallFrom at (record_due k vs (some (fields_in ps))) l m x
      → CallFrom at (writing k vs) l m x
  unfolding writing
  parts_written vs n {at} {l} {m} {x} a w = subst (λ o. CallFrom at o l m x) (due_same vs n (fields_of k (form_of k)) (kind_short k) a) w

pub no_kind : (k at : ℕ) (vs l : List ℕ) → fields_of k (form_of k) ≡ none → CallFrom at (writing k vs) l l (refused_with 3)
unfolding writing
no_kind k at vs l e = refused_from at (writing k vs) l 3 (ap (record_due k vs) e)
