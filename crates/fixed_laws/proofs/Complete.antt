-- What the rule lays is measured: where the rule gives a type a size and alignment, its extent is these, or it is refused.
--     type_agrees      a type
--     has_field        a field of a struct that has an extent is among its offsets
use Prim.Native.Nat.{ℕ, ◌+◌, ◌*◌, ◌≤◌, max}
use native.Mathlib.Omega.{arith}
use mathlib.Core.Bool.{Bool, true, false, cond}
use mathlib.Core.List.{List, ◌∷◌, Memᴰ}
use mathlib.Core.Option.{some}
use mathlib.Core.Path.{◌≡◌, refl, sym, ap, ap₂, subst, ◌∙◌}
use lib.Dec.{leb}
use borrow.Author.Tests.{ne_eqb}
use Rattle.meaning.specs.Circle.{circles}
use Rattle.meaning.specs.Lookup.{member_type}
use Rattle.meaning.specs.Tree.{Attributes, Ty, Member, member, Members, more, Bundle}
use Rattle.fixed_meaning.specs.Extent.{Extent, sized, unsized, largest, bounded, round_up, offset_of, with_field, with_member, is_alignment, alignment_of, rounded, closed, repeated, array_of}
use Rattle.fixed_meaning.specs.Fixed.{measure, measure_member, measure_all, measured, extent_of, field_offsets}
use Rattle.fixed_meaning.proofs.Within.{extent_equation}
use Rattle.fixed_laws.specs.Rule.{IsNext, FieldAt, without_gap, at_multiple, Laid, a_primitive, a_struct, a_union, an_array, a_reference, FieldsLaid, no_field, field, MembersLaid, no_member, one_more, HasField, first, later}
use Rattle.fixed_laws.proofs.Tests.{one_alignment, counted}
use Rattle.fixed_laws.proofs.Rounding.{round_next, one_next}
use Rattle.fixed_laws.proofs.Sound.{all_stays, field_stays, member_stays, field_at}

-- an extent, where there is one, is this size and alignment
abbrev pub Agrees : Extent → ℕ → ℕ → Type 0
Agrees (sized m c) n a = (m ≡ n) × (c ≡ a)
Agrees (unsized k) n a = Unit {0}

agrees_same : (e : Extent) {n m a c : ℕ} → n ≡ m → a ≡ c → Agrees e n a → Agrees e m c
agrees_same e {n} {m} {a} {c} p q h = subst (λ x. Agrees e x c) p (subst (Agrees e n) q h)

-- there is none
none_agrees : (e : Extent) → ((n a : ℕ) → e ≡ sized n a → ⊥) → (n a : ℕ) → Agrees e n a
none_agrees (sized m c) h n a = absurd (h m c refl)
none_agrees (unsized k) h n a = tt

bounded_agrees : (x : ℕ) (e : Extent) (n a : ℕ) → Agrees e n a → Agrees (bounded x e) n a
unfolding bounded
bounded_agrees x e n a h = go (leb x largest)
  where
    go : (t : Bool) → Agrees (cond t e (unsized 12)) n a
    go true = h
    go false = tt

-- a field lies at one place
one_field : {packed end a o p : ℕ} → FieldAt packed end a o → FieldAt packed end a p → o ≡ p
one_field (without_gap e) (without_gap f) = refl
one_field (without_gap e) (at_multiple n f) = absurd (n e)
one_field (at_multiple n e) (without_gap f) = absurd (n f)
one_field {packed} {end} {a} {o} {p} (at_multiple n e) (at_multiple m f) = one_next end a o p e f

closed_agrees : (at : Attributes) (e : Extent) (end top size alignment : ℕ) → Agrees e end top → alignment ≡ alignment_of at top → IsNext end alignment size → Agrees (closed at e) size alignment
unfolding closed rounded
closed_agrees at e end top size alignment h al next = go (is_alignment at.aligned) e h
  where
    go : (t : Bool) (e : Extent) → Agrees e end top → Agrees (cond t (rounded at e) (unsized 10)) size alignment
    go false e h = tt
    go true (unsized k) h = tt
    go true (sized x y) h =
        bounded_agrees _ _ _ _ (
          ap₂ round_up h.0 (ap (alignment_of at) h.1 ∙ sym al) ∙ one_next end alignment _ size (round_next end alignment) next,
          ap (alignment_of at) h.1 ∙ sym al,
        )

array_agrees : (jagged : ℕ) (count : ℕ) (e : Extent) (size a : ℕ) → (jagged ≡ 1 → ⊥) → Agrees e size a → Agrees (array_of jagged (some count) e) (count * size) a
unfolding array_of repeated
array_agrees jagged count (sized m c) size a d h = rw (ne_eqb jagged 1 d) (bounded_agrees _ _ _ _ (ap (λ x. count * x) h.0, h.1))
array_agrees jagged count (unsized k) size a d h = rw (ne_eqb jagged 1 d) tt

-- the largest alignment is not 0
fields_some : {b : Bundle} {packed from end most : ℕ} {ms : Members} {os : List ℕ} → FieldsLaid b packed ms from os end most → 1 ≤ most
fields_some (no_field e f) = omega arith
fields_some (field l f r e) = omega (arith, fields_some r)

members_some : {b : Bundle} {ms : Members} {size most : ℕ} → MembersLaid b ms size most → 1 ≤ most
members_some (no_member e f) = omega arith
members_some (one_more l r e f) = omega (arith, members_some r)

pub of_member : (m : Member) (known : ℕ → Extent) → measure (member_type m) known ≡ measure_member m known
of_member (member n v t) known = refl

module _ (b : Bundle) (c : circles b ≡ false) where
  abbrev E : ℕ → Extent
  E = extent_of b

  mutual
    unfolding bounded with_field with_member measured

    pub type_agrees : {t : Ty} {n a : ℕ} → Laid b t n a → Agrees (measure t E) n a
    type_agrees (a_primitive e f) = (sym e, sym (f ∙ e))
    type_agrees (a_struct {a} {ms} {os} {end} {most} {size} {alignment} f e next) =
        let z : max 1 most ≡ most = omega (arith, fields_some f) in
        closed_agrees a _ end most size alignment (agrees_same (measure_all (with_field a.packed) ms (sized 0 1) E) refl z (fields_agree f 1 (omega arith))) (one_alignment a most e) next
    type_agrees (a_union {a} {ms} {greatest} {most} {size} {alignment} f e next) =
        let z : max 1 most ≡ most = omega (arith, members_some f) in
        let y : max 0 greatest ≡ greatest = omega arith in
        closed_agrees a _ greatest most size alignment (agrees_same (measure_all with_member ms (sized 0 1) E) y z (members_agree f 0 1 (omega arith))) (one_alignment a most e) next
    type_agrees (an_array {a} {jagged} {e} {t} {count} {each} {size} {alignment} d p l q) = rw (counted p, q) (array_agrees jagged count _ each alignment d (type_agrees l))
    type_agrees (a_reference {n} {t} {size} {alignment} p l) = subst (λ x. Agrees x size alignment) (sym (extent_equation b c n ∙ ap (λ o. measured o E) p)) (type_agrees l)

    fields_agree : {packed from end most : ℕ} {ms : Members} {os : List ℕ} → FieldsLaid b packed ms from os end most → (so : ℕ) → 1 ≤ so → Agrees (measure_all (with_field packed) ms (sized from so) E) end (max so most)
    fields_agree (no_field e f) so h = (sym e, omega (arith, f))
    fields_agree (field {packed} {m} {ms} {from} {o} {size} {a} {os} {end} {others} {most} l f r w) so h =
        go (measure_member m E) (subst (λ x. Agrees x size a) (of_member m E) (type_agrees l)) (λ y g. fields_agree r y g)
      where
        go : (x : Extent) → Agrees x size a → ((y : ℕ) → 1 ≤ y → Agrees (measure_all (with_field packed) ms (sized (o + size) y) E) end (max y others))
            → Agrees (measure_all (with_field packed) ms (with_field packed (sized from so) x) E) end (max so most)
        go (unsized k) g ih = none_agrees (measure_all (with_field packed) ms (unsized k) E) (λ n al e. all_stays E (with_field packed) (field_stays packed) ms k e) end (max so most)
        go (sized x y) g ih = by (leb (offset_of packed from y) largest)
          where
            place : offset_of packed from y + x ≡ o + size
            place = ap₂ ◌+◌ (one_field (field_at packed from y) (subst (λ z. FieldAt packed from z o) (sym g.1) f)) g.0

            by : (t : Bool) → Agrees (measure_all (with_field packed) ms (cond t (sized (offset_of packed from y + x) (max so y)) (unsized 12)) E) end (max so most)
            by true =
                let z : max (max so y) others ≡ max so most = omega (arith, g.1, w) in
                agrees_same (measure_all (with_field packed) ms (sized (offset_of packed from y + x) (max so y)) E) refl z (subst (λ i. Agrees (measure_all (with_field packed) ms (sized i (max so y)) E) end (max (max so y) others)) (sym place) (ih (max so y) (omega arith)))
            by false = none_agrees (measure_all (with_field packed) ms (unsized 12) E) (λ n al e. all_stays E (with_field packed) (field_stays packed) ms 12 e) end (max so most)

    members_agree : {ms : Members} {size most : ℕ} → MembersLaid b ms size most → (before so : ℕ) → 1 ≤ so → Agrees (measure_all with_member ms (sized before so) E) (max before size) (max so most)
    members_agree (no_member e f) before so h = (omega (arith, e), omega (arith, f))
    members_agree (one_more {m} {ms} {size} {a} {before = less} {others} {greatest} {most} l r v w) before so h =
        go (measure_member m E) (subst (λ x. Agrees x size a) (of_member m E) (type_agrees l)) (λ x y g. members_agree r x y g)
      where
        go : (x : Extent) → Agrees x size a → ((x y : ℕ) → 1 ≤ y → Agrees (measure_all with_member ms (sized x y) E) (max x less) (max y others))
            → Agrees (measure_all with_member ms (with_member (sized before so) x) E) (max before greatest) (max so most)
        go (unsized k) g ih = none_agrees (measure_all with_member ms (unsized k) E) (λ n al e. all_stays E with_member member_stays ms k e) (max before greatest) (max so most)
        go (sized x y) g ih =
            let z : max (max so y) others ≡ max so most = omega (arith, g.1, w) in
            let i : max (max before x) less ≡ max before greatest = omega (arith, g.0, v) in
            agrees_same (measure_all with_member ms (sized (max before x) (max so y)) E) i z (ih (max before x) (max so y) (omega arith))

  -- a field that is joined to others, of which all have an extent, and what follows it
  record Joined (packed : ℕ) (m : Member) (ms : Members) (from so size end most : ℕ) (o : ℕ) : Type 0 where
    pub top : ℕ
    pub rest : measure_all (with_field packed) ms (sized (o + size) top) E ≡ sized end most
    pub offsets : field_offsets packed (more m ms) (sized from so) E ≡ o ∷ field_offsets packed ms (sized (o + size) top) E

  joined : {packed from o size a : ℕ} (m : Member) (ms : Members) → Laid b (member_type m) size a → FieldAt packed from a o → (so end most : ℕ)
      → measure_all (with_field packed) (more m ms) (sized from so) E ≡ sized end most → Joined packed m ms from so size end most o
  unfolding bounded with_field field_offsets
  joined {packed} {from} {o} {size} {a} m ms l f so end most e = go (measure_member m E) refl (subst (λ x. Agrees x size a) (of_member m E) (type_agrees l)) e
    where
      go : (x : Extent) → measure_member m E ≡ x → Agrees x size a → measure_all (with_field packed) ms (with_field packed (sized from so) x) E ≡ sized end most → Joined packed m ms from so size end most o
      go (unsized k) p g e = absurd (all_stays E (with_field packed) (field_stays packed) ms k e)
      go (sized x y) p g e = by (leb (offset_of packed from y) largest) refl e
        where
          lies : offset_of packed from y ≡ o
          lies = one_field (field_at packed from y) (subst (λ z. FieldAt packed from z o) (sym g.1) f)

          by : (t : Bool) → leb (offset_of packed from y) largest ≡ t → measure_all (with_field packed) ms (cond t (sized (offset_of packed from y + x) (max so y)) (unsized 12)) E ≡ sized end most
              → Joined packed m ms from so size end most o
          by true q e = record { top = max so y; rest = rw (lies, g.0) at e; offsets = rw (p, q, lies, g.0) }
          by false q e = absurd (all_stays E (with_field packed) (field_stays packed) ms 12 e)

  -- a field of a struct that has an extent
  pub has_field : {packed : ℕ} {ms : Members} {from o : ℕ} → HasField b packed ms from o → (so end most : ℕ) → measure_all (with_field packed) ms (sized from so) E ≡ sized end most → Memᴰ o (field_offsets packed ms (sized from so) E)
  has_field {packed} (first {m} {ms} {from} {o} l f) so end most e = let j = joined m ms l f so end most e in rw j.offsets (Memᴰ.head refl)
  has_field {packed} (later {m} {ms} {from} {o} {size} {a} {p} l f r) so end most e =
      let j = joined m ms l f so end most e in rw j.offsets (Memᴰ.tail (has_field r j.top end most j.rest))

  -- all of its fields
  pub fields_are : {packed from end most : ℕ} {ms : Members} {os : List ℕ} → FieldsLaid b packed ms from os end most → (so n al : ℕ) → measure_all (with_field packed) ms (sized from so) E ≡ sized n al → os ≡ field_offsets packed ms (sized from so) E
  unfolding field_offsets
  fields_are (no_field p q) so n al e = refl
  fields_are (field {packed} {m} {ms} {from} {o} {size} {a} {os} l f r q) so n al e =
      let j = joined m ms l f so n al e in ap (o ∷◌) (fields_are r j.top n al j.rest) ∙ sym j.offsets
