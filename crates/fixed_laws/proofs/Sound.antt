-- What is measured is laid by the rule: where a type has an extent, the rule gives it that size and alignment, its fields those offsets, and
-- none of them is over the largest.
--     type_laid       a type
--     fields_laid     the fields of a struct
--     extent_laid     the first definition of a name
use Prim.Native.Nat.{ℕ, zero, suc, ◌+◌, ◌*◌, ◌-◌, ◌≤◌, min, max}
use native.Mathlib.Omega.{arith}
use mathlib.Core.Bool.{Bool, true, false, cond}
use mathlib.Core.List.Memᴰ
use mathlib.Core.List.{List, [], ◌∷◌, Memᴰ}
use mathlib.Core.Logic.{⊎_elim}
use mathlib.Core.Option.{Option, none, some}
use mathlib.Core.Path.{◌≡◌, refl, sym, ap, subst, ◌∙◌}
use lib.Dec.{T, eqb, leb, leb→le}
use lib.ListN.{get_or}
use borrow.Author.Tests.{eqb-true, eqb-false, leb-true}
use Rattle.meaning.specs.Lists.{all}
use Rattle.meaning.proofs.KindTable.{and_0, and_1}
use Rattle.meaning.specs.Lookup.{member_type, count, find_type}
use Rattle.meaning.specs.Sizes.{get_primitive_size}
use Rattle.meaning.specs.Tree.{Attributes, Ty, primitive, type_ref, struct, union, enum, array, size_union, Member, member, Members, more, Bundle}
use Rattle.fixed_meaning.specs.Extent.{Extent, sized, unsized, largest, bounded, round_up, offset_of, with_field, with_member, varying, is_alignment, alignment_of, rounded, closed, repeated, array_of}
use Rattle.fixed_meaning.specs.Fixed.{count_of, measure, measure_member, measure_all, measured, extent_within, extent_of, field_offset, field_offsets}
use Rattle.fixed_laws.specs.Rule.{IsNext, AlignmentIs, FieldAt, without_gap, at_multiple, Laid, a_primitive, a_struct, a_union, an_array, a_reference, FieldsLaid, no_field, field, MembersLaid, no_member, one_more}
use Rattle.fixed_laws.proofs.Tests.{alignment_is, is_count_lem}
use Rattle.fixed_laws.proofs.Rounding.{round_next}

-- an extent is no refusal
pub no_size : {k n a : ℕ} → unsized k ≡ sized n a → ⊥
no_size e = let z : ◌≡◌ {A = ℕ} 0 1 = cc in omega arith

pub same_size : {m n a c : ℕ} → sized m a ≡ sized n c → (m ≡ n) × (a ≡ c)
same_size e = (cc, cc)

-- where a field lies
pub field_at : (packed end a : ℕ) → FieldAt packed end a (offset_of packed end a)
unfolding offset_of
field_at packed end a = go (eqb packed 1) refl
  where
    go : (t : Bool) → eqb packed 1 ≡ t → FieldAt packed end a (cond t end (round_up end a))
    go true e = without_gap (eqb-true packed 1 e)
    go false e = at_multiple (eqb-false packed 1 e) (round_next end a)

-- A test on a size or offset.

pub within : (n : ℕ) (e : Extent) {m a : ℕ} → bounded n e ≡ sized m a → (n ≤ largest) × (e ≡ sized m a)
unfolding bounded
within n e {m} {a} h = go (leb n largest) refl h
  where
    go : (t : Bool) → leb n largest ≡ t → cond t e (unsized 12) ≡ sized m a → (n ≤ largest) × (e ≡ sized m a)
    go true p q = (leb-true n largest p, q)
    go false p q = absurd (no_size q)

-- a type that has members, by their extent
pub closed_sized : (a : Attributes) (e : Extent) {n al : ℕ} → closed a e ≡ sized n al
    → (end : ℕ) × ((most : ℕ) × ((e ≡ sized end most) × ((round_up end (alignment_of a most) ≡ n) × ((alignment_of a most ≡ al) × (n ≤ largest)))))
unfolding closed rounded
closed_sized a e {n} {al} h = go (is_alignment a.aligned) e h
  where
    go : (t : Bool) (e : Extent) → cond t (rounded a e) (unsized 10) ≡ sized n al
        → (end : ℕ) × ((most : ℕ) × ((e ≡ sized end most) × ((round_up end (alignment_of a most) ≡ n) × ((alignment_of a most ≡ al) × (n ≤ largest)))))
    go true (sized end most) q =
        let w = within (round_up end (alignment_of a most)) (sized (round_up end (alignment_of a most)) (alignment_of a most)) q in
        let s = same_size w.1 in
        (end, (most, (refl, (s.0, (s.1, subst (λ x. x ≤ largest) s.0 w.0)))))
    go true (unsized k) q = absurd (no_size q)
    go false e q = absurd (no_size q)

pub varying_no : (a : Attributes) (e : Extent) {n al : ℕ} → closed a (varying e) ≡ sized n al → ⊥
unfolding varying
varying_no a (sized m c) h = no_size (closed_sized a (unsized 11) h).1.1.0
varying_no a (unsized k) h = no_size (closed_sized a (unsized (min 11 k)) h).1.1.0

-- an array, by the extent of its elements
pub array_sized : (jagged : ℕ) (c : Option ℕ) (e : Extent) {n al : ℕ} → array_of jagged c e ≡ sized n al
    → (jagged ≡ 1 → ⊥) × ((count : ℕ) × ((c ≡ some count) × ((size : ℕ) × ((e ≡ sized size al) × ((count * size ≡ n) × (n ≤ largest))))))
unfolding array_of repeated varying
array_sized jagged none (sized m a) h = absurd (no_size h)
array_sized jagged none (unsized k) h = absurd (no_size h)
array_sized jagged (some count) e {n} {al} h = go (eqb jagged 1) refl e h
  where
    go : (t : Bool) → eqb jagged 1 ≡ t → (e : Extent) → cond t (varying e) (repeated count e) ≡ sized n al
        → (jagged ≡ 1 → ⊥) × ((i : ℕ) × ((some count ≡ some i) × ((size : ℕ) × ((e ≡ sized size al) × ((i * size ≡ n) × (n ≤ largest))))))
    go true p (sized m a) q = absurd (no_size q)
    go true p (unsized k) q = absurd (no_size q)
    go false p (unsized k) q = absurd (no_size q)
    go false p (sized m a) q =
        let w = within (count * m) (sized (count * m) a) q in
        let s = same_size w.1 in
        (eqb-false jagged 1 p, (count, (refl, (m, (ap (sized m) s.1, (s.0, subst (λ x. x ≤ largest) s.0 w.0))))))

-- Members that are joined to a refusal have no extent.
module _ (known : ℕ → Extent) (join : Extent → Extent → Extent) (stays : (k : ℕ) (e : Extent) → (j : ℕ) × (join (unsized k) e ≡ unsized j)) where
  pub all_stays : (ms : Members) (k : ℕ) {n a : ℕ} → measure_all join ms (unsized k) known ≡ sized n a → ⊥
  all_stays Members.none k e = no_size e
  all_stays (more m ms) k e = let s = stays k (measure_member m known) in all_stays ms s.0 (rw s.1 at e)

pub field_stays : (packed k : ℕ) (e : Extent) → (j : ℕ) × (with_field packed (unsized k) e ≡ unsized j)
unfolding with_field
field_stays packed k (sized n a) = (k, refl)
field_stays packed k (unsized j) = (min k j, refl)

pub member_stays : (k : ℕ) (e : Extent) → (j : ℕ) × (with_member (unsized k) e ≡ unsized j)
unfolding with_member
member_stays k (sized n a) = (k, refl)
member_stays k (unsized j) = (min k j, refl)

at_most : (m : ℕ) (xs : List ℕ) → T (all (λ x. leb x m) xs) → (i : ℕ) → get_or xs i 0 ≤ m
at_most m [] t i = omega arith
at_most m (x ∷ xs) t zero = leb→le x m (and_0 (leb x m) (all (λ x. leb x m) xs) t)
at_most m (x ∷ xs) t (suc i) = at_most m xs (and_1 (leb x m) (all (λ x. leb x m) xs) t) i

primitive_small : (k : ℕ) → get_primitive_size k ≤ largest
primitive_small k = let z : get_primitive_size k ≤ 8 = at_most 8 (1 ∷ 2 ∷ 4 ∷ 8 ∷ 1 ∷ 2 ∷ 4 ∷ 8 ∷ 1 ∷ 2 ∷ 4 ∷ 8 ∷ []) tt (k - 0x30) in omega arith

-- the fields laid from `from` on, where `so` is the largest alignment of those before
pub record Fields (b : Bundle) (packed : ℕ) (ms : Members) (from so end most : ℕ) (os : List ℕ) : Type 0 where
  pub top : ℕ
  pub laid : FieldsLaid b packed ms from os end top
  pub some : 1 ≤ top
  pub most_is : most ≡ max so top
  pub small : (o : ℕ) → Memᴰ o os → o ≤ largest

-- and the members
pub record Overlaid (b : Bundle) (ms : Members) (before so size most : ℕ) : Type 0 where
  pub greatest : ℕ
  pub top : ℕ
  pub laid : MembersLaid b ms greatest top
  pub some : 1 ≤ top
  pub size_is : size ≡ max before greatest
  pub most_is : most ≡ max so top

-- an alignment that was worked out
pub aligned_as : {a : Attributes} {most x : ℕ} → alignment_of a most ≡ x → AlignmentIs a most x
aligned_as {a} {most} p = subst (AlignmentIs a most) p (alignment_is a most)

-- a size that was rounded up
rounded_next : {n a size c : ℕ} → round_up n a ≡ size → a ≡ c → IsNext n c size
rounded_next {n} {a} {size} {c} p q = subst (λ x. IsNext n x size) q (subst (IsNext n a) p (round_next n a))

module _ (b : Bundle) (known : ℕ → Extent) (sound : (n size a : ℕ) → known n ≡ sized size a → Laid b (type_ref n) size a × (size ≤ largest)) where
  mutual
    unfolding bounded with_field with_member field_offsets

    pub type_laid : (t : Ty) (n a : ℕ) → measure t known ≡ sized n a → Laid b t n a × (n ≤ largest)
    type_laid (primitive k) n a e = let s = same_size e in (a_primitive (sym s.0) (sym s.1 ∙ s.0), subst (λ x. x ≤ largest) s.0 (primitive_small k))
    type_laid (type_ref m) n a e = sound m n a e
    type_laid (struct at ms) n a e =
        let c = closed_sized at _ e in
        let f = fields_laid at.packed ms 0 1 c.0 c.1.0 (omega arith) c.1.1.0 in
        let q : f.top ≡ c.1.0 = omega (arith, f.some, f.most_is) in
        (a_struct f.laid (aligned_as (ap (alignment_of at) q ∙ c.1.1.1.1.0)) (rounded_next c.1.1.1.0 c.1.1.1.1.0), c.1.1.1.1.1)
    type_laid (union at ms) n a e =
        let c = closed_sized at _ e in
        let f = members_laid ms 0 1 c.0 c.1.0 (omega arith) c.1.1.0 in
        let q : f.top ≡ c.1.0 = omega (arith, f.some, f.most_is) in
        let r : f.greatest ≡ c.0 = omega (arith, f.size_is) in
        (a_union f.laid (aligned_as (ap (alignment_of at) q ∙ c.1.1.1.1.0)) (subst (λ x. IsNext x a n) (sym r) (rounded_next c.1.1.1.0 c.1.1.1.1.0)), c.1.1.1.1.1)
    type_laid (enum at tag ms) n a e = absurd (varying_no at _ e)
    type_laid (array at jagged size t) n a e =
        let c = array_sized jagged (count_of size) _ e in
        (an_array c.0 (is_count_lem size c.1.0 c.1.1.0) (type_laid t c.1.1.1.0 a c.1.1.1.1.0).0 (sym c.1.1.1.1.1.0), c.1.1.1.1.1.1)
    type_laid (size_union at ms) n a e = absurd (varying_no at _ e)

    pub member_laid : (m : Member) (n a : ℕ) → measure_member m known ≡ sized n a → Laid b (member_type m) n a
    member_laid (member x v t) n a e = (type_laid t n a e).0

    pub fields_laid : (packed : ℕ) (ms : Members) (from so end most : ℕ) → 1 ≤ so → measure_all (with_field packed) ms (sized from so) known ≡ sized end most
        → Fields b packed ms from so end most (field_offsets packed ms (sized from so) known)
    fields_laid packed Members.none from so end most h e =
        let s = same_size e in
        subst (λ x. Fields b packed Members.none from so x most []) s.0 (record { top = 1; laid = no_field refl refl; some = omega arith; most_is = omega (arith, s.1); small = λ o m. absurd (Memᴰ.not-nil m) })
    fields_laid packed (more m ms) from so end most h e = go (measure_member m known) refl e (λ n a q. member_laid m n a q) (λ x y l q. fields_laid packed ms x y end most l q)
      where
        go : (x : Extent) → measure_member m known ≡ x → measure_all (with_field packed) ms (with_field packed (sized from so) x) known ≡ sized end most
            → ((n a : ℕ) → measure_member m known ≡ sized n a → Laid b (member_type m) n a) → ((x y : ℕ) → 1 ≤ y → measure_all (with_field packed) ms (sized x y) known ≡ sized end most → Fields b packed ms x y end most (field_offsets packed ms (sized x y) known))
            → Fields b packed (more m ms) from so end most (field_offset packed (sized from so) x ∷ field_offsets packed ms (with_field packed (sized from so) x) known)
        go (unsized k) p e laid ih = absurd (all_stays known (with_field packed) (field_stays packed) ms k e)
        go (sized size a) p e laid ih = by (leb (offset_of packed from a) largest) refl e
          where
            by : (t : Bool) → leb (offset_of packed from a) largest ≡ t
                → measure_all (with_field packed) ms (cond t (sized (offset_of packed from a + size) (max so a)) (unsized 12)) known ≡ sized end most
                → Fields b packed (more m ms) from so end most (offset_of packed from a ∷ field_offsets packed ms (cond t (sized (offset_of packed from a + size) (max so a)) (unsized 12)) known)
            by true q e =
                let f = ih (offset_of packed from a + size) (max so a) (omega arith) e in
                record {
                  top = max a f.top;
                  laid = field (laid size a p) (field_at packed from a) f.laid refl;
                  some = omega (arith, f.some);
                  most_is = omega (arith, f.most_is);
                  small = λ o w. ⊎_elim (λ z. subst (λ x. x ≤ largest) (sym z) (leb-true (offset_of packed from a) largest q)) (f.small o) (Memᴰ.cases_cons w);
                }
            by false q e = absurd (all_stays known (with_field packed) (field_stays packed) ms 12 e)

    pub members_laid : (ms : Members) (before so size most : ℕ) → 1 ≤ so → measure_all with_member ms (sized before so) known ≡ sized size most → Overlaid b ms before so size most
    members_laid Members.none before so size most h e =
        let s = same_size e in
        record { greatest = 0; top = 1; laid = no_member refl refl; some = omega arith; size_is = omega (arith, s.0); most_is = omega (arith, s.1) }
    members_laid (more m ms) before so size most h e = go (measure_member m known) refl e (λ n a q. member_laid m n a q) (λ x y l q. members_laid ms x y size most l q)
      where
        go : (x : Extent) → measure_member m known ≡ x → measure_all with_member ms (with_member (sized before so) x) known ≡ sized size most
            → ((n a : ℕ) → measure_member m known ≡ sized n a → Laid b (member_type m) n a) → ((x y : ℕ) → 1 ≤ y → measure_all with_member ms (sized x y) known ≡ sized size most → Overlaid b ms x y size most) → Overlaid b (more m ms) before so size most
        go (unsized k) p e laid ih = absurd (all_stays known with_member member_stays ms k e)
        go (sized n a) p e laid ih =
            let f = ih (max before n) (max so a) (omega arith) e in
            record {
              greatest = max n f.greatest;
              top = max a f.top;
              laid = one_more (laid n a p) f.laid refl refl;
              some = omega (arith, f.some);
              size_is = omega (arith, f.size_is);
              most_is = omega (arith, f.most_is);
            }

-- the first definition of a name
name_laid : (b : Bundle) (k n size a : ℕ) → extent_within b k n ≡ sized size a → Laid b (type_ref n) size a × (size ≤ largest)
unfolding extent_within measured
name_laid b zero n size a e = absurd (no_size e)
name_laid b (suc k) n size a e = go (find_type b n) refl e (name_laid b k)
  where
    go : (o : Option Ty) → find_type b n ≡ o → measured o (extent_within b k) ≡ sized size a
        → ((n size a : ℕ) → extent_within b k n ≡ sized size a → Laid b (type_ref n) size a × (size ≤ largest)) → Laid b (type_ref n) size a × (size ≤ largest)
    go none p e ih = absurd (no_size e)
    go (some t) p e ih = let l = type_laid b (extent_within b k) ih t size a e in (a_reference p l.0, l.1)

pub extent_laid : (b : Bundle) (n size a : ℕ) → extent_of b n ≡ sized size a → Laid b (type_ref n) size a × (size ≤ largest)
unfolding extent_of
extent_laid b = name_laid b (count b)
