-- Extents without fuel: where nothing circles, the extent of a name is that of its first definition's type, by the extents of the names in it.
--     measure_local      a type's extent depends on the names that it leads to, and on no other;
--     offsets_local      so do its offsets
--     extent_enough      what is settled has the same extent from then on
--     extent_equation    the law
--     no_definition      a number without definition has no type
use Prim.Native.Nat.{ℕ, zero, suc, ◌≤◌, ◌<◌}
use mathlib.Core.Path.{◌≡◌, refl, sym, ap, ◌∙◌}
use mathlib.Core.List.Memᴰ
use mathlib.Core.List.{List, [], ◌∷◌, map, Memᴰ}
use mathlib.Core.Bool.{true, false}
use mathlib.Core.Option.{Option, none, some}
use native.Mathlib.Omega.{arith}
use native.Mathlib.Nat.{le_of_suc-le-suc}
use lib.ListN.{length, get_elem?, length-map}
use Rattle.meaning.specs.Tree.{Ty, primitive, type_ref, struct, union, enum, array, size_union, Member, member, Members, more, Bundle}
use Rattle.meaning.specs.Lookup.{count, definition_of, type_at, find_type}
use Rattle.meaning.specs.Circle.{type_names, type_names_of_member, type_names_of_members, resolve, names_in, leads_to, settled, circles}
use Rattle.meaning.proofs.Lists.{get_elem?_below}
use Rattle.meaning.proofs.Circle.{resolve_mem, settled_zero, settled_step, settled_of}
use Rattle.fixed_meaning.specs.Extent.{Extent, sized, unsized, with_field, with_member, varying, closed, array_of}
use Rattle.fixed_meaning.specs.Fixed.{count_of, measure, measure_member, measure_all, measured, extent_within, extent_of, field_offsets, offsets_of}

module _ (known known' : ℕ → Extent) where
  -- the two agree on the names
  abbrev pub Agree : List ℕ → Type 0
  Agree ns = (n : ℕ) → Memᴰ n ns → known' n ≡ known n

  mutual
    pub measure_local : (t : Ty) → Agree (type_names t) → measure t known' ≡ measure t known
    measure_local (primitive k) h = refl
    measure_local (type_ref n) h = h n (Memᴰ.head refl)
    measure_local (struct a ms) h = ap (closed a) (all_local (with_field a.packed) ms (sized 0 1) h)
    measure_local (union a ms) h = ap (closed a) (all_local with_member ms (sized 0 1) h)
    measure_local (enum a tag ms) h = ap (λ e. closed a (varying e)) (all_local with_member ms (sized 0 1) h)
    measure_local (array a jagged size element) h = ap (array_of jagged (count_of size)) (measure_local element h)
    measure_local (size_union a ms) h = ap (λ e. closed a (varying e)) (all_local with_member ms (sized 0 1) h)

    member_local : (m : Member) → Agree (type_names_of_member m) → measure_member m known' ≡ measure_member m known
    member_local (member n v t) h = measure_local t h

    all_local : (join : Extent → Extent → Extent) (ms : Members) (so : Extent) → Agree (type_names_of_members ms) → measure_all join ms so known' ≡ measure_all join ms so known
    all_local join Members.none so h = refl
    all_local join (more m ms) so h =
        ap (λ e. measure_all join ms (join so e) known') (member_local m (λ n q. h n (Memᴰ.append_left (type_names_of_members ms) q)))
        ∙ all_local join ms (join so (measure_member m known)) (λ n q. h n (Memᴰ.append_right (type_names_of_member m) q))

  fields_local : (packed : ℕ) (ms : Members) (so : Extent) → Agree (type_names_of_members ms) → field_offsets packed ms so known' ≡ field_offsets packed ms so known
  unfolding field_offsets
  fields_local packed Members.none so h = refl
  fields_local packed (more m ms) so h =
      rw (member_local m (λ n q. h n (Memᴰ.append_left (type_names_of_members ms) q)), fields_local packed ms (with_field packed so (measure_member m known)) (λ n q. h n (Memᴰ.append_right (type_names_of_member m) q)))

  -- and so do the offsets of its fields
  pub offsets_local : (t : Ty) (through : ℕ → List ℕ) → Agree (type_names t) → offsets_of t known' through ≡ offsets_of t known through
  offsets_local (primitive k) through h = refl
  offsets_local (type_ref n) through h = refl
  offsets_local (struct a ms) through h = fields_local a.packed ms (sized 0 1) h
  offsets_local (union a ms) through h = refl
  offsets_local (enum a tag ms) through h = refl
  offsets_local (array a jagged size element) through h = refl
  offsets_local (size_union a ms) through h = refl

-- what is found has a definition, and leads where the names of its type lead
pub found_below : (b : Bundle) (n : ℕ) {t : Ty} → find_type b n ≡ some t → definition_of b n < count b
unfolding find_type
found_below b n e = rw length-map at (get_elem?_below (map (λ d. d.type) b.definitions) (definition_of b n) e)

pub found_leads : (b : Bundle) (n : ℕ) {t : Ty} → find_type b n ≡ some t → leads_to b (definition_of b n) ≡ resolve b (type_names t)
unfolding find_type leads_to
found_leads b n e = ap (λ o. resolve b (names_in o)) e

module _ (b : Bundle) where
  -- a name without a definition is refused at once
  within_none : (k n : ℕ) → find_type b n ≡ none → extent_within b k n ≡ unsized 11
  unfolding extent_within measured
  within_none zero n e = refl
  within_none (suc k) n e = rw e refl

  -- what is settled has the same extent from then on
  pub extent_enough : (k m n : ℕ) → k ≤ m → settled b k (definition_of b n) ≡ true → extent_within b m n ≡ extent_within b k n
  unfolding extent_within measured
  extent_enough zero m n l h = absurd (settled_zero b _ h)
  extent_enough (suc k) zero n l h = absurd (omega arith)
  extent_enough (suc k) (suc m) n l h = go (find_type b n) refl (λ j. extent_enough k m j (le_of_suc-le-suc l))
    where
      go : (o : Option Ty) → find_type b n ≡ o
          → ((j : ℕ) → settled b k (definition_of b j) ≡ true → extent_within b m j ≡ extent_within b k j)
          → measured o (extent_within b m) ≡ measured o (extent_within b k)
      go none e ih = refl
      go (some t) e ih = measure_local (extent_within b k) (extent_within b m) t (λ j mem. same j mem (find_type b j) refl)
        where
          same : (j : ℕ) → Memᴰ j (type_names t) → (o : Option Ty) → find_type b j ≡ o → extent_within b m j ≡ extent_within b k j
          same j mem none q = within_none m j q ∙ sym (within_none k j q)
          same j mem (some u) q =
              ih j (settled_step b k (definition_of b n) (definition_of b j) h (rw (found_leads b n e) (resolve_mem b mem (found_below b j q))))

  -- where nothing circles, the extent of a name is that of its first definition
  pub extent_equation : circles b ≡ false → (n : ℕ) → extent_of b n ≡ measured (find_type b n) (extent_of b)
  unfolding extent_of extent_within measured
  extent_equation c n = go (find_type b n) refl
    where
      go : (o : Option Ty) → find_type b n ≡ o → extent_within b (count b) n ≡ measured o (extent_within b (count b))
      go none e = within_none (count b) n e
      go (some t) e =
          sym (extent_enough (count b) (suc (count b)) n (omega arith) (settled_of b c (definition_of b n) (found_below b n e)))
          ∙ ap (λ o. measured o (extent_within b (count b))) e

-- A number that is not below the count of definitions names none.

past : {A : Type 0} (xs : List A) (i : ℕ) → length xs ≤ i → get_elem? xs i ≡ none
past [] i h = refl
past (x ∷ xs) zero h = absurd (omega arith)
past (x ∷ xs) (suc i) h = past xs i (le_of_suc-le-suc h)

pub no_definition : (b : Bundle) (i : ℕ) → count b ≤ i → type_at b i ≡ none
no_definition b i h = past (map (λ d. d.type) b.definitions) i (rw length-map h)
