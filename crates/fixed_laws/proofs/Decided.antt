-- What is due for fixed sizes is what the rule says, and its refusals are those of the reached parts: the laws of `Rules`.
use Prim.Native.Nat.{ℕ, zero, suc, ◌+◌, ◌≤◌, ◌<◌, min, max}
use native.Mathlib.Omega.{arith}
use mathlib.Core.Bool.{Bool, true, false}
use mathlib.Core.List.{List, Memᴰ}
use mathlib.Core.Option.{Option, none, some}
use mathlib.Core.Path.{◌≡◌, refl, sym, ap, subst, ◌∙◌}
use lib.Dec.{leb}
use Rattle.meaning.specs.Circle.{type_names, settled, circles}
use Rattle.meaning.specs.Lookup.{count, definition_of, type_at, find_type}
use Rattle.meaning.specs.Tree.{Ty, primitive, type_ref, struct, union, enum, array, size_union, Members, more, Bundle}
use Rattle.meaning.proofs.Circle.{resolve_mem, settled_zero, settled_step, settled_of}
use Rattle.fixed_meaning.specs.Extent.{Extent, sized, unsized, largest, bounded, round_up, offset_of, with_field, alignment_of}
use Rattle.fixed_meaning.specs.Fixed.{measure, measure_member, measured, extent_of, offsets_of, offsets_in, offsets_within, definition_extent, definition_offsets}
use Rattle.fixed_meaning.proofs.Within.{found_below, found_leads, extent_equation}
use Rattle.fixed_laws.specs.Rule as rule
use Rattle.fixed_laws.specs.Rule.{Laid, HasField, Offsets, of_struct, of_reference, of_primitive, of_union, of_array}
use Rattle.fixed_laws.specs.Statements.{Reached, BadlyAligned, Varies, jagged_array, TooLarge, a_size, an_offset, SomeReached, Unfixed, no_such_number, ten, eleven, twelve, HasLayout}
use Rattle.fixed_laws.proofs.Own as own
use Rattle.fixed_laws.proofs.Own.{AtMost, OffsetOver, here, later, SizeOver, Own}
use Rattle.fixed_laws.proofs.Tests.{is_count_lem}
use Rattle.fixed_laws.proofs.Rounding.{round_next}
use Rattle.fixed_laws.proofs.Refusals.{fixed_parts}
use Rattle.fixed_laws.proofs.Causes.{refusal_cause}
use Rattle.fixed_laws.proofs.Least.{refusal_least}
use Rattle.fixed_laws.proofs.Sound.{aligned_as, no_size, same_size, closed_sized, varying_no, field_at, type_laid, member_laid, fields_laid, members_laid, extent_laid}
use Rattle.fixed_laws.proofs.Complete.{Agrees, type_agrees, has_field, fields_are}

module _ (b : Bundle) (c : circles b ≡ false) where
  abbrev E : ℕ → Extent
  E = extent_of b

  -- The offsets.

  type_offsets : (t : Ty) (through : ℕ → List ℕ) → ((m : ℕ) → Memᴰ m (type_names t) → (size a : ℕ) → E m ≡ sized size a → Offsets b (type_ref m) (through m))
      → (size a : ℕ) → measure t E ≡ sized size a → Offsets b t (offsets_of t E through)
  type_offsets (primitive k) through h size a e = of_primitive
  type_offsets (type_ref m) through h size a e = h m (Memᴰ.head refl) size a e
  type_offsets (struct at ms) through h size a e =
      let d = closed_sized at _ e in
      of_struct (fields_laid b E (extent_laid b) at.packed ms 0 1 d.0 d.1.0 (omega arith) d.1.1.0).laid
  type_offsets (union at ms) through h size a e = of_union
  type_offsets (enum at tag ms) through h size a e = absurd (varying_no at _ e)
  type_offsets (array at jagged count t) through h size a e = of_array
  type_offsets (size_union at ms) through h size a e = absurd (varying_no at _ e)

  -- a name that has an extent has a definition
  found : (n : ℕ) {size a : ℕ} → E n ≡ sized size a → (t : Ty) × ((find_type b n ≡ some t) × (measure t E ≡ sized size a))
  unfolding measured
  found n {size} {a} e = go (find_type b n) refl (sym (extent_equation b c n) ∙ e)
    where
      go : (o : Option Ty) → find_type b n ≡ o → measured o E ≡ sized size a → (t : Ty) × ((find_type b n ≡ some t) × (measure t E ≡ sized size a))
      go none p q = absurd (no_size q)
      go (some t) p q = (t, (p, q))

  name_offsets : (k n : ℕ) → settled b k (definition_of b n) ≡ true → (size a : ℕ) → E n ≡ sized size a → Offsets b (type_ref n) (offsets_within b k n)
  unfolding offsets_within offsets_in
  name_offsets zero n s size a e = absurd (settled_zero b _ s)
  name_offsets (suc k) n s size a e =
      let f = found n e in
      subst (Offsets b (type_ref n)) (sym (ap (λ o. offsets_in o E (offsets_within b k)) f.1.0))
      (of_reference f.1.0 (type_offsets f.0 (offsets_within b k) (λ m mem x y q. name_offsets k m (inside f m mem q) x y q) size a f.1.1))
    where
      inside : (f : (t : Ty) × ((find_type b n ≡ some t) × (measure t E ≡ sized size a))) (m : ℕ) → Memᴰ m (type_names f.0) → {x y : ℕ} → E m ≡ sized x y → settled b k (definition_of b m) ≡ true
      inside f m mem q = settled_step b k (definition_of b n) (definition_of b m) s (rw (found_leads b n f.1.0) (resolve_mem b mem (found_below b m (found m q).1.0)))

  -- Sizes and offsets over the largest.

  laid : (t : Ty) (n a : ℕ) → measure t E ≡ sized n a → Laid b t n a × (n ≤ largest)
  laid = type_laid b E (extent_laid b)

  large_no : {u : Ty} → TooLarge b u → (n a : ℕ) → measure u E ≡ sized n a → ⊥
  large_no (a_size {u} {size} {a = al} l h) n a e =
      let g : (n ≡ size) × (a ≡ al) = subst (λ x. Agrees x size al) e (type_agrees b c l) in
      omega (arith, g.0, (laid u n a e).1)
  large_no (an_offset {a = at} {ms} {o} f h) n a e =
      let d = closed_sized at _ e in
      omega (arith, (fields_laid b E (extent_laid b) at.packed ms 0 1 d.0 d.1.0 (omega arith) d.1.1.0).small o (has_field b c f 1 d.0 d.1.0 d.1.1.0))

  -- a field behind a refusal is not looked at
  no_over : {packed : ℕ} {ms : Members} {so : Extent} → OffsetOver packed E ms so → (k : ℕ) → so ≡ unsized k → ⊥
  unfolding with_field
  no_over (here p h) k e = no_size (sym e)
  no_over {packed} (later {m} {ms} {so} r) k e = go (measure_member m E) refl (λ j q. no_over r j q)
    where
      go : (x : Extent) → measure_member m E ≡ x → ((j : ℕ) → with_field packed so (measure_member m E) ≡ unsized j → ⊥) → ⊥
      go (sized n a) p ih = ih k (rw (e, p))
      go (unsized j) p ih = ih (min k j) (rw (e, p))

  -- a field whose offset is over the largest
  over_field : {packed : ℕ} {ms : Members} {so : Extent} → OffsetOver packed E ms so → (from most : ℕ) → so ≡ sized from most → (o : ℕ) × (HasField b packed ms from o × (largest < o))
  unfolding with_field bounded
  over_field {packed} (here {m} {ms} {end} {most = top} {n} {a} p h) from most e =
      let s = same_size e in
      (offset_of packed end a, (subst (λ x. HasField b packed (more m ms) x (offset_of packed end a)) s.0 (rule.first (member_laid b E (extent_laid b) m n a p) (field_at packed end a)), h))
  over_field {packed} (later {m} {ms} {so} r) from most e = go (measure_member m E) refl (λ k q. no_over r k q) (λ x y q. over_field r x y q)
    where
      go : (x : Extent) → measure_member m E ≡ x → ((k : ℕ) → with_field packed so (measure_member m E) ≡ unsized k → ⊥)
          → ((x y : ℕ) → with_field packed so (measure_member m E) ≡ sized x y → (o : ℕ) × (HasField b packed ms x o × (largest < o))) → (o : ℕ) × (HasField b packed (more m ms) from o × (largest < o))
      go (unsized k) p bad ih = absurd (bad k (rw (e, p)))
      go (sized n a) p bad ih = by (leb (offset_of packed from a) largest) refl
        where
          by : (t : Bool) → leb (offset_of packed from a) largest ≡ t → (o : ℕ) × (HasField b packed (more m ms) from o × (largest < o))
          by true q =
              let f = ih (offset_of packed from a + n) (max most a) (rw (e, p, q)) in
              (f.0, (rule.later (member_laid b E (extent_laid b) m n a p) (field_at packed from a) f.1.0, f.1.1))
          by false q = absurd (bad 12 (rw (e, p, q)))

  over_large : {u : Ty} → (Varies b u → ⊥) → SizeOver E u → TooLarge b u
  over_large v (own.an_offset {a = at} {ms} o) = let f = over_field o 0 1 refl in an_offset f.1.0 f.1.1
  over_large v (own.a_struct {a = at} {ms} {end} {most} p h) =
      let f = fields_laid b E (extent_laid b) at.packed ms 0 1 end most (omega arith) p in
      let q : f.top ≡ most = omega (arith, f.some, f.most_is) in
      a_size (rule.a_struct f.laid (aligned_as (ap (alignment_of at) q)) (round_next end (alignment_of at most))) h
  over_large v (own.a_union {a = at} {ms} {end} {most} p h) =
      let f = members_laid b E (extent_laid b) ms 0 1 end most (omega arith) p in
      let q : f.top ≡ most = omega (arith, f.some, f.most_is) in
      let r : f.greatest ≡ end = omega (arith, f.size_is) in
      a_size (rule.a_union f.laid (aligned_as (ap (alignment_of at) q)) (subst (λ x. rule.IsNext x (alignment_of at most) (round_up end (alignment_of at most))) (sym r) (round_next end (alignment_of at most)))) h
  over_large v (own.an_array {a = at} {jagged} {size} {t} {c = count} {n} {al} p q h) =
      a_size (rule.an_array (λ j. v (subst (λ x. Varies b (array at x size t)) (sym j) jagged_array)) (is_count_lem size count p) (laid t n al q).0 refl) h

  -- The laws.

  -- a part that is refused itself
  no_part : {t u : Ty} {n a : ℕ} → measure t E ≡ sized n a → Reached b t u → TooLarge b u → ⊥
  no_part {t} {u} e r l = go (measure u E) refl
    where
      go : (x : Extent) → measure u E ≡ x → ⊥
      go (sized m al) p = large_no l m al p
      go (unsized k) p = (fixed_parts b c e r).1.1 (max 10 k) (omega arith) (subst (AtMost (max 10 k)) (sym p) (omega arith))

  pub fixed : (i n a : ℕ) → definition_extent b i ≡ sized n a → HasLayout b (type_at b i) n a (definition_offsets b i) × ((k : ℕ) → Unfixed b (type_at b i) k → ⊥)
  unfolding definition_extent definition_offsets measured offsets_in
  fixed i n a e = go (type_at b i) e
    where
      none_refused : (t : Ty) → measure t E ≡ sized n a → (k : ℕ) → Unfixed b (some t) k → ⊥
      none_refused t e k (ten s) = (fixed_parts b c e s.1.0).0 s.1.1
      none_refused t e k (eleven x s) = (fixed_parts b c e s.1.0).1.0 s.1.1
      none_refused t e k (twelve x y s) = no_part e s.1.0 s.1.1

      go : (o : Option Ty) → measured o E ≡ sized n a → HasLayout b o n a (offsets_in o E (offsets_within b (count b))) × ((k : ℕ) → Unfixed b o k → ⊥)
      go none e = absurd (no_size e)
      go (some t) e = (
        record {
          type = t;
          is = refl;
          laid = (laid t n a e).0;
          at = type_offsets t (offsets_within b (count b)) (λ m mem x y q. name_offsets (count b) m (settled_of b c (definition_of b m) (found_below b m (found m q).1.0)) x y q) n a e;
        },
        none_refused t e,
      )

  -- there is one layout at most
  one_offsets : {t : Ty} {os ps : List ℕ} → Offsets b t os → Offsets b t ps → (n a : ℕ) → measure t E ≡ sized n a → os ≡ ps
  unfolding measured
  one_offsets (of_struct {a = at} {ms} f) (of_struct g) n a e = let d = closed_sized at _ e in fields_are b c f 1 d.0 d.1.0 d.1.1.0 ∙ sym (fields_are b c g 1 d.0 d.1.0 d.1.1.0)
  one_offsets (of_reference {n = m} {t} p o) (of_reference {t = u} {os} q r) n a e =
      let z : u ≡ t = let y : some u ≡ some t = sym q ∙ p in cc in
      one_offsets {ps = os} o (subst (λ x. Offsets b x os) z r) n a (sym (extent_equation b c m ∙ ap (λ o. measured o E) p) ∙ e)
  one_offsets of_primitive of_primitive n a e = refl
  one_offsets of_union of_union n a e = refl
  one_offsets of_array of_array n a e = refl

  pub one_layout : (i n a : ℕ) → definition_extent b i ≡ sized n a → (m d : ℕ) (xs : List ℕ) → HasLayout b (type_at b i) m d xs → (m ≡ n) × ((d ≡ a) × (xs ≡ definition_offsets b i))
  unfolding definition_extent measured
  one_layout i n a e m d xs h =
      let t = h.type in
      let f = (fixed i n a e).0 in
      let same : f.type ≡ t = let y : some f.type ≡ some t = sym f.is ∙ h.is in cc in
      let q : measure t E ≡ sized n a = sym (ap (λ o. measured o E) h.is) ∙ e in
      let g : (n ≡ m) × (a ≡ d) = subst (λ x. Agrees x m d) q (type_agrees b c h.laid) in
      (sym g.0, (sym g.1, one_offsets h.at (subst (λ x. Offsets b x (definition_offsets b i)) same f.at) n a q))

  pub unfixed : (i k : ℕ) → definition_extent b i ≡ unsized k → Unfixed b (type_at b i) k
  unfolding definition_extent measured
  unfixed i k e = go (type_at b i) e
    where
      -- a smaller number has no reason
      aligned : (t : Ty) (k : ℕ) → measure t E ≡ unsized k → 10 < k → SomeReached b t BadlyAligned → ⊥
      aligned t k e l s = omega (arith, refusal_least b c k e s.1.0 (own.ten s.1.1))

      varied : (t : Ty) (k : ℕ) → measure t E ≡ unsized k → 11 < k → SomeReached b t (Varies b) → ⊥
      varied t k e l s = omega (arith, refusal_least b c k e s.1.0 (own.eleven s.1.1))

      by : (t u : Ty) (k : ℕ) → measure t E ≡ unsized k → Reached b t u → Own b E u k → Unfixed b (some t) k
      by t u k e r (own.ten p) = ten (u, (r, p))
      by t u k e r (own.eleven p) = eleven (aligned t k e (omega arith)) (u, (r, p))
      by t u k e r (own.twelve p) =
          twelve (aligned t k e (omega arith)) (varied t k e (omega arith)) (u, (r, over_large (λ v. varied t k e (omega arith) (u, (r, v))) p))

      go : (o : Option Ty) → measured o E ≡ unsized k → Unfixed b o k
      go none e = let z : ◌≡◌ {A = ℕ} 11 k = cc in subst (Unfixed b none) z no_such_number
      go (some t) e = let f = refusal_cause b c t k e in by t f.part k e f.reached f.own

-- there is one number at most
pub one_number : (b : Bundle) (o : Option Ty) (j k : ℕ) → Unfixed b o j → Unfixed b o k → j ≡ k
one_number b none j k no_such_number no_such_number = refl
one_number b (some t) j k (ten s) (ten r) = refl
one_number b (some t) j k (ten s) (eleven x r) = absurd (x s)
one_number b (some t) j k (ten s) (twelve x y r) = absurd (x s)
one_number b (some t) j k (eleven x s) (ten r) = absurd (x r)
one_number b (some t) j k (eleven x s) (eleven y r) = refl
one_number b (some t) j k (eleven x s) (twelve y z r) = absurd (z s)
one_number b (some t) j k (twelve x y s) (ten r) = absurd (x r)
one_number b (some t) j k (twelve x y s) (eleven z r) = absurd (y r)
one_number b (some t) j k (twelve x y s) (twelve z w r) = refl
