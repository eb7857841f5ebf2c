-- A definition is measured after those to which its records lead: what is known before, between and after these records.
use Rattle.std.specs.Prelude.{None, Option, Result, Some}
use Rattle.std.specs.Option.{is_some}
use Prim.Native.Nat.{ℕ, suc, ◌+◌, ◌-◌, ◌<◌}
use native.Mathlib.Omega.{arith}
use mathlib.Core.Bool.{Bool, true, false, false≢true}
use mathlib.Core.List.Memᴰ
use mathlib.Core.List.{List, [], ◌∷◌, Memᴰ}
use mathlib.Core.Logic.{◌⊎◌, inl, inr, ⊎_elim}
use mathlib.Core.Path.{◌≡◌, refl, sym, ap, subst, ◌∙◌}
use Rattle.std.proofs.lemmas.List.{get_or_default, get_or-replicate}
use lib.Dec.{eqb, ltb}
use lib.ListN.{get_or, set, replicate, length-set}
use lib.Seq.{get_or-set_same, get_or-set_other}
use borrow.Author.Tests.{eqb-true, eqb-false, ltb-true, ltb-false}
use Rattle.meaning.specs.Circle.{type_names, names_in, resolve, leads_to, settled, circles}
use Rattle.meaning.specs.Tree.{Ty}
use Rattle.meaning.specs.Lookup.{count, definition_of, find_type}
use Rattle.meaning.specs.Lookup as lookup
use Rattle.meaning.proofs.Circle.{resolve_below, resolve_mem, settled_zero, settled_step, settled_of}
use Rattle.bundle.specs.Definitions.{type_at, bundle_of, Table}
use Rattle.bundle.proofs.LookupLaws.{placed_type, found_none}
use Rattle.scan.specs.Scan.{Records, lead_to}
use Rattle.scan.specs.Parts.{type_parts}
use Rattle.scan.proofs.Walks.{definition_flat, definition_lead}
use Rattle.lookup.specs.Led.{LedFirst, NextLed}
use Rattle.fixed_meaning.specs.Fixed.{measure, measured, extent_of, definition_extent}
use Rattle.fixed_meaning.proofs.Within.{Agree, measure_local, extent_equation}
use Rattle.extents.specs.declared.extent.Extent.{Extent}
use Rattle.extents.specs.declared.Unsized.{Unsized}
use Rattle.extents.specs.Meant.{extent_meant}
use Rattle.fixed.specs.Kept.{Extents, known}
use Rattle.fixed.specs.Walk.{part_of}
use Rattle.fixed_definitions.specs.Keeping.{Known, KeptExtents, Ready, Kept}

-- What is kept.

-- the same is kept of definition i
known_same : {s : List ℕ} {before after : Extents} {i : ℕ} → get_or after i None ≡ get_or before i None → Known s before i → Known s after i
known_same e k = record { there = rw e k.there; is = rw e k.is }

module _ {s : List ℕ} {kept : Extents} (k : KeptExtents s kept) where
  -- what is kept is the extent
  pub keeps_known : (i : ℕ) → i < 256 → is_some (get_or kept i None) ≡ true → Known s kept i
  keeps_known i h l = ⊎_elim (λ e. absurd (false≢true (ap is_some (sym e) ∙ l))) (λ x. x) (k.each i h)

-- nothing is known yet
pub keeps_start : (s : List ℕ) → KeptExtents s (replicate 256 None)
keeps_start s = record { size = refl; each = λ i h. inl (get_or-replicate 256 i None None h); onward = λ i j h k m. absurd (false≢true (ap is_some (sym (get_or-replicate 256 i None None h)) ∙ k.there)) }

-- a type whose names lead to definitions with kept extents
module _ {s : List ℕ} {kept : Extents} {n : ℕ} {places : List ℕ} (tb : Table s n places) (c : circles (bundle_of s) ≡ false) where
  name_same : (x : ℕ) → (definition_of (bundle_of s) x < count (bundle_of s) → Known s kept (definition_of (bundle_of s) x)) → known s kept x ≡ extent_of (bundle_of s) x
  unfolding known find_type definition_extent measured
  name_same x h = go (ltb (definition_of (bundle_of s) x) (count (bundle_of s))) refl ∙ sym (extent_equation (bundle_of s) c x)
    where
      go : (t : Bool) → ltb (definition_of (bundle_of s) x) (count (bundle_of s)) ≡ t
          → known s kept x ≡ measured (find_type (bundle_of s) x) (extent_of (bundle_of s))
      go true e = rw e (h (ltb-true (definition_of (bundle_of s) x) (count (bundle_of s)) e)).is
      go false e = rw (e, found_none tb (definition_of (bundle_of s) x) x refl (omega (arith, ltb-false (definition_of (bundle_of s) x) (count (bundle_of s)) e, tb.count))) refl

  pub agree : (t : Ty) → ((j : ℕ) → Memᴰ j (resolve (bundle_of s) (type_names t)) → Known s kept j) → Agree (extent_of (bundle_of s)) (known s kept) (type_names t)
  agree t h x m = name_same x (λ l. h _ (resolve_mem (bundle_of s) m l))

  type_same : (t : Ty) → ((j : ℕ) → Memᴰ j (resolve (bundle_of s) (type_names t)) → Known s kept j) → part_of s kept t ≡ measure t (extent_of (bundle_of s))
  unfolding part_of
  type_same t h = measure_local (extent_of (bundle_of s)) (known s kept) t (agree t h)

-- The walk over the records of definition i.

-- the records from `at` on are still to be gone through, of those that end at `end`; what those before lead to is kept
pub record Measuring (s : List ℕ) (i left end : ℕ) (before kept : Extents) (at : ℕ) : Type 0 where
  pub records : Records s at end
  pub ready : Ready s (left - 1) (lead_to s records.parts) kept
  pub others : (j : ℕ) → Memᴰ j (leads_to (bundle_of s) i) → Memᴰ j (lead_to s records.parts) ⊎ Known s kept j
  pub still : (j : ℕ) → j < 256 → Known s before j → Known s kept j

module _ {s : List ℕ} {n : ℕ} {places : List ℕ} (tb : Table s n places) {i : ℕ} (h : i < n) {left : ℕ} {kept : Extents} (g : Ready s left (i ∷ []) kept) where
  pub place_below : i < 256
  place_below = omega (arith, tb.count, tb.placed.room)

  pub some_left : left ≡ 0 → ⊥
  some_left e = settled_zero (bundle_of s) i (subst (λ k. settled (bundle_of s) k i ≡ true) e (g.within i (Memᴰ.head refl)))

  pub measuring_start : Measuring s i left (get_or places (i + 1) 0 - 3) kept kept (get_or places i 0)
  measuring_start =
      let e : left ≡ suc (left - 1) = omega (arith, some_left) in
      record {
        records = record { parts = type_parts (type_at 24 s (get_or places i 0)); run = (definition_flat tb h).run; bound = (definition_flat tb h).bound };
        ready = record {
          ends = g.ends;
          within = λ j m. settled_step (bundle_of s) (left - 1) i j (subst (λ k. settled (bundle_of s) k i ≡ true) e (g.within i (Memᴰ.head refl))) (rw (definition_lead tb h) at m);
          keeps = g.keeps;
        };
        others = λ j m. inl (rw (definition_lead tb h) m);
        still = λ j b k. k;
      }

  -- all of them were gone through, and the extent e by what is kept now is that of the definition
  module _ {end : ℕ} {after : Extents} {at : ℕ} (w : Measuring s i left end kept after at) (past : NextLed s at end None) where
    pub measuring_keeps : KeptExtents s after
    measuring_keeps = w.ready.keeps

    all_known : (j : ℕ) → Memᴰ j (leads_to (bundle_of s) i) → Known s after j
    all_known j m = ⊎_elim (λ z. absurd (Memᴰ.not-nil (rw (past _ w.records.run) at z))) (λ k. k) (w.others j m)

    pub measured_is : part_of s after (type_at 24 s (get_or places i 0)) ≡ definition_extent (bundle_of s) i
    unfolding definition_extent measured leads_to
    measured_is =
        type_same tb g.ends (type_at 24 s (get_or places i 0)) (λ j m. all_known j (rw (placed_type tb i h) m))
        ∙ sym (ap (λ o. measured o (extent_of (bundle_of s))) (placed_type tb i h))

    -- it is kept
    module _ (e : Result Extent Unsized) (p : extent_meant e ≡ definition_extent (bundle_of s) i) where
      abbrev last : Extents
      last = set after i (Some e)

      now : get_or last i None ≡ Some e
      now = get_or-set_same after i (Some e) None (omega (arith, measuring_keeps.size, place_below))

      other : (j : ℕ) → (j ≡ i → ⊥) → get_or last j None ≡ get_or after j None
      other j d = get_or-set_other after i j (Some e) None d

      known_now : Known s last i
      known_now = record { there = rw now refl; is = rw now p }

      known_still : (j : ℕ) → Known s after j → Known s last j
      known_still j k = go (eqb j i) refl
        where
          go : (t : Bool) → eqb j i ≡ t → Known s last j
          go true z = subst (Known s last) (sym (eqb-true j i z)) known_now
          go false z = known_same (other j (eqb-false j i z)) k

      each : (j : ℕ) → j < 256 → (get_or last j None ≡ None) ⊎ Known s last j
      each j b = go (eqb j i) refl
        where
          go : (t : Bool) → eqb j i ≡ t → (get_or last j None ≡ None) ⊎ Known s last j
          go true z = inr (subst (Known s last) (sym (eqb-true j i z)) known_now)
          go false z = ⊎_elim (λ k. inl (other j (eqb-false j i z) ∙ k)) (λ k. inr (known_still j k)) (measuring_keeps.each j b)

      onwards : (j k : ℕ) → j < 256 → Known s last j → Memᴰ k (leads_to (bundle_of s) j) → Known s last k
      onwards j k b x m = go (eqb j i) refl
        where
          go : (t : Bool) → eqb j i ≡ t → Known s last k
          go true z = known_still k (all_known k (subst (λ d. Memᴰ k (leads_to (bundle_of s) d)) (eqb-true j i z) m))
          go false z = known_still k (measuring_keeps.onward j k b (known_same (sym (other j (eqb-false j i z))) x) m)

      pub measuring_end : Kept s (i ∷ []) kept last
      measuring_end = record {
        keeps = record { size = length-set after i (Some e) ∙ measuring_keeps.size; each = each; onward = onwards };
        now = λ j m. subst (Known s last) (sym (Memᴰ.eq_of_singleton m)) known_now;
        still = λ j b k. known_still j (w.still j b k);
      }

-- a record that leads to definition j, and the records behind it
module _ {s : List ℕ} {total : ℕ} {places : List ℕ} (tb : Table s total places) {i left end : ℕ} {before kept : Extents} {at : ℕ} (w : Measuring s i left end before kept at) {j next : ℕ} (l : LedFirst s at end j next) where
  one : lead_to s w.records.parts ≡ j ∷ lead_to s l.others.parts
  one = l.leads w.records.parts w.records.run

  below : (j : ℕ) → Memᴰ j (leads_to (bundle_of s) i) → j < 256
  unfolding leads_to
  below j m = omega (arith, resolve_below (bundle_of s) (names_in (lookup.type_at (bundle_of s) i)) j m, tb.count, tb.placed.room)

  -- definition j is measured next
  pub measuring_inside : Ready s (left - 1) (j ∷ []) kept
  measuring_inside = record {
    ends = w.ready.ends;
    within = λ x m. w.ready.within x (rw (one, Memᴰ.eq_of_singleton m) (Memᴰ.head refl));
    keeps = w.ready.keeps;
  }

  -- definition j is kept
  pub measuring_next : {after : Extents} → Kept s (j ∷ []) kept after → Measuring s i left end before after next
  measuring_next {after} f = record {
    records = l.others;
    ready = record { ends = w.ready.ends; within = λ x m. w.ready.within x (rw one (Memᴰ.tail m)); keeps = f.keeps };
    others = λ x m. ⊎_elim (λ z. found x (rw one at z)) (λ k. inr (f.still x (below x m) k)) (w.others x m);
    still = λ x b k. f.still x b (w.still x b k);
  }
    where
      found : (x : ℕ) → Memᴰ x (j ∷ lead_to s l.others.parts) → Memᴰ x (lead_to s l.others.parts) ⊎ Known s after x
      found x (Memᴰ.head z) = inr (f.now x (Memᴰ.head z))
      found x (Memᴰ.tail m) = inl m

  -- it was kept before
  pub measuring_known : (d : Option (Result Extent Unsized)) → is_some (get_or kept j d) ≡ true → Measuring s i left end before kept next
  measuring_known d z =
      let few : j < 256 = omega (arith, l.below, tb.count, tb.placed.room) in
      measuring_next (record {
        keeps = w.ready.keeps;
        now = λ x m. subst (Known s kept) (sym (Memᴰ.eq_of_singleton m)) (keeps_known w.ready.keeps j few (ap is_some (sym (get_or_default kept j d None (omega (arith, w.ready.keeps.size, few)))) ∙ z));
        still = λ x b k. k;
      })

-- in a bundle in which nothing circles, as many steps as there are definitions are enough
pub ready_definition : {s : List ℕ} {n : ℕ} {places : List ℕ} → Table s n places → circles (bundle_of s) ≡ false → {kept : Extents} → KeptExtents s kept → (i : ℕ) → i < n → Ready s n (i ∷ []) kept
ready_definition {s} tb c k i h = record {
  ends = c;
  within = λ j m.
      rw (Memᴰ.eq_of_singleton m, tb.count) (settled_of (bundle_of s) c i (omega (arith, tb.count)));
  keeps = k;
}
