-- How far the references of a definition are seen: type 4.
use Rattle.std.specs.Prelude.{None, Ok, Option, Some}
use Rattle.std.specs.Option.{unwrap_or}
use Prim.Native.Nat.{ℕ, ◌+◌, ◌-◌, ◌*◌, ◌≤◌, ◌<◌}
use native.Mathlib.Decide.{dec_lt}
use native.Mathlib.Omega.{arith}
use mathlib.Core.Bool.{Bool, true, false, not, cond, ◌&&◌, ◌||◌}
use mathlib.Core.Logic.{by_cases}
use mathlib.Core.Option.{none, some}
use mathlib.Core.Path.{◌≡◌, refl, sym, ap, ap₂, subst, ◌∙◌}
use mathlib.Core.List.{List, [], ◌∷◌, map, Memᴰ}
use lib.Dec.{eqb}
use lib.ListN.{length, get_or, set, replicate, length-set, get_or-eq_default}
use Rattle.std.proofs.lemmas.List.{get_or-replicate}
use lib.Seq.{get_or-set_same, get_or-set_other}
use borrow.Author.Tests.{eqb-true, eqb-false}
use Rattle.meaning.specs.References.{collect_field_references_in_type_kind}
use Rattle.meaning.specs.ReadType.{read_ty}
use Rattle.meaning.specs.Sizes.{named_size_depends, is_enum_with_constant_size_variants}
use Rattle.meaning.specs.Tree.{Ty, Bundle}
use Rattle.meaning.specs.Violations.{type_needs_field_ref_for_layout}
use Rattle.bundle.specs.View.{step_of}
use Rattle.bundle.specs.Definitions.{type_at, bundle_of, Table}
use Rattle.bundle.proofs.LookupLaws.{place_ends}
use Rattle.sizes.specs.Scan.{path_at, references_from, found_of, Fits}
use Rattle.sizes.proofs.ReferenceLaws.{type_references}
use Rattle.notes.proofs.Stays.{lists_length}
use Rattle.notes.specs.Notes.{is_constant_array, needs_references, needed_of, Lists, list_start, Listed}
use Rattle.notes.proofs.Needs.{needs_iff}
use Rattle.forward.specs.Forward.{is_forward, find, position_shown, FitIn, ForwardIn, is_later, is_later_at, later_from, SeenTo, Seen}
use Rattle.forward.proofs.FieldChecks.{forward_in}
use Rattle.forward.proofs.LaterFields.{entry_later, later_falls}

-- for a reference inside the type, it is forward where it leads to a later field and the type needs its references
forward_is : (b : Bundle) (n k : ℕ) (t : Ty) {path : List ℕ} → Memᴰ path (collect_field_references_in_type_kind t) → (later : Bool)
    → (later && (named_size_depends b t || type_needs_field_ref_for_layout t path) && not (is_enum_with_constant_size_variants t)) ≡ (later && needs_references t)
unfolding needs_references
forward_is b n k t {path} m later = ap (λ x. later && x && not (is_enum_with_constant_size_variants t)) (needs_iff b t m) ∙ go later (not (is_constant_array t)) (not (is_enum_with_constant_size_variants t))
  where
    go : (x y z : Bool) → (x && y && z) ≡ (x && (z && y))
    go true true true = refl
    go true true false = refl
    go true false true = refl
    go true false false = refl
    go false y z = refl

mem_map : (f : ℕ → List ℕ) {p : ℕ} (ps : List ℕ) → Memᴰ p ps → Memᴰ (f p) (map f ps)
mem_map f ps (Memᴰ.head e) = Memᴰ.head (ap f e)
mem_map f ps (Memᴰ.tail m) = Memᴰ.tail (mem_map f _ m)

-- two tests that say the same of each number, and one that none passes
find_same : (f g : ℕ → Bool) (ps : List ℕ) → ((p : ℕ) → Memᴰ p ps → f p ≡ g p) → find f ps ≡ find g ps
find_same f g [] h = refl
find_same f g (p ∷ ps) h = ap₂ (λ b o. cond b (some p) o) (h p (Memᴰ.head refl)) (find_same f g ps (λ q m. h q (Memᴰ.tail m)))

find_none : (ps : List ℕ) → find (λ _. false) ps ≡ none
find_none [] = refl
find_none (p ∷ ps) = find_none ps

-- the first forward reference of a definition is the first to a later field among those that it needs
module _ (s : List ℕ) (at end : ℕ) (e : Ok end ≡ step_of (read_ty 24 s at)) (n k : ℕ) where
  abbrev forward : ℕ → Bool
  forward p = is_forward (bundle_of s) n k (type_at 24 s at) (path_at s p)

  is_forward_lem : (p : ℕ) → Memᴰ p (references_from s at end) → forward p ≡ (is_later s n k p && needs_references (type_at 24 s at))
  is_forward_lem p m = forward_is (bundle_of s) n k (type_at 24 s at) (subst (Memᴰ (path_at s p)) (type_references 24 at end s (omega arith) e) (mem_map (path_at s) (references_from s at end) m)) (is_later s n k p)

  needed_first : find (is_later s n k) (cond (needs_references (type_at 24 s at)) (references_from s at end) []) ≡ find forward (references_from s at end)
  needed_first = go (needs_references (type_at 24 s at)) refl
    where
      yes : (x : Bool) → x ≡ (x && true)
      yes true = refl
      yes false = refl

      no : (x : Bool) → false ≡ (x && false)
      no true = refl
      no false = refl

      go : (b : Bool) → b ≡ needs_references (type_at 24 s at) → find (is_later s n k) (cond b (references_from s at end) []) ≡ find forward (references_from s at end)
      go true h = find_same (is_later s n k) forward (references_from s at end) (λ p m. yes (is_later s n k p) ∙ ap (is_later s n k p &&◌) h ∙ sym (is_forward_lem p m))
      go false h =
          sym (find_none (references_from s at end))
          ∙ find_same (λ _. false) forward (references_from s at end) (λ p m. no (is_later s n k p) ∙ ap (is_later s n k p &&◌) h ∙ sym (is_forward_lem p m))

-- the references are seen to `next`, and the one that is listed there, if there is one, leads to a field behind index j
pub record Stopped (s places : List ℕ) (end n j : ℕ) (ps : List ℕ) (next : ℕ) : Type 0 where
  pub seen : SeenTo s places end n j ps next
  pub here : found_of seen.rest ≡ position_shown (find (is_later s n j) seen.rest)

-- the search through a list stops at the first reference to a later field
module _ (s places : List ℕ) (end n j : ℕ) where
  stop_at : (ps : List ℕ) (a : ℕ) → Lists s places end a ps → Fits s ps → Stopped s places end n j ps (unwrap_or (later_from places n j (length ps) a) end)
  stop_at [] a l f = record { seen = record { rest = []; lists = refl; fits = f; same = λ k h. refl }; here = refl }
  stop_at (p ∷ ps) a l f = go (is_later_at places n j a) refl (stop_at ps (a + 3) l.1 f.1)
    where
      found : {b : Bool} (k : ℕ) → is_later_at places n k a ≡ b → find (is_later s n k) (p ∷ ps) ≡ cond b (some p) (find (is_later s n k) ps)
      found k q = ap (λ x. cond x (some p) (find (is_later s n k) ps)) (sym (entry_later l.0 n k) ∙ q)

      go : (b : Bool) → is_later_at places n j a ≡ b → Stopped s places end n j ps (unwrap_or (later_from places n j (length ps) (a + 3)) end)
          → Stopped s places end n j (p ∷ ps) (unwrap_or (cond b (Some a) (later_from places n j (length ps) (a + 3))) end)
      go true q w = record { seen = record { rest = p ∷ ps; lists = l; fits = f; same = λ k h. refl }; here = ap position_shown (sym (found j q)) }
      go false q w = record {
        seen = record {
          rest = w.seen.rest;
          lists = w.seen.lists;
          fits = w.seen.fits;
          same = λ k h. w.seen.same k h ∙ sym (found k (later_falls places n a h q));
        };
        here = w.here;
      }

module _ {s places : List ℕ} {end n j : ℕ} {ps : List ℕ} where
  -- a search from where the list is seen to
  module _ {from : ℕ} (c : SeenTo s places end n j ps from) where
    pub seen_ends : (k : ℕ) × (from + 3 * k ≡ end)
    seen_ends = (length c.rest, lists_length s places end from c.rest c.lists)

    pub seen_stop : {r : Option ℕ} → ((k : ℕ) → from + 3 * k ≡ end → r ≡ later_from places n j k from) → Stopped s places end n j ps (unwrap_or r end)
    seen_stop h =
        let w = stop_at s places end n j c.rest from c.lists c.fits in
        rw (h (length c.rest) (lists_length s places end from c.rest c.lists)) record {
          seen = record { rest = w.seen.rest; lists = w.seen.lists; fits = w.seen.fits; same = λ k l. w.seen.same k l ∙ c.same k l };
          here = w.here;
        }

  -- what stands where it stopped
  module _ {next : ℕ} (c : Stopped s places end n j ps next) where
    pub stop_found : next < end → Some (get_or places (next + 2) 0) ≡ found_of c.seen.rest
    stop_found l = go c.seen.rest c.seen.lists
      where
        go : (rest : List ℕ) → Lists s places end next rest → Some (get_or places (next + 2) 0) ≡ found_of rest
        go [] e = absurd (omega (arith, e))
        go (p ∷ rest) e = ap Some e.0.position

    pub stop_nothing : end ≤ next → None ≡ found_of c.seen.rest
    stop_nothing l = go c.seen.rest c.seen.lists
      where
        go : (rest : List ℕ) → Lists s places end next rest → None ≡ found_of rest
        go [] e = refl
        go (p ∷ rest) e = absurd (omega (arith, lists_length s places end (next + 3) rest e.1))

found_fits : (s ps : List ℕ) → Fits s ps → FitIn s (found_of ps)
found_fits s [] f = tt
found_fits s (p ∷ ps) f = f.0

-- it is the first forward reference in definition i
pub stop_forward : {s places : List ℕ} {m : ℕ} → Table s m places → (i : ℕ) → i < m → {end n j next : ℕ} (c : Stopped s places end n j (needed_of s places i) next)
    → {r : Option ℕ} → r ≡ found_of c.seen.rest → ForwardIn s n j (type_at 24 s (get_or places i 0)) r
stop_forward {s} {places} t i l {end} {n} {j} c q =
    let e = (place_ends t i l).1 in
    forward_in s n j (get_or places i 0) (get_or places (i + 1) 0 - 3) e record {
      first = q ∙ c.here ∙ ap position_shown (c.seen.same j (omega arith) ∙ needed_first s (get_or places i 0) (get_or places (i + 1) 0 - 3) e n j);
      fit = subst (FitIn s) (sym q) (found_fits s c.seen.rest c.seen.fits);
    }

-- where the search in the list of definition i starts
pub seen_from : {s places : List ℕ} {n j m : ℕ} {seen : List (Option ℕ)} → Listed s places m → Seen s places n j seen → (i : ℕ) → i < m
    → {r : ℕ} → r ≡ unwrap_or (get_or seen i None) (list_start places i) → SeenTo s places (list_start places (i + 1)) n j (needed_of s places i) r
seen_from {s} {places} {n} {j} {m} {seen} l c i h e = rw e (go (get_or seen i None) refl)
  where
    go : (o : Option ℕ) → get_or seen i None ≡ o → SeenTo s places (list_start places (i + 1)) n j (needed_of s places i) (unwrap_or o (list_start places i))
    go (Some at) q = c.each i at q
    go None q = record { rest = needed_of s places i; lists = l.each i h; fits = l.fits i h; same = λ k z. refl }

-- the list of definition i is seen so far now
pub seen_put : {s places : List ℕ} {n j : ℕ} {seen : List (Option ℕ)} → Seen s places n j seen → (i : ℕ) → i < 256 → {m : ℕ}
    → SeenTo s places (list_start places (i + 1)) n j (needed_of s places i) m → Seen s places n j (set seen i (Some m))
seen_put {s} {places} {n} {j} {seen} k i l {m} c = record {
  size = length-set seen i (Some m) ∙ k.size;
  each = λ x. go x (eqb x i) refl;
}
  where
    go : (x : ℕ) (b : Bool) → eqb x i ≡ b → (at : ℕ) → get_or (set seen i (Some m)) x None ≡ Some at → SeenTo s places (list_start places (x + 1)) n j (needed_of s places x) at
    go x true q at h =
        let is : Some m ≡ Some at = sym (get_or-set_same seen i (Some m) None (omega (arith, k.size))) ∙ ap (λ x. get_or (set seen i (Some m)) x None) (sym (eqb-true x i q)) ∙ h in
        let m_at : at ≡ m = cc in
        rw (eqb-true x i q, m_at) c
    go x false q at h = k.each x at (sym (get_or-set_other seen i x (Some m) None (eqb-false x i q)) ∙ h)

-- for the field behind
pub seen_more : {s places : List ℕ} {n j k : ℕ} {seen : List (Option ℕ)} → j ≤ k → Seen s places n j seen → Seen s places n k seen
seen_more l c = record {
  size = c.size;
  each = λ i at h. let w = c.each i at h in record { rest = w.rest; lists = w.lists; fits = w.fits; same = λ m q. w.same m (omega arith) };
}

-- nothing is seen yet
pub seen_start : (s places : List ℕ) (n j : ℕ) → Seen s places n j (replicate 256 None)
seen_start s places n j = record { size = refl; each = λ i at h. let z : None ≡ Some at = sym (clear i) ∙ h in cc }
  where
    clear : (i : ℕ) → get_or {A = Option ℕ} (replicate 256 None) i None ≡ None
    clear i = by_cases (dec_lt i 256) (get_or-replicate 256 i None None) (λ (l : ¬ (i < 256)). get_or-eq_default (replicate 256 None) None {n = i} (omega arith))
