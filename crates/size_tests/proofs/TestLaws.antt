-- The records of a type are tested one by one, with one answer kept for each definition.
use Rattle.std.specs.Prelude.{Err, None, Ok, Option, Some}
use Prim.Native.Nat.{ℕ, suc, ◌+◌, ◌-◌, ◌≤◌, ◌<◌}
use native.Mathlib.Omega.{arith}
use mathlib.Core.Bool.{Bool, true, false, not, ◌||◌}
use mathlib.Core.Logic.{◌⊎◌, inl, inr, ⊎_elim}
use borrow.Author.Tests.{eqb-true, eqb-false}
use mathlib.Core.Path.{◌≡◌, refl, sym, ap, subst, ◌∙◌}
use mathlib.Core.List.Memᴰ
use mathlib.Core.List.{List, [], ◌∷◌, ◌++◌, Memᴰ}
use lib.Dec.{eqb}
use lib.ListN.{length, get_or, set, length-set}
use lib.Seq.{get_or-set_same, get_or-set_other}
use Rattle.meaning.specs.Circle.{resolve, leads_to, settled, circles}
use Rattle.meaning.specs.Lists.{holds}
use Rattle.meaning.specs.Lookup.{count, definition_of, find_type}
use Rattle.meaning.specs.ReadType.{read_ty}
use Rattle.meaning.specs.Sizes.{named_size_depends, inline_size_depends, contains_jagged_array}
use Rattle.meaning.proofs.Circle.{resolve_below, settled_zero, settled_step, settled_of}
use Rattle.meaning.proofs.Sizes.{named_test, jagged_test, answer_equation}
use Rattle.refusal.specs.declared.Refusal.{Refusal}
use Rattle.bundle.specs.View.{step_of, Reads}
use Rattle.bundle.specs.Definitions.{type_at, bundle_of, Table}
use Rattle.bundle.proofs.Trees.{refused_no}
use Rattle.bundle.proofs.LookupLaws.{placed_type, found_none}
use Rattle.scan.specs.Parts.{Part, lead, type_parts, lead_names, is_lead}
use Rattle.scan.specs.Scan.{record_name, part_at, Run, lead_to, from_stop, StopsFirst, NextStop, asks_sizes, asks_jagged}
use Rattle.scan.specs.declared.Walk.{Walk}
use Rattle.scan.proofs.ScanLaws.{unique, First, first, Lead, first_lead, leading, from_names}
use Rattle.scan.proofs.Flat.{type_flat}
use Rattle.scan.proofs.PartLaws.{names_append}
use Rattle.scan.proofs.Walks.{resolve_append, lead_none, lead_one, definition_flat, definition_lead}
use Rattle.sizes.specs.Tests.{named_of, known, named_holds, answer_at, Kept, Acyclic, definition_size_depends}
use Rattle.size_tests.specs.Scans.{inline_holds, some_counts, Ready, ToTest, Rest}
use Rattle.size_tests.proofs.CountLaws.{inline_counts, stop_counts, from_counts, counts_more, counts_none}

-- the definitions that are tested next may be said in another way, and answers may be known by then
ready_same : {s : List ℕ} {j : Bool} {left : ℕ} {ds es : List ℕ} {kept : List (Option Bool)} → ds ≡ es → Ready s j left ds kept → Ready s j left es kept
ready_same {s} {j} {left} {ds} {es} {kept} e g = subst (λ xs. Ready s j left xs kept) e g

ready_behind : {s : List ℕ} {j : Bool} {left i : ℕ} {ds : List ℕ} {kept after : List (Option Bool)} → Ready s j left (i ∷ ds) kept → Kept s j after → Ready s j left ds after
ready_behind {i = i} g k = record { ends = g.ends; within = λ x m. g.within x (Memᴰ.append_right (i ∷ []) m); keeps = k }

-- the records of a run from `at` to `end` are tested, and none of those before `from` has made the test hold
pub record Testing (s : List ℕ) (j : Bool) (left at end : ℕ) (kept : List (Option Bool)) (from : ℕ) : Type 0 where
  pub others : ToTest s j left from end kept
  pub some : (ps : List Part) → Run s end at ps → some_counts j s ps ≡ some_counts j s others.records.parts

pub testing_start : {s : List ℕ} {j : Bool} {left at end : ℕ} {kept : List (Option Bool)} → ToTest s j left at end kept → Testing s j left at end kept at
testing_start {s} {j} {left} {at} {end} g = record { others = g; some = λ ps a. ap (some_counts j s) (unique s end at ps g.records.parts a g.records.run) }

module _ {s : List ℕ} {j : Bool} {left at end : ℕ} {kept : List (Option Bool)} {from : ℕ} (t : Testing s j left at end kept from) (w : Walk) (asks : (asks_sizes w ≡ not j) × (asks_jagged w ≡ j)) where
  -- where the walk stops the test stops
  stopped : (o : Option ℕ) → NextStop s from end (asks_sizes w) (asks_jagged w) o → NextStop s from end (not j) j o
  stopped o l = subst (λ y. NextStop s from end (not j) y o) asks.1 (subst (λ x. NextStop s from end x (asks_jagged w) o) asks.0 l)

  -- the others from the first on at which it stops
  onward : (ps : List Part) → Run s end at ps → some_counts j s ps ≡ some_counts j s (from_stop (not j) j t.others.records.parts)
  onward ps a = t.some ps a ∙ sym (from_counts j s t.others.records.parts)

  pub testing_end : NextStop s from end (asks_sizes w) (asks_jagged w) None → (ps : List Part) → Run s end at ps → false ≡ some_counts j s ps
  testing_end l ps a = sym (onward ps a ∙ ap (some_counts j s) (stopped None l t.others.records.parts t.others.records.run) ∙ counts_none j s)

  -- that one is at `next`
  module _ {next : ℕ} (stops_at : StopsFirst s from end (asks_sizes w) (asks_jagged w) next) where
    l : StopsFirst s from end (not j) j next
    l = stopped (Some next) stops_at

    run : Run s end next (from_stop (not j) j t.others.records.parts)
    run = l.rest t.others.records.parts t.others.records.run

    here : First s end next (from_stop (not j) j t.others.records.parts)
    here = first s end next _ run l.before

    -- the record does not lead: the test holds by it
    pub testing_holds : {r : Bool} → r ≡ is_lead (part_at s next) → r ≡ false → (ps : List Part) → Run s end at ps → true ≡ some_counts j s ps
    testing_holds e q ps a = sym (onward ps a ∙ ap (some_counts j s) here.is ∙ stop_counts j s (part_at s next) here.rest l.stop (sym e ∙ q))

    -- it leads
    module _ {r : Bool} (e : r ≡ is_lead (part_at s next)) (q : r ≡ true) where
      led : Lead s end next (from_stop (not j) j t.others.records.parts)
      led = first_lead s run l.before (leading s next (sym e ∙ q))

      pub name_there : next + 3 ≤ length s
      name_there = omega (arith, led.there, t.others.records.bound)

      -- to definition i
      module _ {n : ℕ} {places : List ℕ} (tb : Table s n places) {name i : ℕ} (x : name ≡ record_name s next) (p : i ≡ definition_of (bundle_of s) name) where
        is : i ≡ definition_of (bundle_of s) (record_name s next)
        is = p ∙ ap (definition_of (bundle_of s)) x

        -- what is known of the name
        equation : (j : Bool) → circles (bundle_of s) ≡ false → known j s (record_name s next) ≡ answer_at j s (definition_of (bundle_of s) (record_name s next))
        unfolding answer_at named_holds find_type
        equation true c = answer_equation (named_of true) jagged_test (bundle_of s) c (record_name s next)
        equation false c = answer_equation (named_of false) named_test (bundle_of s) c (record_name s next)

        split : (ps : List Part) → Run s end at ps → some_counts j s ps ≡ (answer_at j s i || some_counts j s led.rest)
        split ps a =
            onward ps a ∙ ap (some_counts j s) led.is
            ∙ counts_more j s (lead (record_name s next)) led.rest ∙ ap (◌|| some_counts j s led.rest) (equation j t.others.ready.ends ∙ ap (answer_at j s) (sym is))

        -- the definitions that are tested from there on
        ready_on : {ds : List ℕ} → lead_to s (lead (record_name s next) ∷ led.rest) ≡ ds → Ready s j left ds kept
        ready_on f = ready_same (sym (ap (resolve (bundle_of s)) (from_names (not j) j t.others.records.parts)) ∙ ap (lead_to s) led.is ∙ f) t.others.ready

        one : i < count (bundle_of s) → Ready s j left (i ∷ lead_to s led.rest) kept
        one m = ready_on (lead_one s (record_name s next) led.rest is m)

        -- which is tested next
        pub testing_inside : i < count (bundle_of s) → Ready s j left (i ∷ []) kept
        testing_inside m =
            let g = one m in
            record { ends = g.ends; within = λ y k. g.within y (Memᴰ.head (Memᴰ.eq_of_singleton k)); keeps = g.keeps }

        -- its test holds
        pub testing_yes : {v : Bool} → v ≡ answer_at j s i → v ≡ true → (ps : List Part) → Run s end at ps → true ≡ some_counts j s ps
        testing_yes a b ps r = sym (split ps r ∙ rw (sym a ∙ b))

        testing_on : {kept' : List (Option Bool)} → answer_at j s i ≡ false → Ready s j left (lead_to s led.rest) kept' → Testing s j left at end kept' (next + 3)
        testing_on a g = record {
          others = record { records = record { parts = led.rest; run = led.run; bound = t.others.records.bound }; ready = g };
          some = λ ps r. split ps r ∙ rw a;
        }

        -- it does not
        pub testing_next : {v : Bool} {kept' : List (Option Bool)} → i < count (bundle_of s) → v ≡ answer_at j s i → v ≡ false → Kept s j kept' → Testing s j left at end kept' (next + 3)
        testing_next m a b k = testing_on (sym a ∙ b) (ready_behind (one m) k)

        -- there is none
        none_is : count (bundle_of s) ≤ i → answer_at j s (definition_of (bundle_of s) (record_name s next)) ≡ false
        unfolding answer_at find_type
        none_is m = ap (holds (named_holds j s)) (found_none tb i (record_name s next) is (omega (arith, m, tb.count)))

        pub testing_past : count (bundle_of s) ≤ i → Testing s j left at end kept (next + 3)
        testing_past m = testing_on (ap (answer_at j s) is ∙ none_is m) (ready_on (lead_none s (record_name s next) led.rest is m))

-- definition i
module _ {s : List ℕ} {n : ℕ} {places : List ℕ} (tb : Table s n places) {j : Bool} {left i : ℕ} {kept : List (Option Bool)} (h : i < n) (g : Ready s j left (i ∷ []) kept) where
  pub some_left : left ≡ 0 → ⊥
  some_left e = settled_zero (bundle_of s) i (subst (λ k. settled (bundle_of s) k i ≡ true) e (g.within i (Memᴰ.head refl)))

  -- its answer, and how it is kept
  definition_answer : named_holds j s (type_at 24 s (get_or places i 0)) ≡ answer_at j s i
  unfolding answer_at
  definition_answer = sym (ap (holds (named_holds j s)) (placed_type tb i h))

  -- its own record says that its test holds
  pub definition_holds : named_holds j s (type_at 24 s (get_or places i 0)) ≡ true → true ≡ answer_at j s i
  definition_holds t = sym t ∙ definition_answer

  module _ {p : ℕ} (r : Rest s j (get_or places i 0) (get_or places (i + 1) 0 - 3) p) where
    -- its records from p on are tested next
    inside : (x : ℕ) → Memᴰ x (lead_to s r.parts) → Memᴰ x (leads_to (bundle_of s) i)
    inside x m =
        let q : leads_to (bundle_of s) i ≡ lead_to s r.before ++ lead_to s r.parts =
        sym (definition_lead tb h) ∙ ap (lead_to s) r.split ∙ ap (resolve (bundle_of s)) (names_append r.before r.parts) ∙ resolve_append (bundle_of s) (lead_names r.before) (lead_names r.parts)
        in
        rw q (Memᴰ.append_right (lead_to s r.before) m)

    pub definition_test : ToTest s j (left - 1) p (get_or places (i + 1) 0 - 3) kept
    definition_test =
        let q : left ≡ suc (left - 1) = omega (arith, some_left) in
        record {
          records = record { parts = r.parts; run = r.run; bound = (definition_flat tb h).bound };
          ready = record {
            ends = g.ends;
            within = λ x m. settled_step (bundle_of s) (left - 1) i x (subst (λ k. settled (bundle_of s) k i ≡ true) q (g.within i (Memᴰ.head refl))) (inside x m);
            keeps = g.keeps;
          };
        }

    pub definition_tested : {v : Bool} → ((ps : List Part) → Run s (get_or places (i + 1) 0 - 3) p ps → v ≡ some_counts j s ps) → v ≡ answer_at j s i
    definition_tested f = f r.parts r.run ∙ sym r.is ∙ definition_answer

  module _ {after : List (Option Bool)} (k : Kept s j after) {v : Bool} (p : v ≡ answer_at j s i) where
    below : i < length after
    below = omega (arith, k.size, tb.count, tb.placed.room)

    -- what stands at x now
    now_at : (x : ℕ) → ((x ≡ i) × (get_or (set after i (Some v)) x None ≡ Some v)) ⊎ (get_or (set after i (Some v)) x None ≡ get_or after x None)
    now_at x = go (eqb x i) refl
      where
        go : (b : Bool) → eqb x i ≡ b → ((x ≡ i) × (get_or (set after i (Some v)) x None ≡ Some v)) ⊎ (get_or (set after i (Some v)) x None ≡ get_or after x None)
        go true e = let h : x ≡ i = eqb-true x i e in inl (h, rw h (get_or-set_same after i (Some v) None below))
        go false e = inr (get_or-set_other after i x (Some v) None (eqb-false x i e))

    pub definition_kept : Kept s j (set after i (Some v))
    definition_kept = record {
      size = length-set after i (Some v) ∙ k.size;
      answers = λ x holds e. ⊎_elim (λ w. ap (answer_at j s) w.0 ∙ sym p ∙ same (sym w.1 ∙ e)) (λ w. k.answers x holds (sym w ∙ e)) (now_at x);
    }
      where
        same : {v w : Bool} → ◌≡◌ {A = Option Bool} (Some v) (Some w) → v ≡ w
        same e = cc

-- In a bundle in which nothing circles, as many steps as there are definitions are enough.
module _ {s : List ℕ} {n : ℕ} {places : List ℕ} (tb : Table s n places) (a : Acyclic s) (j : Bool) {kept : List (Option Bool)} (k : Kept s j kept) where
  ready_by : (ds : List ℕ) → ((i : ℕ) → Memᴰ i ds → i < count (bundle_of s)) → Ready s j n ds kept
  ready_by ds below = record {
    ends = a.ends;
    within = λ i m. subst (λ x. settled (bundle_of s) x i ≡ true) (sym tb.count) (settled_of (bundle_of s) a.ends i (below i m));
    keeps = k;
  }

  pub ready_definition : (i : ℕ) → i < n → Ready s j n (i ∷ []) kept
  ready_definition i h = ready_by (i ∷ []) (λ x m. rw (Memᴰ.eq_of_singleton m) (omega (arith, tb.count)))

  -- a type that was read from `at` to `end`
  module _ (d at : ℕ) {end : ℕ} (e : Ok end ≡ step_of (read_ty d s at)) where
    pub type_ready : ToTest s j n at end kept
    type_ready =
        let f = type_flat s d at end e in
        record {
          records = record { parts = type_parts (type_at d s at); run = f.run; bound = f.bound };
          ready = ready_by (lead_to s (type_parts (type_at d s at))) (λ x m. resolve_below (bundle_of s) (lead_names (type_parts (type_at d s at))) x m);
        }

    pub type_tested : {v : Bool} → ((ps : List Part) → Run s end at ps → v ≡ some_counts j s ps) → v ≡ inline_holds j s (type_at d s at)
    type_tested f = f (type_parts (type_at d s at)) (type_flat s d at end e).run ∙ inline_counts j s (type_at d s at)

-- what was read is not refused
pub type_no : (d at : ℕ) (k : Refusal) (s : List ℕ) → Reads (read_ty d s at) → Err k ≡ step_of (read_ty d s at) → ⊥
type_no d at k s r e = refused_no (read_ty d s at) k r (sym e)

-- what the answers mean
module _ (s : List ℕ) where
  pub size_answer : (i : ℕ) → answer_at false s i ≡ definition_size_depends (bundle_of s) i
  unfolding answer_at named_holds named_size_depends
  size_answer i = refl

  module _ (d at : ℕ) where
    pub size_inline : inline_holds false s (type_at d s at) ≡ inline_size_depends (bundle_of s) (type_at d s at)
    unfolding inline_holds inline_size_depends
    size_inline = refl

    pub jagged_inline_lem : inline_holds true s (type_at d s at) ≡ contains_jagged_array (bundle_of s) (type_at d s at)
    unfolding inline_holds contains_jagged_array
    jagged_inline_lem = refl
