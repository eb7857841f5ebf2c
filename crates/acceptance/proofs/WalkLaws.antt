-- A definition is walked record by record: what is known before, between and after the records that lead.
use Prim.Native.Nat.{ℕ, ◌+◌, ◌-◌, ◌≤◌, ◌<◌}
use native.Mathlib.Omega.{arith}
use Rattle.std.specs.Prelude.{None}
use mathlib.Core.Path.{◌≡◌}
use mathlib.Core.Bool.{true}
use mathlib.Core.List.{List, [], ◌∷◌, ◌++◌}
use lib.ListN.{get_or, set}
use Rattle.meaning.specs.Circle.{leads_to}
use Rattle.bundle.specs.Definitions.{type_at, bundle_of, Table}
use Rattle.scan.specs.Parts.{type_parts}
use Rattle.scan.specs.Scan.{Records, lead_to}
use Rattle.scan.proofs.Walks.{definition_flat, definition_lead}
use Rattle.lookup.specs.Led.{LedFirst, NextLed}
use Rattle.acceptance.specs.declared.Mark.{Mark}
use Rattle.acceptance.specs.declared.Mark.TheVariants.{Unseen, OnWay, Walked}
use Rattle.acceptance.specs.Circles.{unwalked, mark_at, Marks, Followed, Decided}
use Rattle.acceptance.proofs.CircleLaws.{unwalked_less, followed_none, followed_both, marks_left, marks_right, marks_inside, one_more}

-- definition i is on its way: the records from `at` on are to be walked, of those that end at `end`
pub record Walking (s : List ℕ) (i end : ℕ) (before marks : List Mark) (at : ℕ) : Type 0 where
  pub records : Records s at end
  pub marked : Marks (bundle_of s) (lead_to s records.parts) marks
  pub whole : (after : List Mark) → Followed (bundle_of s) (lead_to s records.parts) marks after → Followed (bundle_of s) (leads_to (bundle_of s) i) before after
  pub fewer : unwalked marks ≤ unwalked before

-- definition i of a bundle, whose mark is 0: before its first record and behind its last
module _ {s : List ℕ} {n : ℕ} {places : List ℕ} (t : Table s n places) {i : ℕ} (h : i < n) {marks : List Mark} (g : Marks (bundle_of s) (i ∷ []) marks) where
  pub place_below : i < 256
  place_below = omega (arith, t.count, t.placed.room)

  pub place_less : mark_at marks i ≡ Unseen → unwalked (set marks i OnWay) < unwalked marks
  place_less e = unwalked_less marks i (omega (arith, place_below, g.size)) e

  pub walking_start : Walking s i (get_or places (i + 1) 0 - 3) (set marks i OnWay) (set marks i OnWay) (get_or places i 0)
  walking_start = record {
    records = record { parts = type_parts (type_at 24 s (get_or places i 0)); run = (definition_flat t h).run; bound = (definition_flat t h).bound };
    marked = rw (definition_lead t h) (marks_inside g place_below);
    whole = λ after f. rw (definition_lead t h) at f;
    fewer = omega arith;
  }

  pub walking_end : {end : ℕ} {after : List Mark} {at : ℕ} → Walking s i end (set marks i OnWay) after at → NextLed s at end None → Decided (bundle_of s) (i ∷ []) marks (set after i Walked) true
  walking_end {end} {after} {at} w l =
      let f : Followed (bundle_of s) [] after after = followed_none w.marked in
      one_more g place_below (w.whole after (rw (l w.records.parts w.records.run) f))

-- a record that leads to definition j, and the records behind it
module _ {s : List ℕ} {i end : ℕ} {before marks : List Mark} {at : ℕ} (w : Walking s i end before marks at) {j next : ℕ} (l : LedFirst s at end j next) where
  one : lead_to s w.records.parts ≡ (j ∷ []) ++ lead_to s l.others.parts
  one = l.leads w.records.parts w.records.run

  -- definition j is walked next
  pub walking_inside : Marks (bundle_of s) (j ∷ []) marks
  walking_inside = marks_left (j ∷ []) (lead_to s l.others.parts) (rw one at w.marked)

  -- definition j was walked
  pub walking_next : {after : List Mark} → Followed (bundle_of s) (j ∷ []) marks after → Walking s i end before after next
  walking_next {after} f = record {
    records = l.others;
    marked = marks_right (j ∷ []) (lead_to s l.others.parts) (rw one at w.marked) f;
    whole = λ last k. w.whole last (rw one (followed_both f k));
    fewer = omega (arith, f.left, w.fewer);
  }
