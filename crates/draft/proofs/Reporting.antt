-- The report as a call writes it.
use Rattle.std.specs.Prelude.{Err, Ok}
use Rattle.refusal.specs.declared.Refusal.TheVariants.{NoRoom}
use Prim.Native.Nat.{ℕ, ◌+◌, ◌≤◌, ◌<◌}
use native.Mathlib.Omega.{arith}
use mathlib.Core.Bool.{false}
use mathlib.Core.Path.{◌≡◌, sym, ap, subst, ◌∙◌}
use mathlib.Core.List.{List, [], ◌∷◌, ◌++◌}
use lib.ListN.{length, drop}
use lib.Seq.{sets-eq}
use borrow.Author.Tests.{le-leb, lt-leb}
use Rattle.names.specs.Documents.{bytes}
use Rattle.meaning.specs.Calls.{Answer, accepted, Call, result, answer_of, places_after, on_bundle}
use Rattle.meaning.specs.Circle.{circles}
use Rattle.meaning.specs.Encoding.{Bytes}
use Rattle.meaning.specs.Report.{two_bytes, report}
use Rattle.meaning.specs.Tree.{Bundle}
use Rattle.meaning.specs.Violations.{violations}
use Rattle.meaning.proofs.Counts.{violations_few}
use Rattle.meaning.proofs.ReadWithin.{bundle_within}
use Rattle.bundle.specs.declared.Layout.{Layout}
use Rattle.bundle.specs.Definitions.{bundle_of}
use Rattle.bundle.specs.Opened.{LayoutOf, answer_meant}
use Rattle.bundle.proofs.AnswerLaws.{due_opened}
use Rattle.violation.specs.Records.{Puts}
use Rattle.violation.proofs.Putting.{puts_both}
use Rattle.validate.specs.declared.Report.{Report}
use Rattle.validate.specs.Validating.{record_bytes, Wrote, Room}

-- a bundle that was read has few violations
pub read_few : (s : List ℕ) {l : Layout} {places : List ℕ} → Bytes s → LayoutOf s l places → length (violations (bundle_of s)) ≤ 65535
read_few s b g = let h = violations_few (bundle_of s) (bundle_within s b (bundle_of s) (length s) g.read) in omega arith

-- a report starts behind its head
pub start_room : (b : Bundle) {p : Report} → p.at ≡ 3 → p.count ≡ 0 → length (violations b) ≤ 65535 → Room p (violations b)
start_room b e z h = record { far = omega arith; few = omega arith }

-- the length of the report is what the first run counts
module _ (b : Bundle) {p c : Report} (starts : p.at ≡ 3) (none : p.count ≡ 0) (w : Wrote (violations b) p c) where
  counted_size : length (report b) ≡ c.at
  unfolding report
  counted_size = omega (arith, w.puts.behind, starts)

  -- the report is longer than the places
  pub too_long : (out : List ℕ) → length out < c.at → Call (result (report b)) out out (answer_meant (Err NoRoom))
  unfolding answer_meant answer_of places_after
  too_long out h =
      let t = lt-leb (length (report b)) (length out) (omega (arith, counted_size)) in
      record { answer = rw t; places = rw t }

  -- the head and the records are the report
  report_puts : {out o₁ o₂ out' : List ℕ} {m₁ m₂ e : ℕ} → Puts (0x70 ∷ []) out 0 o₁ m₁ → Puts (bytes (two_bytes c.count)) o₁ m₁ o₂ m₂
      → Puts (record_bytes (violations b)) o₂ 3 out' e → Puts (report b) out 0 out' e
  unfolding report
  report_puts {out} {o₁} {o₂} {out'} {m₁} {m₂} p q r =
      let three : m₂ ≡ 3 = omega (arith, p.behind, q.behind) in
      let counts : c.count ≡ length (violations b) = omega (arith, w.counts, none) in
      puts_both p (puts_both (subst (λ k. Puts (bytes (two_bytes k)) o₁ m₁ o₂ 3) counts (subst (λ k. Puts (bytes (two_bytes c.count)) o₁ m₁ o₂ k) three q)) r)

  pub written_whole : {out o₁ o₂ o₃ out' : List ℕ} {m₁ m₂ e : ℕ} → c.at ≤ length out → Puts (0x70 ∷ []) out 0 o₁ m₁ → Puts (bytes (two_bytes c.count)) o₁ m₁ o₂ m₂
      → Puts (record_bytes (violations b)) o₂ 3 o₃ e → out' ≡ o₃ → Call (result (report b)) out out' (answer_meant (Ok e))
  unfolding answer_meant answer_of places_after
  written_whole {out} h p q r same =
      let t = le-leb (length (report b)) (length out) (omega (arith, counted_size)) in
      let g = report_puts p q r in
      let z : 0 + length (report b) ≡ length (report b) = omega arith in
      record {
        answer = rw t (ap accepted (g.behind ∙ z));
        places = rw t (same ∙ g.written ∙ sets-eq (report b) out 0 (omega (arith, counted_size)) ∙ ap (λ k. report b ++ drop k out) z);
      }

-- a call for an accepted bundle
pub called : {s places : List ℕ} {l : Layout} {out out' : List ℕ} {a : Answer} → LayoutOf s l places → circles (bundle_of s) ≡ false → Call (result (report (bundle_of s))) out out' a
    → Call (on_bundle (λ b. result (report b)) s) out out' a
called {out = out} {out'} {a} g c h = subst (λ o. Call o out out' a) (sym (due_opened g c (λ b. result (report b)))) h
