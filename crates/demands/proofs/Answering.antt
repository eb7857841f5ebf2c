-- Demand 1 holds of every call to which `on_bundle` is due, whatever its result.
use Prim.Native.Nat.{ℕ, suc, ◌≤◌}
use native.Mathlib.Omega.{arith}
use borrow.Author.Tests.{lt-leb}
use mathlib.Core.Bool.{Bool, true, false, cond}
use mathlib.Core.Path.{◌≡◌, refl, sym, ap, subst, ◌∙◌}
use mathlib.Core.List.{List, [], ◌∷◌}
use lib.ListN.{length}
use lib.Dec.{leb}
use Rattle.meaning.specs.Tree.{Bundle}
use Rattle.meaning.specs.Encoding.{Bytes, bundle_bytes}
use Rattle.meaning.specs.Reader.{Read, ok, refused}
use Rattle.meaning.specs.ReadBundle.{read_bundle}
use Rattle.meaning.specs.Within.{BundleOk}
use Rattle.meaning.specs.Circle.{circles}
use Rattle.meaning.specs.Report.{report}
use Rattle.meaning.specs.Kinds.{body}
use Rattle.names.specs.Records.{renumber_bytes}
use Rattle.meaning.specs.Calls.{Answer, accepted, refused_with, Outcome, result, refusal, answer_of, places_after, Call, due_of, on_bundle, acceptance, Accepted}
use Rattle.meaning.specs.Due.{reporting, renumbering}
use Rattle.meaning.proofs.Acceptance.{accepted_due, accepted_of}
use Rattle.meaning.proofs.CallLaws.{call_accepted, call_refused, answer_fits, answer_narrow}
use Rattle.demands.specs.Demands.{Given, Refused, Gets, Demand1, Nothing, ReportOf, RenumberedOf}
use Rattle.refusals.specs.Numbers.{Keeps, Number, fault_of, number_of}
use Rattle.refusals.proofs.Unique.{one_to_eight}
use Rattle.refusals.proofs.Laws.{number_is}
use Rattle.demands.proofs.Kept.{accepted_kept, kept_accepted, cases}
use Rattle.demands.proofs.Canonical.{renumbered_due}

-- What a call gets.

given_call : (xs before after : List ℕ) (a : Answer) → Call (result xs) before after a → length xs ≤ length before → Given xs before after a
given_call xs before after a c h =
    let e : a ≡ accepted (length xs) = c.answer ∙ answer_fits xs (length before) h in
    let filled = call_accepted (result xs) (length xs) before after (subst (λ a. Call (result xs) before after a) e c) in
    let same : filled.due ≡ xs = let p = filled.outcome in cc in
    record { answer = e; first = filled.first ∙ same; others = filled.others }

pub refused_call : (o : Outcome) (k : ℕ) (before after : List ℕ) (a : Answer) → Call o before after a → answer_of o (length before) ≡ refused_with k → Refused k before after a
refused_call o k before after a c e =
    let q : a ≡ refused_with k = c.answer ∙ e in
    record { answer = q; all = call_refused o k before after (subst (λ a. Call o before after a) q c) }

pub gets_call : (o : Outcome) (xs before after : List ℕ) (a : Answer) → o ≡ result xs → Call o before after a → Gets xs before after a
gets_call o xs before after a e c =
    let d : Call (result xs) before after a = subst (λ o. Call o before after a) e c in
    record {
      full = given_call xs before after a d;
      narrow = λ h. refused_call (result xs) 9 before after a d (answer_narrow xs (length before) h);
    }

-- what is due for an accepted bundle is f of it, and its refusals are 1 to `most`
module _ (f : Bundle → Outcome) (lent most : ℕ) (up : 8 ≤ most) (own : (b : Bundle) → circles b ≡ false → (k : ℕ) → answer_of (f b) lent ≡ refused_with k → (1 ≤ k) × (k ≤ most)) where
  -- then so are all
  pub number_within : (s : List ℕ) (k : ℕ) → answer_of (on_bundle f s) lent ≡ refused_with k → (1 ≤ k) × (k ≤ most)
  unfolding on_bundle due_of answer_of
  number_within s k = go (read_bundle s) (one_to_eight s)
    where
      circle : (b : Bundle) (t : Bool) → circles b ≡ t → answer_of (cond t (refusal 8) (f b)) lent ≡ refused_with k → (1 ≤ k) × (k ≤ most)
      circle b true c e = let z : 8 ≡ k = cc in (omega arith, omega arith)
      circle b false c e = own b c k e

      go : (x : Read Bundle) → (1 ≤ fault_of x) × (fault_of x ≤ 8) → answer_of (due_of f x) lent ≡ refused_with k → (1 ≤ k) × (k ≤ most)
      go (ok b n) h e = circle b (circles b) refl e
      go (refused j) h e = let z : j ≡ k = cc in (omega arith, omega arith)

-- a result is refused with 9
pub room_number : (xs : List ℕ) (lent k : ℕ) → answer_of (result xs) lent ≡ refused_with k → k ≡ 9
unfolding answer_of
room_number xs lent k = go (leb (length xs) lent)
  where
    go : (t : Bool) → cond t (accepted (length xs)) (refused_with 9) ≡ refused_with k → k ≡ 9
    go true e = let z : ◌≡◌ {A = ℕ} 0 1 = cc in absurd (omega arith)
    go false e = let z : 9 ≡ k = cc in sym z

-- a refusal is one of 1 to 9
pub refused_number : (f : Bundle → List ℕ) (s : List ℕ) (lent k : ℕ) → answer_of (on_bundle (λ b. result (f b)) s) lent ≡ refused_with k → (1 ≤ k) × (k ≤ 9)
refused_number f s lent k =
    number_within (λ b. result (f b)) lent 9 (omega arith) (λ b c j e. (omega (arith, room_number (f b) lent j e), omega (arith, room_number (f b) lent j e))) s k

-- what is due for bytes that are not accepted: the one number
pub due_refused : (f : Bundle → Outcome) (s : List ℕ) → Bytes s → (Accepted s → ⊥) → on_bundle f s ≡ refusal (number_of s)
unfolding on_bundle due_of
due_refused f s bytes other = go (read_bundle s) refl
  where
    circle : (b : Bundle) (n : ℕ) → read_bundle s ≡ ok b n → (t : Bool) → circles b ≡ t → cond t (refusal 8) (f b) ≡ refusal 8
    circle b n r true c = refl
    circle b n r false c = absurd (other (accepted_of s bytes b n r c))

    go : (x : Read Bundle) → read_bundle s ≡ x → due_of f x ≡ refusal (fault_of x)
    go (ok b n) r = circle b n r (circles b) refl
    go (refused k) r = refl

-- and for those of a bundle that is accepted: what f gives
pub kept_due : (f : Bundle → Outcome) (s : List ℕ) (b : Bundle) → Keeps s b → on_bundle f s ≡ f b
unfolding kept_accepted
kept_due f s b k = subst (λ t. on_bundle f t ≡ f b) k.bundle.layout (accepted_due f b k.bundle.limits (kept_accepted k).no_circle)

-- bytes that are not accepted are refused with their number
pub other_refused : (f : Bundle → Outcome) (s before after : List ℕ) (a : Answer) → Bytes s → Call (on_bundle f s) before after a → ((b : Bundle) → Keeps s b → ⊥) → (k : ℕ) × Number s k × Refused k before after a
unfolding answer_of
other_refused f s before after a bytes c none =
    let e = due_refused f s bytes (λ y. none y.tree (accepted_kept y)) in
    (number_of s, number_is s bytes none, refused_call (on_bundle f s) (number_of s) before after a c (ap (λ o. answer_of o (length before)) e))

module _ (Result : Bundle → List ℕ → Type 0) (f : Bundle → List ℕ) (due : (b : Bundle) → BundleOk b → Result b (f b)) where
  pub demand_1 : (s before after : List ℕ) (a : Answer) → Bytes s → Call (on_bundle (λ b. result (f b)) s) before after a → Demand1 Result s before after a
  demand_1 s before after a bytes c = record {
    every = λ b k. (f b, due b k.bundle.limits, gets_call (on_bundle (λ b. result (f b)) s) (f b) before after a (kept_due (λ b. result (f b)) s b k) c);
    other = other_refused (λ b. result (f b)) s before after a bytes c;
    cases = cases s bytes;
    numbered = λ k e. refused_number f s (length before) k (sym c.answer ∙ e);
  }

-- The calls, but for the chain.

no_places : (o : Outcome) → [] ≡ places_after o []
unfolding places_after
no_places (result []) = refl
no_places (result (x ∷ xs)) = rw (lt-leb (suc (length xs)) 0 (omega arith))
no_places (refusal k) = refl

pub accept_demand : (s : List ℕ) (a : Answer) → Bytes s → a ≡ answer_of (acceptance s) 0 → Demand1 Nothing s [] [] a
unfolding acceptance
accept_demand s a bytes e = demand_1 Nothing (λ b. []) (λ b o. refl) s [] [] a bytes (record { answer = e; places = no_places (acceptance s) })

pub report_demand : (s before after : List ℕ) (a : Answer) → Bytes s → Call (reporting s) before after a → Demand1 ReportOf s before after a
unfolding reporting report
report_demand = demand_1 ReportOf report (λ b o. refl)

pub renumber_demand : (s before after : List ℕ) (a : Answer) → Bytes s → Call (renumbering s) before after a → Demand1 RenumberedOf s before after a
unfolding renumbering
renumber_demand = demand_1 RenumberedOf (λ b. renumber_bytes body (bundle_bytes b)) renumbered_due
