-- What is due to a call of `renumber`, and what it answers.
use Rattle.std.specs.Prelude.{Err, Ok}
use Rattle.refusal.specs.declared.Refusal.{Refusal}
use Rattle.refusal.specs.Numbers.{number}
use Rattle.refusal.specs.declared.Refusal.TheVariants.{NoRoom}
use Prim.Native.Nat.{ℕ, ◌≤◌, ◌<◌}
use mathlib.Core.Bool.{false}
use mathlib.Core.List.{List, ◌++◌}
use mathlib.Core.Path.{◌≡◌, refl, subst}
use lib.ListN.{length, drop}
use borrow.Author.Tests.{le-leb, lt-leb}
use Rattle.names.specs.Records.{renumber_bytes}
use Rattle.names.proofs.Records.{length_renumbered}
use Rattle.meaning.specs.Kinds.{body}
use Rattle.meaning.specs.Limits.{size_limit}
use Rattle.meaning.specs.Tree.{Bundle}
use Rattle.meaning.specs.Circle.{circles}
use Rattle.meaning.specs.Encoding.{Bytes, bundle_bytes}
use Rattle.meaning.specs.Due.{renumbering}
use Rattle.meaning.specs.Calls.{Outcome, result, refusal, on_bundle, answer_of, places_after, Call, Accepted}
use Rattle.meaning.proofs.Acceptance.{accepted_of}
use Rattle.meaning.proofs.RenumberingLaws.{bytes_below, accepted_whole, renumbering_due}
use Rattle.bundle.specs.declared.Layout.{Layout}
use Rattle.bundle.specs.Definitions.{bundle_of}
use Rattle.bundle.specs.Opened.{LayoutOf, answer_meant}

-- what was opened is accepted
pub opened_accepted : {s : List ℕ} {l : Layout} {places : List ℕ} → Bytes s → LayoutOf s l places × (circles (bundle_of s) ≡ false) → Accepted s
opened_accepted {s} bound o = accepted_of s bound (bundle_of s) (length s) o.0.read o.1

pub accepted_small : {s : List ℕ} → Accepted s → length s ≤ size_limit
accepted_small a = subst (λ t. length t ≤ size_limit) a.encoded a.within.size

-- the answers

pub answers_refused : (s out : List ℕ) (k : Refusal) → ((f : Bundle → Outcome) → on_bundle f s ≡ refusal (number k)) → Call (renumbering s) out out (answer_meant (Err k))
unfolding renumbering answer_meant answer_of places_after
answers_refused s out k e = rw (e (λ b. result (renumber_bytes body (bundle_bytes b)))) (record { answer = refl; places = refl })

module _ {s : List ℕ} (bound : Bytes s) (a : Accepted s) where
  as_long : length (renumber_bytes body s) ≡ length s
  as_long = length_renumbered body s (bytes_below s bound) (accepted_whole a)

  pub answers_narrow : (out : List ℕ) → length out < length s → Call (renumbering s) out out (answer_meant (Err NoRoom))
  unfolding answer_meant answer_of places_after
  answers_narrow out h = record {
    answer = rw (renumbering_due a, as_long, lt-leb (length s) (length out) h);
    places = rw (renumbering_due a, as_long, lt-leb (length s) (length out) h);
  }

  pub answers_renumbered : (out out' : List ℕ) → length s ≤ length out → out' ≡ renumber_bytes body s ++ drop (length s) out
      → Call (renumbering s) out out' (answer_meant (Ok (length s)))
  unfolding answer_meant answer_of places_after
  answers_renumbered out out' h e = record {
    answer = rw (renumbering_due a, as_long, le-leb (length s) (length out) h);
    places = rw (renumbering_due a, as_long, le-leb (length s) (length out) h) e;
  }
