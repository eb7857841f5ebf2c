-- A byte string is accepted exactly when some tree within the limits, without circle, encodes to it. On any other every call is
-- refused, with the same number.
use Prim.Native.Nat.{ℕ}
use native.Mathlib.Omega.{arith}
use mathlib.Core.Bool.{Bool, true, false, cond}
use mathlib.Core.Logic.{◌↔◌}
use mathlib.Core.Path.{◌≡◌, refl, sym, ap, ◌∙◌}
use mathlib.Core.List.{List, []}
use Rattle.meaning.specs.Tree.{Bundle}
use Rattle.meaning.specs.Reader.{Read, ok, refused}
use Rattle.meaning.specs.ReadBundle.{read_bundle}
use Rattle.meaning.specs.Circle.{circles}
use Rattle.meaning.specs.Encoding.{Bytes, bundle_bytes}
use Rattle.meaning.specs.Within.{BundleOk}
use Rattle.meaning.specs.Calls.{Outcome, result, refusal, due_of, on_bundle, acceptance, Accepted}
use Rattle.meaning.proofs.BundleSpans.{bundle_law}
use Rattle.meaning.proofs.BundleBack.{bundle_read_back}
use Rattle.meaning.proofs.ReadWithin.{bundle_within}

-- what is due for the bytes of an accepted tree
pub accepted_due : (f : Bundle → Outcome) (b : Bundle) → BundleOk b → circles b ≡ false → on_bundle f (bundle_bytes b) ≡ f b
unfolding on_bundle due_of
accepted_due f b o c = rw (bundle_read_back b o, c)

-- bytes that are read as a tree that does not circle are accepted
pub accepted_of : (s : List ℕ) → Bytes s → (b : Bundle) (n : ℕ) → read_bundle s ≡ ok b n → circles b ≡ false → Accepted s
accepted_of s bytes b n e c = record { tree = b; within = bundle_within s bytes b n e; no_circle = c; encoded = bundle_law s bytes b n e }

pub accepted_iff : (s : List ℕ) → Bytes s → (acceptance s ≡ result []) ↔ Accepted s
unfolding acceptance on_bundle due_of
accepted_iff s bytes = (there (read_bundle s) refl, back)
  where
    no_circle : (b : Bundle) (t : Bool) → circles b ≡ t → cond t (refusal 8) (result []) ≡ result [] → circles b ≡ false
    no_circle b true c e = let z : ◌≡◌ {A = ℕ} 0 1 = cc in absurd (omega arith)
    no_circle b false c e = c

    there : (x : Read Bundle) → read_bundle s ≡ x → due_of (λ b. result []) x ≡ result [] → Accepted s
    there (ok b n) r e = accepted_of s bytes b n r (no_circle b (circles b) refl e)
    there (refused k) r e = let z : ◌≡◌ {A = ℕ} 0 1 = cc in absurd (omega arith)

    back : Accepted s → due_of (λ b. result []) (read_bundle s) ≡ result []
    back a = ap (λ t. due_of (λ b. result []) (read_bundle t)) (sym a.encoded) ∙ accepted_due (λ b. result []) a.tree a.within a.no_circle
