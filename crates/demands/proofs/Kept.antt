-- A bundle keeps the layout, with references that never circle, exactly where it is accepted (`Accepted`, the meaning's Calls.antt).
-- Whether bytes are those of such a bundle is decided.
use Prim.Native.Nat.{ℕ}
use native.Mathlib.Omega.{arith}
use mathlib.Core.Bool.{Bool, true, false, true≢false}
use mathlib.Core.Logic.{◌⊎◌, inl, inr}
use mathlib.Core.Path.{◌≡◌, refl, sym, subst, ◌∙◌}
use mathlib.Core.List.{List}
use Rattle.meaning.specs.Tree.{Bundle}
use Rattle.meaning.specs.Encoding.{Bytes}
use Rattle.meaning.specs.Reader.{Read, ok, refused}
use Rattle.meaning.specs.ReadBundle.{read_bundle}
use Rattle.meaning.specs.Circle.{circles, Leads}
use Rattle.meaning.specs.Calls.{Accepted}
use Rattle.meaning.proofs.Circle.{circles_iff}
use Rattle.meaning.proofs.Acceptance.{accepted_of}
use Rattle.refusals.specs.Numbers.{Keeps}
use Rattle.refusals.proofs.Circles.{read_bundle_lem, one_bundle}
use Rattle.refusals.proofs.Laws.{one_number, no_number}
use Rattle.demands.specs.Demands.{Cases}

pub accepted_kept : {s : List ℕ} (a : Accepted s) → Keeps s a.tree
accepted_kept a = record {
  bundle = record { layout = a.encoded; limits = a.within };
  no_circle = λ i l. true≢false (sym ((circles_iff a.tree).1 (i, l)) ∙ a.no_circle);
}

unfoldable pub kept_accepted : {s : List ℕ} {b : Bundle} → Keeps s b → Accepted s
kept_accepted {b = b} k = record { tree = b; within = k.bundle.limits; no_circle = go (circles b) refl; encoded = k.bundle.layout }
  where
    go : (t : Bool) → circles b ≡ t → circles b ≡ false
    go true e = let r = (circles_iff b).0 e in absurd (k.no_circle r.0 r.1)
    go false e = e

module _ (s : List ℕ) (bytes : Bytes s) where
  decided : (x : Read Bundle) → read_bundle s ≡ x → ((b : Bundle) × Keeps s b) ⊎ ((b : Bundle) → Keeps s b → ⊥)
  decided (ok b n) r = go (circles b) refl
    where
      same_tree : {d : Bundle} {m : ℕ} → ok b n ≡ ok d m → b ≡ d
      same_tree e = cc

      go : (t : Bool) → circles b ≡ t → ((b : Bundle) × Keeps s b) ⊎ ((b : Bundle) → Keeps s b → ⊥)
      go true c =
          let l = (circles_iff b).0 c in
          inr (λ d k. k.no_circle l.0 (subst (λ d. Leads d l.0 l.0) (same_tree (sym r ∙ read_bundle_lem s d k.bundle)) l.1))
      go false c = let a = accepted_of s bytes b n r c in inl (a.tree, accepted_kept a)
  decided (refused k) r = inr (λ b h. let e = sym r ∙ read_bundle_lem s b h.bundle in let z : ◌≡◌ {A = ℕ} 0 1 = cc in absurd (omega arith))

  pub cases : Cases s
  cases = record {
    either = decided (read_bundle s) refl;
    one_bundle = λ b c p q. one_bundle s b c p.bundle q.bundle;
    one_number = λ j k p q. one_number s bytes j p ∙ sym (one_number s bytes k q);
    no_number = no_number s;
  }
