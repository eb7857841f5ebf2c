-- Demand 3 of the calls: what they leave in the lent places is the result (demand 1), and of that Canonical.antt says it.
use Prim.Native.Nat.{ℕ}
use native.Mathlib.Omega.{arith}
use mathlib.Core.Bool.{Bool, true, false}
use mathlib.Core.Logic.{◌⊎◌, inl, inr}
use mathlib.Core.Path.{◌≡◌, refl, sym, ap, subst, ◌∙◌}
use mathlib.Core.List.{List}
use lib.Dec.{leb}
use lib.ListN.{length, take}
use borrow.Author.Tests.{leb-true, leb-false}
use Rattle.names.specs.Documents.{bytes, map_names}
use Rattle.meaning.specs.Tree.{Bundle}
use Rattle.meaning.specs.Encoding.{Bytes}
use Rattle.meaning.specs.Violations.{violations}
use Rattle.meaning.specs.Report.{report_items}
use Rattle.meaning.specs.Calls.{Answer, accepted, refused_with, Call}
use Rattle.meaning.specs.Due.{reporting, renumbering}
use Rattle.refusals.specs.Numbers.{Keeps}
use Rattle.refusals.proofs.Encoded.{bundle_bytes_lem}
use Rattle.demands.specs.Demands.{Gets, Demand1, ReportOf, numbering_of, RenumberedOf, Demand3Alike, Demand3Report}
use Rattle.demands.proofs.Canonical.{equal_results, keeps_too, report_too}
use Rattle.demands.proofs.Answering.{gets_call, report_demand, renumber_demand}

no_answer : {A : Type 0} {n k : ℕ} → accepted n ≡ refused_with k → A
no_answer e = let z : ◌≡◌ {A = ℕ} 0 1 = cc in absurd (omega arith)

-- an acceptance of n: the n bytes are the result
record Has (xs after : List ℕ) (n : ℕ) : Type 0 where
  size : n ≡ length xs
  first : take n after ≡ xs

has : (xs before after : List ℕ) (n : ℕ) → Gets xs before after (accepted n) → Has xs after n
has xs before after n g = go (leb (length xs) (length before)) refl
  where
    go : (t : Bool) → leb (length xs) (length before) ≡ t → Has xs after n
    go true h =
        let f = g.full (leb-true (length xs) (length before) h) in
        let a = f.answer in
        let size : n ≡ length xs = cc in
        record { size = size; first = ap (λ m. take m after) size ∙ f.first }
    go false h = no_answer (g.narrow (leb-false (length xs) (length before) h)).answer

-- a bundle whose renumbering is accepted keeps the layout
keeps : (s before after : List ℕ) (n : ℕ) → Demand1 RenumberedOf s before after (accepted n) → (c : Bundle) × Keeps s c
keeps s before after n d = go d.cases.either
  where
    go : ((c : Bundle) × Keeps s c) ⊎ ((c : Bundle) → Keeps s c → ⊥) → (c : Bundle) × Keeps s c
    go (inl k) = k
    go (inr none) = no_answer (d.other none).2.answer

same_size : {m n : ℕ} → accepted m ≡ accepted n → m ≡ n
same_size e = cc

pub alike_demand : (s t u u' : List ℕ) (a : Answer) (v v' : List ℕ) (b : Answer) → Bytes s → Bytes t → Call (renumbering s) u u' a → Call (renumbering t) v v' b
    → Demand3Alike s t u u' a v v' b
alike_demand s t u u' a v v' b p q y z =
    let one = renumber_demand s u u' a p y in
    let another = renumber_demand t v v' b q z in
    record {
      one = one;
      another = another;
      equal = λ c d k l m n e f.
          let x = one.every c k in
          let y = another.every d l in
          let i = has x.0 u u' m (subst (Gets x.0 u u') e x.2) in
          let j = has y.0 v v' n (subst (Gets y.0 v v') f y.2) in
          let both = equal_results k l x.0 y.0 x.1 y.1 in (
            λ h. both.0 (sym i.first ∙ h.1 ∙ j.first),
            λ h. (i.size ∙ ap length (both.1 h) ∙ sym j.size, i.first ∙ both.1 h ∙ sym j.first),
          );
    }

-- the renumbered bundle was reported
pub reported_demand : (s u u' v v' : List ℕ) (n : ℕ) (b : Answer) → Bytes s → Call (renumbering s) u u' (accepted n) → Call (reporting (take n u')) v v' b
    → Demand3Report s u u' (accepted n) v v' b
reported_demand s u u' v v' n b p y z =
    let d = renumber_demand s u u' (accepted n) p y in
    let c = keeps s u u' n d in
    let x = d.every c.0 c.1 in
    let i = has x.0 u u' n x.2 in
    let t = keeps_too c.1 x.0 x.1 in
    let k : Keeps (take n u') t.0 = subst (λ s. Keeps s t.0) (sym i.first) t.1 in
    record {
      renumbered = d;
      reported = λ m e. subst (λ m. Demand1 ReportOf (take m u') v v' b) (same_size e) (report_demand (take n u') v v' b (bundle_bytes_lem k.bundle) z);
      keeps_too = λ m e. (t.0, subst (λ m. Keeps (take m u') t.0) (same_size e) k);
      report = λ c k m e.
          let x = d.every c k in
          let i = has x.0 u u' n x.2 in
          gets_call (reporting (take n u')) (bytes (map_names (numbering_of c) (report_items (violations c)))) v v' b
          (ap reporting i.first ∙ report_too k x.0 x.1) z;
      none = λ k e. no_answer e;
    }

-- the bundle was refused
pub refused_demand : (s u u' v : List ℕ) (k : ℕ) → Bytes s → Call (renumbering s) u u' (refused_with k) → Demand3Report s u u' (refused_with k) v v (refused_with k)
refused_demand s u u' v k p c = record {
  renumbered = renumber_demand s u u' (refused_with k) p c;
  reported = λ m e. no_answer (sym e);
  keeps_too = λ m e. no_answer (sym e);
  report = λ t h m e. no_answer (sym e);
  none = λ j e. record { answer = e; all = refl };
}
