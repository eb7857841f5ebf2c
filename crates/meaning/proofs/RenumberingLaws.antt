-- Renumbering accepted bytes (document 01, "Renumbering").
--     renumbered_alike       two bundles are renumbered to one exactly where they are alike
--     renumbered_accepted    the renumbered bundle is accepted
--     renumbered_report      its report is the bundle's report with each name put through the bundle's numbering
--     exchanged_accepted, exchanged_report    the same of every exchange of names
use Prim.Native.Nat.{ℕ, suc}
use mathlib.Core.Logic.{◌↔◌}
use mathlib.Core.Path.{◌≡◌, sym, ap, subst, ◌∙◌}
use mathlib.Core.List.{List, [], ◌∷◌, Memᴰ}
use Rattle.names.specs.Names.{numbering, Below, Names, Exchange, Alike}
use Rattle.names.specs.Documents.{Item, bytes, names, map_names}
use Rattle.names.specs.Records.{items, Whole, map_bytes, renumber_bytes}
use Rattle.names.proofs.Laws.{Extension, extension}
use Rattle.names.proofs.Records.{names_bytes_lem, canonical_bytes}
use Rattle.meaning.specs.Kinds.{body}
use Rattle.meaning.specs.Tree.{Bundle}
use Rattle.meaning.specs.Circle.{circles}
use Rattle.meaning.specs.Encoding.{Bytes, bundle_bytes}
use Rattle.meaning.specs.Within.{BundleOk}
use Rattle.meaning.specs.Violations.{violations}
use Rattle.meaning.specs.Report.{report_items, report}
use Rattle.meaning.specs.Renumbering.{bundle_names, map_bundle}
use Rattle.meaning.specs.Calls.{Outcome, result, on_bundle, Accepted}
use Rattle.meaning.specs.Due.{reporting, renumbering}
use Rattle.meaning.proofs.Acceptance.{accepted_due}
use Rattle.meaning.proofs.Equivariance.{circles_exchange, circles_renumbered, report_exchange, report_renumbered}
use Rattle.meaning.proofs.Flat.{bundle_items_lem, bundle_whole}
use Rattle.meaning.proofs.Mapped.{bundle_names_lem, bundle_map_bytes}
use Rattle.meaning.proofs.MappedWithin.{mapped_within}
use Rattle.meaning.proofs.Renaming.{bundle_same}

-- the numbering of a bundle's bytes, from old names to new
abbrev pub numbering_of : List ℕ → ℕ → ℕ
numbering_of s = numbering (names (items body s))

-- the report of an accepted bundle, as bytes with names at known places
abbrev report_of : {s : List ℕ} → Accepted s → List Item
report_of a = report_items (violations a.tree)

-- What is due for accepted bytes.

due_at : (f : Bundle → Outcome) {s : List ℕ} (a : Accepted s) → on_bundle f s ≡ f a.tree
due_at f a = ap (on_bundle f) (sym a.encoded) ∙ accepted_due f a.tree a.within a.no_circle

reporting_due : {s : List ℕ} (a : Accepted s) → reporting s ≡ result (bytes (report_of a))
unfolding reporting report
reporting_due a = due_at (λ b. result (report b)) a

pub renumbering_due : {s : List ℕ} → Accepted s → renumbering s ≡ result (renumber_bytes body s)
unfolding renumbering
renumbering_due a = due_at (λ b. result (renumber_bytes body (bundle_bytes b))) a ∙ ap (λ t. result (renumber_bytes body t)) a.encoded

-- Accepted bytes are whole records.

pub bytes_below : (s : List ℕ) → Bytes s → Below 256 s
bytes_below [] ok = tt
bytes_below (b ∷ s) ok = (ok 0, bytes_below s (λ i. ok (suc i)))

pub accepted_whole : {s : List ℕ} → Accepted s → Whole body s
accepted_whole a = subst (Whole body) a.encoded (bundle_whole a.tree a.within)

-- two bundles are renumbered to one exactly where some exchange that sends 0 to 0 turns one into the other
pub renumbered_alike : {s t : List ℕ} → Bytes s → Bytes t → Accepted s → Accepted t → (renumbering s ≡ renumbering t) ↔ Alike (map_bytes body) s t
renumbered_alike {s} {t} s-bytes t-bytes a b = (λ e. same.0 (inner e), λ k. renumbering_due a ∙ ap result (same.1 k) ∙ sym (renumbering_due b))
  where
    same : (renumber_bytes body s ≡ renumber_bytes body t) ↔ Alike (map_bytes body) s t
    same = canonical_bytes body s t (bytes_below s s-bytes) (bytes_below t t-bytes) (accepted_whole b)

    inner : renumbering s ≡ renumbering t → renumber_bytes body s ≡ renumber_bytes body t
    inner e = let p = renumbering_due a in let q = renumbering_due b in cc

-- a map of names that keeps the limits and the circles keeps acceptance
mapped_accepted : (f : ℕ → ℕ) {s : List ℕ} (a : Accepted s) → BundleOk (map_bundle f a.tree) → circles (map_bundle f a.tree) ≡ circles a.tree
    → Accepted (map_bytes body f s)
mapped_accepted f a ok same = record {
  tree = map_bundle f a.tree;
  within = ok;
  no_circle = same ∙ a.no_circle;
  encoded = sym (bundle_map_bytes f a.tree a.within) ∙ ap (map_bytes body f) a.encoded;
}

module _ {s : List ℕ} (bound : Bytes s) (a : Accepted s) where
  -- the names in the bytes are those of the tree
  found : names (items body s) ≡ bundle_names a.tree
  found = ap (λ t. names (items body t)) (sym a.encoded) ∙ ap names (bundle_items_lem a.tree a.within) ∙ bundle_names_lem a.tree

  in_bytes : Names (names (items body s))
  in_bytes = names_bytes_lem body s (bytes_below s bound)

  in_tree : Names (bundle_names a.tree)
  in_tree = subst Names found in_bytes

  -- An exchange of names.
  module _ (f : Exchange) where
    pub exchanged_accepted : Accepted (map_bytes body f.to s)
    exchanged_accepted = mapped_accepted f.to a (mapped_within f.to f.below a.tree a.within) (circles_exchange f a.tree in_tree)

    pub exchanged_report : reporting (map_bytes body f.to s) ≡ result (bytes (map_names f.to (report_of a)))
    unfolding exchanged_accepted mapped_accepted
    exchanged_report = reporting_due exchanged_accepted ∙ ap (λ d. result (bytes d)) (report_exchange f a.tree in_tree)

  -- The renumbering.

  within_limits : BundleOk (map_bundle (numbering_of s) a.tree)
  within_limits =
      subst BundleOk (bundle_same σ.by.to (numbering_of s) a.tree (λ n m. σ.agrees n (subst (Memᴰ n) (sym found) m)))
      (mapped_within σ.by.to σ.by.to_below a.tree a.within)
    where
      σ : Extension (names (items body s))
      σ = extension (names (items body s)) in_bytes

  pub renumbered_accepted : Accepted (renumber_bytes body s)
  renumbered_accepted =
      mapped_accepted (numbering_of s) a within_limits
      (subst (λ xs. circles (map_bundle (numbering xs) a.tree) ≡ circles a.tree) (sym found) (circles_renumbered a.tree in_tree))

  pub renumbered_report : reporting (renumber_bytes body s) ≡ result (bytes (map_names (numbering_of s) (report_of a)))
  unfolding renumbered_accepted mapped_accepted
  renumbered_report =
      reporting_due renumbered_accepted
      ∙ ap (λ d. result (bytes d))
      (subst (λ xs. report_items (violations (map_bundle (numbering xs) a.tree)) ≡ map_names (numbering xs) (report_of a)) (sym found)
      (report_renumbered a.tree in_tree))
