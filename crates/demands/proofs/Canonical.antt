-- Demand 3 of the results themselves: what follows from `RenumberedOf`.
use Prim.Native.Nat.{ℕ}
use mathlib.Core.Logic.{◌↔◌}
use mathlib.Core.Path.{◌≡◌, sym, ap, subst, ◌∙◌}
use mathlib.Core.List.{List}
use Rattle.names.specs.Names.{numbering, Alike}
use Rattle.names.specs.Documents.{Item, bytes, names, map_names}
use Rattle.names.specs.Records.{items, map_bytes, renumber_bytes}
use Rattle.names.proofs.Records.{canonical_bytes}
use Rattle.meaning.specs.Kinds.{body}
use Rattle.meaning.specs.Tree.{Bundle}
use Rattle.meaning.specs.Encoding.{bundle_items, bundle_bytes}
use Rattle.meaning.specs.Within.{BundleOk}
use Rattle.meaning.specs.Violations.{violations}
use Rattle.meaning.specs.Report.{report_items}
use Rattle.meaning.specs.Calls.{result, Accepted}
use Rattle.meaning.specs.Due.{reporting}
use Rattle.meaning.proofs.Flat.{bundle_items_lem}
use Rattle.meaning.proofs.RenumberingLaws.{bytes_below, accepted_whole, renumbered_accepted, renumbered_report}
use Rattle.refusals.specs.Numbers.{Keeps}
use Rattle.refusals.proofs.Encoded.{bundle_bytes_lem}
use Rattle.demands.specs.Demands.{numbering_of, RenumberedOf, AlikeBundles}
use Rattle.demands.proofs.Kept.{accepted_kept, kept_accepted}

-- items with their names renumbered
abbrev renumbered : List Item → List ℕ
renumbered d = bytes (map_names (numbering (names d)) d)

-- a flat scan over the bytes finds the items of the tree's records
scanned : {s : List ℕ} {c : Bundle} → Keeps s c → items body s ≡ bundle_items c
scanned {c = c} k = ap (items body) (sym k.bundle.layout) ∙ bundle_items_lem c k.bundle.limits

module _ {s : List ℕ} {c : Bundle} (k : Keeps s c) (xs : List ℕ) (e : RenumberedOf c xs) where
  by_scan : xs ≡ renumber_bytes body s
  by_scan = e ∙ ap renumbered (sym (scanned k))

  -- the renumbered bundle is accepted too
  pub keeps_too : (d : Bundle) × Keeps xs d
  keeps_too = let y = subst Accepted (sym by_scan) (renumbered_accepted (bundle_bytes_lem k.bundle) (kept_accepted k)) in (y.tree, accepted_kept y)

  -- its report is the bundle's with each name put through the numbering
  pub report_too : reporting xs ≡ result (bytes (map_names (numbering_of c) (report_items (violations c))))
  unfolding kept_accepted
  report_too =
      ap reporting by_scan ∙ renumbered_report (bundle_bytes_lem k.bundle) (kept_accepted k)
      ∙ ap (λ d. result (bytes (map_names (numbering (names d)) (report_items (violations c))))) (scanned k)

-- two bundles are renumbered to one exactly where they are alike
module _ {s t : List ℕ} {c d : Bundle} (k : Keeps s c) (l : Keeps t d) where
  alike_trees : Alike (map_bytes body) s t ↔ AlikeBundles c d
  alike_trees = (
    λ a. record { by = a.by; zero_stays = a.zero_stays; turns = ap (λ i. bytes (map_names a.by.to i)) (sym (scanned k)) ∙ a.turns ∙ sym l.bundle.layout },
    λ a. record { by = a.by; zero_stays = a.zero_stays; turns = ap (λ i. bytes (map_names a.by.to i)) (scanned k) ∙ a.turns ∙ l.bundle.layout },
  )

  pub equal_results : (xs ys : List ℕ) → RenumberedOf c xs → RenumberedOf d ys → (xs ≡ ys) ↔ AlikeBundles c d
  equal_results xs ys e f =
      let same = canonical_bytes body s t (bytes_below s (bundle_bytes_lem k.bundle)) (bytes_below t (bundle_bytes_lem l.bundle)) (accepted_whole (kept_accepted l)) in
      let p = by_scan k xs e in
      let q = by_scan l ys f in
      (λ z. alike_trees.0 (same.0 (sym p ∙ z ∙ q)), λ a. p ∙ same.1 (alike_trees.1 a) ∙ sym q)

-- the result that is due to the call is such a one
pub renumbered_due : (b : Bundle) → BundleOk b → RenumberedOf b (renumber_bytes body (bundle_bytes b))
renumbered_due b o = ap renumbered (bundle_items_lem b o)
