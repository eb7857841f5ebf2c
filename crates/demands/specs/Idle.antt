-- The idle versions that document 01 names ("How much each contract tells") do not meet the demands.
use Rattle.std.specs.Prelude.{ℕ, List, [], ◌∷◌, ◌↔◌, ◌≡◌}
use Rattle.names.specs.Documents.{bytes, map_names}
use Rattle.meaning.specs.Tree.{Bundle}
use Rattle.meaning.specs.Encoding.{bundle_items, bundle_bytes}
use Rattle.meaning.specs.Report.{report_items}
use Rattle.meaning.specs.Calls.{accepted, refused_with}
use Rattle.refusals.specs.Numbers.{Keeps}
use Rattle.demands.specs.Demands.{Demand1, Nothing, ReportOf, ChainOf, numbering_of, AlikeBundles}

-- the results of f are equal exactly when the bundles are alike, as demand 3 says of a renumbering
abbrev pub Canonical : (Bundle → List ℕ) → Type 0
Canonical f = (s t : List ℕ) (c d : Bundle) → Keeps s c → Keeps t d → (f c ≡ f d) ↔ AlikeBundles c d

pub record Idle : Type 0 where
  -- a checker that turns down every set
  pub all_turned_down : ((s : List ℕ) → (k : ℕ) × Demand1 Nothing s [] [] (refused_with k)) → ⊥
  -- a checker that takes a header count unlike its records: one definition, and none is there
  pub count_unlike : (n : ℕ) → Demand1 Nothing (0x60 ∷ 1 ∷ 0 ∷ 0 ∷ 0 ∷ 0 ∷ 0 ∷ []) [] [] (accepted n) → ⊥
  -- a report always empty
  pub empty_report : ((s : List ℕ) (b : Bundle) → Keeps s b → ReportOf b (bytes (report_items []))) → ⊥
  -- a search that says none unlooked
  pub no_chain : ((from to : ℕ) (s : List ℕ) (b : Bundle) → Keeps s b → ChainOf from to b []) → ⊥
  -- of the renumberings, one that copies and one that writes one fixed bundle; the one that is due does meet it
  pub copy : Canonical bundle_bytes → ⊥
  pub one_for_all : (xs : List ℕ) → Canonical (λ b. xs) → ⊥
  pub renumbering : Canonical (λ b. bytes (map_names (numbering_of b) (bundle_items b)))
