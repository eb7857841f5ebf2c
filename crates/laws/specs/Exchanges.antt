-- An exchange of names changes nothing but the names, 0 included; and bytes are accepted exactly where they are those of a bundle.
use Rattle.std.specs.Prelude.{ℕ, List, [], map, ◌↔◌, ◌≡◌}
use Rattle.names.specs.Names.{Names, Exchange, Alike}
use Rattle.names.specs.Documents.{bytes, names, map_names}
use Rattle.names.specs.Records.{map_bytes}
use Rattle.meaning.specs.Kinds.{body}
use Rattle.meaning.specs.Tree.{Bundle}
use Rattle.meaning.specs.Encoding.{Bytes, bundle_items}
use Rattle.meaning.specs.Renumbering.{bundle_names, map_bundle, map_violation}
use Rattle.meaning.specs.Violations.{Violation, violations}
use Rattle.meaning.specs.Report.{report_items}
use Rattle.meaning.specs.Calls.{result, acceptance, Accepted}
use Rattle.meaning.specs.Due.{reporting, renumbering}

-- The names in the bytes are those of the tree, and of the violations.
pub record Named : Type 0 where
  -- the names in a bundle's encoding are those of its tree, front to back
  pub standing : (b : Bundle) → names (bundle_items b) ≡ bundle_names b
  -- and put through a map they are those of the tree put through it
  pub mapped : (f : ℕ → ℕ) (b : Bundle) → map_names f (bundle_items b) ≡ bundle_items (map_bundle f b)
  -- so it is for the violations in a report
  pub reported : (f : ℕ → ℕ) (vs : List Violation) → map_names f (report_items vs) ≡ report_items (map (map_violation f) vs)

pub record Exchanges : Type 0 where
  -- what is due to a call that asks whether the bytes are accepted
  pub accepted : (s : List ℕ) → Bytes s → (acceptance s ≡ result []) ↔ Accepted s
  -- the violations of a bundle with its names exchanged are its violations with their names exchanged
  pub found : (b : Bundle) → Names (bundle_names b) → (f : Exchange) → violations (map_bundle f.to b) ≡ map (map_violation f.to) (violations b)
  -- the bundle is accepted with its names exchanged
  pub taken : (s : List ℕ) → Accepted s → (f : Exchange) → Accepted (map_bytes body f.to s)
  -- and its report has the names exchanged
  pub reported : (s : List ℕ) (a : Accepted s) (f : Exchange)
      → reporting (map_bytes body f.to s) ≡ result (bytes (map_names f.to (report_items (violations a.tree))))
  -- two bundles are renumbered to one exactly where some exchange that sends 0 to 0 turns one into the other
  pub alike : (s t : List ℕ) → Accepted s → Accepted t → (renumbering s ≡ renumbering t) ↔ Alike (map_bytes body) s t
