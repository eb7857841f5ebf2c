-- The records of a definition, and the definitions to which records lead.
use Prim.Native.Nat.{ℕ, ◌+◌, ◌-◌, ◌≤◌, ◌<◌}
use mathlib.Core.Bool.{Bool, true, false, cond}
use mathlib.Core.Path.{◌≡◌, refl, ap, ◌∙◌}
use mathlib.Core.List.{List, [], ◌∷◌, ◌++◌}
use lib.Dec.{ltb}
use lib.ListN.{get_or}
use borrow.Author.Tests.{lt-ltb, le-ltb}
use Rattle.meaning.specs.Lookup.{count, definition_of}
use Rattle.meaning.specs.Tree.{Definition, Bundle}
use Rattle.meaning.specs.Circle.{resolve, leads_to}
use Rattle.meaning.proofs.Lists.{get_elem?_map}
use Rattle.bundle.specs.Definitions.{type_at, definition_at, bundle_of, Table}
use Rattle.bundle.proofs.LookupLaws.{placed_at, place_ends}
use Rattle.scan.specs.Parts.{Part, lead, type_parts}
use Rattle.scan.specs.Scan.{Records, lead_to}
use Rattle.scan.proofs.Flat.{Flat, type_flat}
use Rattle.scan.proofs.PartLaws.{type_names_lem}

-- one after another
pub resolve_append : (b : Bundle) (ns ms : List ℕ) → resolve b (ns ++ ms) ≡ resolve b ns ++ resolve b ms
resolve_append b [] ms = refl
resolve_append b (n ∷ ns) ms = rw (resolve_append b ns ms) (go (ltb (definition_of b n) (count b)))
  where
    go : (t : Bool) → cond t (definition_of b n ∷ resolve b ns ++ resolve b ms) (resolve b ns ++ resolve b ms)
        ≡ cond t (definition_of b n ∷ resolve b ns) (resolve b ns) ++ resolve b ms
    go true = refl
    go false = refl

-- one that leads, and those behind it
module _ (s : List ℕ) (n : ℕ) {j : ℕ} (ps : List Part) (q : j ≡ definition_of (bundle_of s) n) where
  pub lead_none : count (bundle_of s) ≤ j → lead_to s (lead n ∷ ps) ≡ lead_to s ps
  lead_none h = rw (le-ltb (definition_of (bundle_of s) n) (count (bundle_of s)) (rw (← q) h))

  pub lead_one : j < count (bundle_of s) → lead_to s (lead n ∷ ps) ≡ j ∷ lead_to s ps
  lead_one h = rw (lt-ltb (definition_of (bundle_of s) n) (count (bundle_of s)) (rw (← q) h), ← q)

-- the type of definition i
module _ {s : List ℕ} {n : ℕ} {places : List ℕ} (t : Table s n places) {i : ℕ} (h : i < n) where
  pub definition_flat : Flat s (get_or places i 0) (get_or places (i + 1) 0 - 3) (type_parts (type_at 24 s (get_or places i 0)))
  definition_flat = type_flat s 24 (get_or places i 0) (get_or places (i + 1) 0 - 3) (place_ends t i h).1

  pub definition_records_lem : Records s (get_or places i 0) (get_or places (i + 1) 0 - 3)
  definition_records_lem = record { parts = type_parts (type_at 24 s (get_or places i 0)); run = definition_flat.run; bound = definition_flat.bound }

  -- where it leads
  pub definition_lead : lead_to s (type_parts (type_at 24 s (get_or places i 0))) ≡ leads_to (bundle_of s) i
  unfolding leads_to definition_at
  definition_lead =
      ap (resolve (bundle_of s)) (type_names_lem (type_at 24 s (get_or places i 0)))
      ∙ rw (get_elem?_map (λ (d : Definition). d.type) (bundle_of s).definitions i, (placed_at t i h).is)
