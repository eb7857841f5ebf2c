-- Where the types of fields lead.
--     lead_none, lead_some   what is noted of a type
--     first_or_count, lead_few   the number that is noted is small
use Rattle.std.specs.Prelude.{Option, Some, None}
use Rattle.std.specs.Option.{unwrap_or}
use Prim.Native.Nat.{ℕ, suc, ◌+◌, ◌≤◌}
use native.Mathlib.Omega.{arith}
use mathlib.Core.Bool.{Bool, true, false, cond}
use mathlib.Core.List.{List, [], ◌∷◌, map}
use mathlib.Core.Path.{◌≡◌, sym, ap, ◌∙◌}
use lib.Dec.{eqb}
use lib.ListN.{length, length-map}
use Rattle.names.specs.Names.{place}
use Rattle.meaning.specs.Lookup.{as_type_ref, definition_of}
use Rattle.bundle.specs.View.{FirstOf}
use Rattle.bundle.specs.Definitions.{type_at, bundle_of, Table}
use Rattle.fields.specs.declared.Shape.{Shape}
use Rattle.fields.specs.declared.Shape.TheVariants as shape
use Rattle.fields.specs.Shapes.{ShapeOf, ref_shown}
use Rattle.fields.proofs.ShapeLaws.{shape_ref, no_ref}
use Rattle.field_index.specs.Noted.{lead_shown}

module _ (at : ℕ) (s : List ℕ) (r : Shape) (g : ShapeOf 23 s at r) where
  pub lead_none : ((n : ℕ) → r ≡ shape.TypeRef n → ⊥) → 0 ≡ lead_shown (bundle_of s) (as_type_ref (type_at 23 s at))
  lead_none o = ap (lead_shown (bundle_of s)) (sym (no_ref 23 at s r o g))

  pub lead_some : {x i : ℕ} → r ≡ shape.TypeRef x → i ≡ definition_of (bundle_of s) x → i + 1 ≡ lead_shown (bundle_of s) (as_type_ref (type_at 23 s at))
  lead_some e q = ap (λ k. k + 1) q ∙ ap (lead_shown (bundle_of s)) (sym (shape_ref 23 at s r g ∙ ap ref_shown e))

place_few : (xs : List ℕ) (n : ℕ) → place xs n ≤ length xs
place_few [] n = omega arith
place_few (x ∷ xs) n = go (eqb n x) (place_few xs n)
  where
    go : (b : Bool) → place xs n ≤ length xs → cond b 0 (suc (place xs n)) ≤ suc (length xs)
    go true l = omega arith
    go false l = omega arith

-- the first definition of a name, or the count of definitions
module _ {s : List ℕ} {count : ℕ} {places : List ℕ} (t : Table s count places) (x : ℕ) (o : Option ℕ) (f : FirstOf (bundle_of s) x o) where
  pub first_or_count : unwrap_or o count ≡ definition_of (bundle_of s) x
  first_or_count = go o f
    where
      go : (o : Option ℕ) → FirstOf (bundle_of s) x o → unwrap_or o count ≡ definition_of (bundle_of s) x
      go (Some i) f = f.0
      go None f = omega (arith, f, t.count, place_few (map (λ d. d.name) (bundle_of s).definitions) x, length-map (bundle_of s).definitions (λ d. d.name))

  pub lead_few : unwrap_or o count ≤ 256
  lead_few = omega (arith, first_or_count, t.count, t.placed.room, place_few (map (λ d. d.name) (bundle_of s).definitions) x, length-map (bundle_of s).definitions (λ d. d.name))
