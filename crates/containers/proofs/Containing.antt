-- Whether a struct of a name holds an enum, by where its fields lead.
--     last_held_lem                  the last field that is a TypeRef to the enum
--     contains_is                    one definition
--     containing_start, -here, -next, -end   the walk over the definitions
use Rattle.std.specs.Prelude as code
use Rattle.std.specs.Prelude.{is_some}
use Prim.Native.Nat.{ℕ, suc, ◌+◌, ◌≤◌, ◌<◌, suc-le-suc}
use native.Mathlib.Omega.{arith}
use native.Mathlib.Decide.{ℕ_discrete}
use native.Mathlib.Numerals.{add-one}
use mathlib.Core.Bool.{Bool, true, false, cond, ◌||◌, ◌&&◌}
use mathlib.Core.Logic.{by_cases}
use mathlib.Core.Option
use mathlib.Core.Option.{Option, none as nothing, some}
use mathlib.Core.Path.{◌≡◌, refl, sym, ap, ◌∙◌}
use mathlib.Core.List.{List, [], ◌∷◌, map}
use lib.Dec.{eqb}
use borrow.Author.Tests.{eq-eqb, ne_eqb, eqb-false}
use lib.ListN.{length, length-map, get_or, drop, drop_of_length-le}
use Rattle.names.specs.Names.{place}
use Rattle.meaning.specs.Tree.{Member, Definition, Bundle}
use Rattle.meaning.specs.Lists.{any, last_index, or_else, holds}
use Rattle.meaning.specs.Lookup.{definition_of, member_type, as_type_ref}
use Rattle.meaning.specs.Violations.{is_enum_referencing_same_container_struct}
use Rattle.bundle.specs.Definitions.{type_at, bundle_of, definition_at, Table}
use Rattle.bundle.proofs.LookupLaws.{from_place, placed_at}
use Rattle.fields.specs.declared.Place.{Place}
use Rattle.fields.specs.Shapes.{PlacedAt}
use Rattle.fields.specs.Sought.{refers}
use Rattle.field_index.specs.Noted.{index_shown, lead_shown, lead_is, fields_at}
use Rattle.field_index.proofs.Order.{holds_fields}
use Rattle.containers.specs.Containers.{LeadFor, holds_ref, contains_at}
use Rattle.containers.proofs.Keeping.{same_name}

-- a field leads to the first definition of a name exactly where it refers to the name
module _ {s : List ℕ} {e x : ℕ} (l : LeadFor s e x) where
  lead_refers : (o : Option ℕ) → eqb x (lead_shown (bundle_of s) o) ≡ holds (eqb e) o
  lead_refers nothing = ne_eqb x 0 (omega (arith, l.number))
  lead_refers (some y) =
      by_cases (ℕ_discrete e y) (λ (p : e ≡ y). eq-eqb x (definition_of (bundle_of s) y + 1) (l.number ∙ ap (λ n. definition_of (bundle_of s) n + 1) p) ∙ sym (eq-eqb e y p))
      (λ (p : ¬ (e ≡ y)). ne_eqb x (definition_of (bundle_of s) y + 1) (λ q. p (same q)) ∙ sym (ne_eqb e y p))
    where
      same : x ≡ definition_of (bundle_of s) y + 1 → e ≡ y
      same q =
          let at : definition_of (bundle_of s) y ≡ definition_of (bundle_of s) e = omega (arith, q, l.number) in
          sym (same_name (map (λ d. d.name) (bundle_of s).definitions) y e at (omega (arith, l.defined, length-map (bundle_of s).definitions (λ d. d.name))))

  pub last_held_lem : (ms : List Member) → last_index (lead_is (bundle_of s) x) ms ≡ last_index (refers e) ms
  last_held_lem [] = refl
  last_held_lem (m ∷ ms) = rw (last_held_lem ms, lead_refers (as_type_ref (member_type m))) refl

-- some element passes exactly where there is a last one that does
any_last : {A : Type 0} (p : A → Bool) (xs : List A) → any p xs ≡ is_some (index_shown (last_index p xs))
any_last p [] = refl
any_last p (x ∷ xs) = go (p x) (any p xs) (last_index p xs) (any_last p xs)
  where
    go : (t u : Bool) (o : Option ℕ) → u ≡ is_some (index_shown o) → (t || u) ≡ is_some (index_shown (or_else (Option.map suc o) (cond t (some 0) nothing)))
    go true u nothing e = refl
    go true u (some i) e = refl
    go false u nothing e = e
    go false u (some i) e = e

-- definition i, whose last field that leads to the enum is known
module _ {s places : List ℕ} {i e x y : ℕ} (l : LeadFor s e x) {p : Place} (g : PlacedAt s places i p) where
  pub contains_is : p.name ≡ y → {r : code.Option ℕ} → r ≡ index_shown (last_index (lead_is (bundle_of s) x) (fields_at s places i)) → is_some r ≡ contains_at s places i e y
  contains_is q {r} h =
      rw (← g.name, eq-eqb p.name y q)
      (ap is_some (h ∙ ap index_shown (last_held_lem l (fields_at s places i)))
      ∙ sym (any_last (refers e) (fields_at s places i))
      ∙ sym (holds_fields (any (refers e)) refl (type_at 24 s (get_or places i 0))))

-- the definition is a struct of the name x with a field that is a TypeRef to e
abbrev contains : ℕ → ℕ → Definition → Bool
contains e x d = eqb d.name x && holds_ref e d.type

-- none of the first i definitions is one
pub record Containing (b : Bundle) (e x i : ℕ) : Type 0 where
  pub bound : i ≤ length b.definitions
  pub rest : any (contains e x) (drop i b.definitions) ≡ any (contains e x) b.definitions

-- none before the first of the name x is
pub containing_start : (b : Bundle) (e x : ℕ) → Containing b e x (definition_of b x)
containing_start b e x = let h = skipped b.definitions in record { bound = h.0; rest = h.1 }
  where
    skipped : (ds : List Definition)
        → (place (map (λ d. d.name) ds) x ≤ length ds) × (any (contains e x) (drop (place (map (λ d. d.name) ds) x) ds) ≡ any (contains e x) ds)
    skipped [] = (omega arith, refl)
    skipped (d ∷ ds) = go (eqb x d.name) refl (skipped ds)
      where
        go : (t : Bool) → eqb x d.name ≡ t
            → (place (map (λ d. d.name) ds) x ≤ length ds) × (any (contains e x) (drop (place (map (λ d. d.name) ds) x) ds) ≡ any (contains e x) ds)
            → (cond t 0 (suc (place (map (λ d. d.name) ds) x)) ≤ suc (length ds))
            × (any (contains e x) (drop (cond t 0 (suc (place (map (λ d. d.name) ds) x))) (d ∷ ds)) ≡ any (contains e x) (d ∷ ds))
        go true q h = (omega arith, refl)
        go false q h = (suc-le-suc h.0, rw (ne_eqb d.name x (λ p. eqb-false x d.name q (sym p))) h.1)

module _ {s : List ℕ} {n : ℕ} {places : List ℕ} (t : Table s n places) {e x i : ℕ} (c : Containing (bundle_of s) e x i) where
  pub containing_end : n ≤ i → false ≡ is_enum_referencing_same_container_struct (bundle_of s) e x
  unfolding is_enum_referencing_same_container_struct
  containing_end h = sym (ap (any (contains e x)) (drop_of_length-le (bundle_of s).definitions {i = i} (omega (arith, t.count)))) ∙ c.rest

  module _ (h : i < n) where
    here : any (contains e x) (bundle_of s).definitions
        ≡ (contains_at s places i e x || any (contains e x) (drop (i + 1) (bundle_of s).definitions))
    unfolding definition_at
    here =
        sym c.rest
        ∙ ap (any (contains e x)) (from_place (bundle_of s).definitions i (placed_at t i h).is)
        ∙ rw add-one

    pub containing_here : true ≡ contains_at s places i e x → true ≡ is_enum_referencing_same_container_struct (bundle_of s) e x
    unfolding is_enum_referencing_same_container_struct
    containing_here q = sym (here ∙ ap (◌|| any (contains e x) (drop (i + 1) (bundle_of s).definitions)) (sym q))

    pub containing_next : false ≡ contains_at s places i e x → Containing (bundle_of s) e x (i + 1)
    containing_next q = record {
      bound = omega (arith, t.count);
      rest = sym (here ∙ ap (◌|| any (contains e x) (drop (i + 1) (bundle_of s).definitions)) (sym q));
    }
