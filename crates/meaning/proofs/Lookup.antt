-- The lookups as loops over the definitions.
--     find_type_first     the first definition of a name, by going through the definitions
use Prim.Native.Nat.{ℕ, suc}
use mathlib.Core.Path.{◌≡◌, refl, sym}
use mathlib.Core.List.{List, [], ◌∷◌, map}
use mathlib.Core.Bool.{Bool, true, false, cond}
use mathlib.Core.Option.{Option, none, some}
use lib.Dec.{eqb}
use lib.ListN.{get_elem?}
use borrow.Author.Tests.{eqb-true, eqb-false, eq-eqb, ne_eqb}
use Rattle.names.specs.Names.{place}
use Rattle.meaning.specs.Tree.{Ty, Definition, Bundle}
use Rattle.meaning.specs.Lookup.{find_type}

eqb_sym : (m n : ℕ) → eqb m n ≡ eqb n m
eqb_sym m n = go (eqb n m) refl
  where
    go : (t : Bool) → eqb n m ≡ t → eqb m n ≡ t
    go true e = eq-eqb m n (sym (eqb-true n m e))
    go false e = ne_eqb m n (λ q. eqb-false n m e (sym q))

-- the type of the first definition of the name n among the definitions
abbrev pub first_type : ℕ → List Definition → Option Ty
first_type n [] = none
first_type n (d ∷ ds) = cond (eqb d.name n) (some d.type) (first_type n ds)

first_place : (n : ℕ) (ds : List Definition) → get_elem? (map (λ d. d.type) ds) (place (map (λ d. d.name) ds) n) ≡ first_type n ds
first_place n [] = refl
first_place n (d ∷ ds) = rw (eqb_sym n d.name) (go (eqb d.name n) (first_place n ds))
  where
    go : (t : Bool) → get_elem? (map (λ d. d.type) ds) (place (map (λ d. d.name) ds) n) ≡ first_type n ds
        → get_elem? (map (λ d. d.type) (d ∷ ds)) (cond t 0 (suc (place (map (λ d. d.name) ds) n))) ≡ cond t (some d.type) (first_type n ds)
    go true ih = refl
    go false ih = ih

pub find_type_first : (b : Bundle) (n : ℕ) → find_type b n ≡ first_type n b.definitions
unfolding find_type
find_type_first b n = first_place n b.definitions
