-- Words ask for one thing only.
use Prim.Native.Nat.{ℕ}
use mathlib.Core.Bool.{cond}
use mathlib.Core.List.{List, [], ◌∷◌}
use mathlib.Core.Logic.{inl, inr}
use Rattle.std.specs.Prelude.{Option, Some, None}
use mathlib.Core.Path.{◌≡◌, refl, sym, ap, ap₂, ◌∙◌}
use lib.Dec.{eqb}
use lib.ListN.{length, get_or}
use Rattle.decimal.specs.Decimal.{value_from, Says}
use Rattle.std.proofs.Common.{rules}
use Rattle.words.specs.declared.Order.{Order}
use Rattle.words.specs.declared.Order.TheVariants.{Report, Renumber, Chain, Followed, Size, Value, Help}
use Rattle.words.specs.Words.{IsHelp, AsksNothing, Asks, AsksOnly}

-- what the words ask for if they ask for something, by their count and the first of them
read : List (List ℕ) → Order
read [] = Report
read (w ∷ []) = cond (eqb (get_or w 0 0) 114) Renumber Help
read (w ∷ x ∷ []) = cond (eqb (length w) 4) (Size (value_from 0 x)) (Value (value_from 0 x))
read (w ∷ x ∷ y ∷ zs) = cond (eqb (length w) 5) (Chain (value_from 0 x) (value_from 0 y)) (Followed (value_from 0 x) (value_from 0 y))

reads_help : {w : List ℕ} → IsHelp w → read (w ∷ []) ≡ Help
unfolding read
reads_help (inl e) = ap (λ w. read (w ∷ [])) e
reads_help (inr (inl e)) = ap (λ w. read (w ∷ [])) e
reads_help (inr (inr e)) = ap (λ w. read (w ∷ [])) e

module _ (ws : List (List ℕ)) where
  reads : (o : Order) → Asks ws (Some o) → read ws ≡ o
  unfolding read
  reads Report a = ap read a
  reads Renumber a = ap read a
  reads (Chain m n) a = ap read a.all ∙ ap₂ Chain a.says_from.value a.says_to.value
  reads (Followed m n) a = ap read a.all ∙ ap₂ Followed a.says_from.value a.says_to.value
  reads (Size n) a = ap read a.all ∙ ap Size a.says.value
  reads (Value n) a = ap read a.all ∙ ap Value a.says.value
  reads Help a = ap read a.all ∙ reads_help a.is_help

  nothing_else : AsksNothing ws → (p : Order) → Asks ws (Some p) → ⊥
  nothing_else a Report b = a.some b
  nothing_else a Renumber b = a.renumber b
  nothing_else a (Chain m n) b = a.chain m n b
  nothing_else a (Followed m n) b = a.followed m n b
  nothing_else a (Size n) b = a.size n b
  nothing_else a (Value n) b = a.value n b
  nothing_else a Help b = a.help b

  asks_one : (o p : Option Order) → Asks ws o → Asks ws p → p ≡ o
  asks_one None None a b = refl
  asks_one None (Some p) a b = absurd (nothing_else a p b)
  asks_one (Some o) None a b = absurd (nothing_else b o a)
  asks_one (Some o) (Some p) a b = ap Some (sym (reads p b) ∙ reads o a)

  -- so what the words ask for is all they ask for
  pub asks_only : (o : Option Order) → Asks ws o → AsksOnly ws o
  asks_only o a p b = asks_one o p a b

-- a word behind the first that says no number
pub no_number : (w x : List ℕ) → ((n : ℕ) → Says x n → ⊥) → AsksNothing (w ∷ x ∷ [])
no_number w x none = search rules

pub no_names : (w x y : List ℕ) → ((n : ℕ) → Says x n → ⊥) → AsksNothing (w ∷ x ∷ y ∷ [])
no_names w x y none = search rules
