-- The walk for circles, with a mark for each definition.
use Rattle.std.specs.Prelude.{ℕ, suc, ◌≤◌, Bool, true, false, ◌≡◌, length, get_or}
use mathlib.Core.List.{List, [], ◌∷◌, Memᴰ}
use Rattle.meaning.specs.Tree.{Bundle}
use Rattle.meaning.specs.Limits.{definition_limit}
use Rattle.acceptance.specs.declared.Mark.{Mark}
use Rattle.acceptance.specs.declared.Mark.TheVariants.{Unseen, OnWay, Walked}
use Rattle.meaning.specs.Circle.{leads_to, Leads}

-- every sequence of steps from definition i ends
pub data Ends (b : Bundle) : ℕ → Type 0 where
  ends : {i : ℕ} → ((j : ℕ) → Memᴰ j (leads_to b i) → Ends b j) → Ends b i

-- how many definitions are not walked and not on the way
unfoldable pub unwalked : List Mark → ℕ
unwalked [] = 0
unwalked (Unseen ∷ ms) = suc (unwalked ms)
unwalked (OnWay ∷ ms) = unwalked ms
unwalked (Walked ∷ ms) = unwalked ms

-- the mark of definition i
abbrev pub mark_at : List Mark → ℕ → Mark
mark_at marks i = get_or marks i Unseen

-- the marks where the definitions ds are to be walked: what is walked ends, and what is on the way leads to each of ds
pub record Marks (b : Bundle) (ds : List ℕ) (marks : List Mark) : Type 0 where
  pub size : length marks ≡ definition_limit
  pub walked : (i : ℕ) → mark_at marks i ≡ Walked → Ends b i
  pub way : (i d : ℕ) → mark_at marks i ≡ OnWay → Memᴰ d ds → Leads b i d

-- the definitions ds were walked, and every sequence of steps from them ends
pub record Followed (b : Bundle) (ds : List ℕ) (before after : List Mark) : Type 0 where
  pub end : (d : ℕ) → Memᴰ d ds → Ends b d
  pub size : length after ≡ definition_limit
  pub walked : (i : ℕ) → mark_at after i ≡ Walked → Ends b i
  pub way : (i : ℕ) → mark_at after i ≡ OnWay → mark_at before i ≡ OnWay
  pub left : unwalked after ≤ unwalked before

-- the answer to a walk over the definitions ds: false where some definition leads to itself
pub data Decided (b : Bundle) (ds : List ℕ) (before after : List Mark) : Bool → Type 0 where
  fine : Followed b ds before after → Decided b ds before after true
  loops : {i : ℕ} → Leads b i i → Decided b ds before after false
