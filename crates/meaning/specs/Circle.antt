-- Where TypeRefs lead, and whether they circle (document 01, "Bundle records": refusal 8).
use Rattle.std.specs.Prelude.{ℕ, zero, suc, Bool, false, not, cond, ltb}
use mathlib.Core.List.{List, [], ◌∷◌, ◌++◌, Memᴰ}
use Rattle.std.proofs.Math.Option.{Option, none, some}
use Rattle.meaning.specs.Tree.{Ty, primitive, type_ref, struct, union, enum, array, size_union, Member, member, Members, more, Bundle}
use Rattle.meaning.specs.Lists.{all}
use Rattle.meaning.specs.Lookup.{count, type_at, definition_of}

abbrev mutual
  -- the names that a type leads to: those of the TypeRefs anywhere inside
  pub type_names : Ty → List ℕ
  type_names (primitive k) = []
  type_names (type_ref n) = n ∷ []
  type_names (struct a ms) = type_names_of_members ms
  type_names (union a ms) = type_names_of_members ms
  type_names (enum a tag ms) = type_names_of_members ms
  type_names (array a jagged size element) = type_names element
  type_names (size_union a ms) = type_names_of_members ms

  -- those of a member
  pub type_names_of_member : Member → List ℕ
  type_names_of_member (member n v t) = type_names t

  -- those of all members
  pub type_names_of_members : Members → List ℕ
  type_names_of_members Members.none = []
  type_names_of_members (more m ms) = type_names_of_member m ++ type_names_of_members ms

-- the numbers of the definitions that the names lead to: of each the first of its name, or nowhere
abbrev pub resolve : Bundle → List ℕ → List ℕ
resolve b [] = []
resolve b (n ∷ ns) = cond (ltb (definition_of b n) (count b)) (definition_of b n ∷ resolve b ns) (resolve b ns)

-- the names that a type leads to, where there is one
abbrev pub names_in : Option Ty → List ℕ
names_in none = []
names_in (some t) = type_names t

-- the numbers of the definitions to which definition i leads in one step
unfoldable pub leads_to : Bundle → ℕ → List ℕ
leads_to b i = resolve b (names_in (type_at b i))

-- definition i leads to definition j in one or more steps
pub data Leads (b : Bundle) : ℕ → ℕ → Type 0 where
  direct : {i j : ℕ} → Memᴰ j (leads_to b i) → Leads b i j
  onward : {i m j : ℕ} → Memᴰ m (leads_to b i) → Leads b m j → Leads b i j

-- every sequence of steps from definition i ends after fewer than k steps
unfoldable pub settled : Bundle → ℕ → ℕ → Bool
settled b zero i = false
settled b (suc k) i = all (settled b k) (leads_to b i)

-- the numbers below k
abbrev pub numbers_below : ℕ → List ℕ
numbers_below zero = []
numbers_below (suc k) = k ∷ numbers_below k

-- some definition is not settled at the count of definitions; that is, some definition leads back to itself (proofs/Circle.antt)
unfoldable pub circles : Bundle → Bool
circles b = not (all (settled b (count b)) (numbers_below (count b)))
