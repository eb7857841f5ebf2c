-- Demand 1 for the call that asks for the size, alignment and offsets of definition i (document 02, L1): refusals 1 to 8, then 10, 11 and
-- 12 over all reached parts, then 9.
use Rattle.std.specs.Prelude.{ℕ, ◌≤◌, List, ◌⊎◌, ◌≡◌, Result, Ok, Err}
use Rattle.meaning.specs.Tree.{Bundle}
use Rattle.meaning.specs.Lookup.{type_at}
use Rattle.meaning.specs.Calls.{refused_with}
use Rattle.refusals.specs.Numbers.{Keeps, Number}
use Rattle.demands.specs.Demands.{Gets, Refused, Cases}
use Rattle.fixed_laws.specs.Statements.{Unfixed, HasLayout}
use Rattle.refusal.specs.declared.Refusal.{Refusal}
use Rattle.offsets.specs.declared.Placement.{Placement}
use Rattle.offsets.specs.Placed.{answer_meant}

-- where the call is accepted, this is its size and alignment
abbrev pub Says : Result Placement Refusal → ℕ → ℕ → Type 0
Says (Ok p) size alignment = (p.size ≡ size) × (p.alignment ≡ alignment)
Says (Err r) size alignment = Unit {0}

-- the layout is right for definition i of b, and the call gets it in full where the list holds the offsets, and else is refused with 9
pub record GetsLayout (i : ℕ) (b : Bundle) (before after : List ℕ) (r : Result Placement Refusal) : Type 0 where
  pub size : ℕ
  pub alignment : ℕ
  pub offsets : List ℕ
  pub right : HasLayout b (type_at b i) size alignment offsets
  pub gets : Gets offsets before after (answer_meant r)
  pub says : Says r size alignment

-- Every definition of a bundle to be accepted that has no reason for 10, 11 or 12 gets its layout, and every other is refused with the one
-- number; every other call is refused with its one number. No call is refused with another number than 1 to 12.
pub record FixedDemand (i : ℕ) (s before after : List ℕ) (r : Result Placement Refusal) : Type 0 where
  pub every : (b : Bundle) → Keeps s b → ((k : ℕ) → Unfixed b (type_at b i) k → ⊥) → GetsLayout i b before after r
  pub unfixed : (b : Bundle) → Keeps s b → (k : ℕ) → Unfixed b (type_at b i) k → Refused k before after (answer_meant r)
  pub other : ((b : Bundle) → Keeps s b → ⊥) → (k : ℕ) × Number s k × Refused k before after (answer_meant r)
  -- there is no third case, and one number and one layout at most
  pub cases : Cases s
  pub either : (b : Bundle) → Keeps s b → ((k : ℕ) × Unfixed b (type_at b i) k) ⊎ ((k : ℕ) → Unfixed b (type_at b i) k → ⊥)
  pub one_number : (b : Bundle) (j k : ℕ) → Unfixed b (type_at b i) j → Unfixed b (type_at b i) k → j ≡ k
  pub one_layout : (b : Bundle) → Keeps s b → ((k : ℕ) → Unfixed b (type_at b i) k → ⊥) → (m n a c : ℕ) (xs ys : List ℕ)
      → HasLayout b (type_at b i) m a xs → HasLayout b (type_at b i) n c ys → (m ≡ n) × ((a ≡ c) × (xs ≡ ys))
  pub numbered : (k : ℕ) → answer_meant r ≡ refused_with k → (1 ≤ k) × (k ≤ 12)
