-- Demand 1 holds of every call for a fixed size.
use Prim.Native.Nat.{ℕ, ◌≤◌}
use native.Mathlib.Omega.{arith}
use mathlib.Core.Bool.{false}
use mathlib.Core.List.{List, [], ◌∷◌}
use mathlib.Core.Logic.{◌⊎◌, inl, inr}
use mathlib.Core.Path.{◌≡◌, refl, sym, ap, ◌∙◌}
use lib.ListN.{length}
use Rattle.meaning.specs.Tree.{Bundle}
use Rattle.meaning.specs.Lookup.{type_at}
use Rattle.meaning.specs.Encoding.{Bytes}
use Rattle.meaning.specs.Circle.{circles}
use Rattle.meaning.specs.Calls.{result, refusal, refused_with, answer_of}
use Rattle.refusals.specs.Numbers.{Keeps}
use Rattle.demands.specs.Demands.{Refused}
use Rattle.demands.proofs.Kept.{kept_accepted, cases}
use Rattle.demands.proofs.Answering.{gets_call, refused_call, room_number, number_within, kept_due, other_refused}
use Rattle.fixed_meaning.specs.Extent.{Extent, sized, unsized}
use Rattle.fixed_meaning.specs.Fixed.{definition_extent, definition_offsets, given, sizing, placing}
use Rattle.fixed_laws.specs.Statements.{Unfixed, HasLayout}
use Rattle.fixed_laws.proofs.Decided.{fixed, unfixed, one_layout, one_number}
use Rattle.fixed_laws.proofs.Least.{refusal_number}
use Rattle.std.specs.Prelude.{Err, Ok, Result}
use Rattle.refusal.specs.declared.Refusal.{Refusal}
use Rattle.offsets.specs.declared.Placement.{Placement}
use Rattle.offsets.specs.Placed.{answer_meant, Extents, FixedCall}
use Rattle.fixed_demand.specs.Demand.{Says, GetsLayout, FixedDemand}

-- a refusal is one of 1 to 12
pub fixed_number : (i : ℕ) (s : List ℕ) (lent k : ℕ) → answer_of (placing i s) lent ≡ refused_with k → (1 ≤ k) × (k ≤ 12)
unfolding placing answer_of
fixed_number i s lent k = number_within (λ b. given (definition_extent b i) (λ size a. definition_offsets b i)) lent 12 (omega arith) own s k
  where
    by : (b : Bundle) → circles b ≡ false → (x : Extent) → definition_extent b i ≡ x → (j : ℕ) → answer_of (given x (λ size a. definition_offsets b i)) lent ≡ refused_with j → (1 ≤ j) × (j ≤ 12)
    by b c (sized n a) p j e = let z = room_number (definition_offsets b i) lent j e in (omega (arith, z), omega (arith, z))
    by b c (unsized k) p j e =
        let z : k ≡ j = cc in
        let r = refusal_number b c i k p in
        (omega (arith, z, r.0), omega (arith, z, r.1))

    own : (b : Bundle) → circles b ≡ false → (j : ℕ) → answer_of (given (definition_extent b i) (λ size a. definition_offsets b i)) lent ≡ refused_with j → (1 ≤ j) × (j ≤ 12)
    own b c j e = by b c (definition_extent b i) refl j e

-- a definition of a bundle that is accepted
module _ (i : ℕ) (s : List ℕ) (b : Bundle) (k : Keeps s b) where
  no_circle : circles b ≡ false
  unfolding kept_accepted
  no_circle = (kept_accepted k).no_circle

  extent_of_lem : (x : Extent) → definition_extent b i ≡ x → (placing i s ≡ given x (λ size a. definition_offsets b i)) × (sizing i s ≡ given x (λ size a. size ∷ a ∷ []))
  unfolding placing sizing
  extent_of_lem x e = (
    kept_due (λ b. given (definition_extent b i) (λ size a. definition_offsets b i)) s b k ∙ ap (λ x. given x (λ size a. definition_offsets b i)) e,
    kept_due (λ b. given (definition_extent b i) (λ size a. size ∷ a ∷ [])) s b k ∙ ap (λ x. given x (λ size a. size ∷ a ∷ [])) e,
  )

  -- it has an extent, or it is refused
  abbrev Decided : Type 0
  Decided = ((n : ℕ) × ((a : ℕ) × (definition_extent b i ≡ sized n a))) ⊎ ((j : ℕ) × (definition_extent b i ≡ unsized j))

  decided : Decided
  decided = go (definition_extent b i) refl
    where
      go : (x : Extent) → definition_extent b i ≡ x → Decided
      go (sized n a) e = inl (n, (a, e))
      go (unsized j) e = inr (j, e)

  says : (n a : ℕ) → sizing i s ≡ result (n ∷ a ∷ []) → (r : Result Placement Refusal) → Extents (sizing i s) r → Says r n a
  says n a e (Ok p) x = let z : result (p.size ∷ p.alignment ∷ []) ≡ result (n ∷ a ∷ []) = sym x ∙ e in (cc, cc)
  says n a e (Err j) x = tt

  module _ {before after : List ℕ} {r : Result Placement Refusal} (d : FixedCall i s before after r) where
    every : ((j : ℕ) → Unfixed b (type_at b i) j → ⊥) → GetsLayout i b before after r
    every none = go decided
      where
        go : Decided → GetsLayout i b before after r
        go (inl e) = record {
          size = e.0;
          alignment = e.1.0;
          offsets = definition_offsets b i;
          right = (fixed b no_circle i e.0 e.1.0 e.1.1).0;
          gets = gets_call (placing i s) (definition_offsets b i) before after (answer_meant r) (extent_of_lem _ e.1.1).0 d.call;
          says = says e.0 e.1.0 (extent_of_lem _ e.1.1).1 r d.extents;
        }
        go (inr e) = absurd (none e.0 (unfixed b no_circle i e.0 e.1))

    refused : (j : ℕ) → Unfixed b (type_at b i) j → Refused j before after (answer_meant r)
    unfolding answer_of
    refused j u = go decided
      where
        go : Decided → Refused j before after (answer_meant r)
        go (inl e) = absurd ((fixed b no_circle i e.0 e.1.0 e.1.1).1 j u)
        go (inr e) =
            let z : e.0 ≡ j = one_number b (type_at b i) e.0 j (unfixed b no_circle i e.0 e.1) u in
            refused_call (placing i s) j before after (answer_meant r) d.call (ap (λ o. answer_of o (length before)) (extent_of_lem _ e.1).0 ∙ ap refused_with z)

  either : ((j : ℕ) × Unfixed b (type_at b i) j) ⊎ ((j : ℕ) → Unfixed b (type_at b i) j → ⊥)
  either = go decided
    where
      go : Decided → ((j : ℕ) × Unfixed b (type_at b i) j) ⊎ ((j : ℕ) → Unfixed b (type_at b i) j → ⊥)
      go (inl e) = inr (fixed b no_circle i e.0 e.1.0 e.1.1).1
      go (inr e) = inl (e.0, unfixed b no_circle i e.0 e.1)

  one : ((j : ℕ) → Unfixed b (type_at b i) j → ⊥) → (m n a c : ℕ) (xs ys : List ℕ)
      → HasLayout b (type_at b i) m a xs → HasLayout b (type_at b i) n c ys → (m ≡ n) × ((a ≡ c) × (xs ≡ ys))
  one none m n a c xs ys x y = go decided
    where
      go : Decided → (m ≡ n) × ((a ≡ c) × (xs ≡ ys))
      go (inl e) =
          let p = one_layout b no_circle i e.0 e.1.0 e.1.1 m a xs x in
          let q = one_layout b no_circle i e.0 e.1.0 e.1.1 n c ys y in
          (p.0 ∙ sym q.0, (p.1.0 ∙ sym q.1.0, p.1.1 ∙ sym q.1.1))
      go (inr e) = absurd (none e.0 (unfixed b no_circle i e.0 e.1))

pub fixed_demand : (i : ℕ) (s before after : List ℕ) (r : Result Placement Refusal) → Bytes s → FixedCall i s before after r → FixedDemand i s before after r
unfolding placing
fixed_demand i s before after r bytes d = record {
  every = λ b k. every i s b k d;
  unfixed = λ b k. refused i s b k d;
  other = other_refused (λ b. given (definition_extent b i) (λ size a. definition_offsets b i)) s before after (answer_meant r) bytes d.call;
  cases = cases s bytes;
  either = λ b k. either i s b k;
  one_number = λ b. one_number b (type_at b i);
  one_layout = λ b k. one i s b k;
  numbered = λ k e. fixed_number i s (length before) k (sym d.call.answer ∙ e);
}
