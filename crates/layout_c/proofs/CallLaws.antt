-- A call's answer, in C's convention.
use Rattle.std.specs.Prelude.{Err, Ok, Result}
use Rattle.refusal.specs.declared.Refusal.{Refusal}
use Rattle.refusal.specs.Numbers.{number}
use Rattle.refusal.proofs.NumberLaws.{number_within}
use Rattle.search_from.specs.declared.Listed.{Listed}
use Rattle.offsets.specs.declared.Placement.{Placement}
use Prim.Native.Nat.{ℕ, ◌≤◌, ◌<◌}
use native.Mathlib.Omega.{arith}
use mathlib.Core.Logic.{◌↔◌, ◌⊎◌, inl, inr}
use mathlib.Core.Path.{◌≡◌, refl, sym, ap, ◌∙◌}
use mathlib.Core.List.{List, [], ◌∷◌}
use lib.IntN.{ℤ}
use lib.ListN.{length}
use Rattle.names.specs.Records.{renumber_bytes}
use Rattle.meaning.specs.Kinds.{body}
use Rattle.meaning.specs.Tree.{Bundle}
use Rattle.meaning.specs.Encoding.{Bytes, bundle_bytes}
use Rattle.meaning.specs.Violations.{find_layout_dependency_chain}
use Rattle.meaning.specs.Report.{report}
use Rattle.meaning.specs.Calls.{Answer, accepted, refused_with, result, answer_of, Call, on_bundle, acceptance}
use Rattle.meaning.specs.Due.{reporting, renumbering, chain_names, chaining}
use Rattle.search_from.specs.Listing as listing
use Rattle.find_chain.specs.ChainCall.{ChainCall}
use Rattle.refusals.specs.Numbers.{Keeps}
use Rattle.refusals.proofs.Unique.{one_to_eight}
use Rattle.refusals.proofs.Laws.{one_number}
use Rattle.demands.specs.Demands.{Nothing, Demand1}
use Rattle.demands.proofs.Answering.{refused_number, accept_demand}
use Rattle.fixed_meaning.specs.Fixed.{sizing, placing}
use Rattle.fixed_meaning.specs.Value.{valued, unvalued}
use Rattle.fixed_meaning.specs.Valuing.{valuing}
use Rattle.fixed_demand.proofs.Answering.{fixed_number}
use Rattle.value_demand.proofs.Answering.{value_number}
use Rattle.values.specs.Meant.{value_meant}
use Rattle.offsets.specs.Placed as placed
use Rattle.offsets.specs.Placed.{FixedCall}
use Rattle.layout_c.specs.Convention.{code_of, written_after, CallInC, AcceptInC, FollowedInC, FixedInC, code_of_value, ValueInC}

-- the number of an answer whose refusals are 1 to `most`
module _ (most : ℕ) {r : ℕ} where
  zero_code : (a : Answer) → r ≡ code_of a → ((k : ℕ) → a ≡ refused_with k → (1 ≤ k) × (k ≤ most)) → (r ≡ 0) ↔ ((n : ℕ) × (a ≡ accepted n))
  unfolding code_of
  zero_code (accepted n) e h = (λ z. (n, refl), λ z. e)
  zero_code (refused_with k) e h =
      let p = h k refl in
      (λ z. absurd (omega (arith, e, z, p.0)), λ z. let y = z.1 in let w : ◌≡◌ {A = ℕ} 0 1 = cc in absurd (omega arith))

  known_code : (a : Answer) → r ≡ code_of a → ((k : ℕ) → a ≡ refused_with k → (1 ≤ k) × (k ≤ most)) → r ≤ most
  unfolding code_of
  known_code (accepted n) e h = omega (arith, e)
  known_code (refused_with k) e h = omega (arith, e, (h k refl).1)

in_c : (f : Bundle → List ℕ) (s : List ℕ) {before after : List ℕ} {a : Answer} {written written' r : ℕ} → Call (on_bundle (λ b. result (f b)) s) before after a
    → written' ≡ written_after a written → r ≡ code_of a → CallInC (on_bundle (λ b. result (f b)) s) before after written written' r
in_c f s {before = before} {written = written} c l e =
    let o = on_bundle (λ b. result (f b)) s in
    let code = e ∙ ap code_of c.answer in
    record {
      code = code;
      length_out = l ∙ ap (λ a. written_after a written) c.answer;
      places = c.places;
      zero = zero_code 9 (answer_of o (length before)) code (refused_number f s (length before));
      known = known_code 9 (answer_of o (length before)) code (refused_number f s (length before));
    }

pub report_in_c : (s : List ℕ) {before after : List ℕ} {a : Answer} {written written' r : ℕ} → Call (reporting s) before after a
    → written' ≡ written_after a written → r ≡ code_of a → CallInC (reporting s) before after written written' r
unfolding reporting
report_in_c = in_c report

pub renumber_in_c : (s : List ℕ) {before after : List ℕ} {a : Answer} {written written' r : ℕ} → Call (renumbering s) before after a
    → written' ≡ written_after a written → r ≡ code_of a → CallInC (renumbering s) before after written written' r
unfolding renumbering
renumber_in_c = in_c (λ b. renumber_bytes body (bundle_bytes b))

-- The answer about a chain: given, and not.
module _ {from to : ℕ} {s before after : List ℕ} {a : Result Listed Refusal} {written written' r : ℕ} (c : ChainCall from to s before after a) (l : written' ≡ written_after (listing.answer_meant a) written) (e : r ≡ code_of (listing.answer_meant a)) where
  chain_in_c : CallInC (chaining from to s) before after written written' r
  unfolding chaining
  chain_in_c = in_c (λ b. chain_names (find_layout_dependency_chain b from to)) s c.call l e

pub chain_given : {from to : ℕ} {s before after : List ℕ} {l : Listed} {written followed : ℕ} → ChainCall from to s before after (Ok l) → FollowedInC from to s before after written l.names followed l.followed 0
unfolding listing.answer_meant code_of written_after
chain_given c = record { call = chain_in_c c refl refl; count = λ z. c.count; stay = λ z. absurd (omega arith) }

pub chain_not_given : {from to : ℕ} {s before after : List ℕ} {x : Refusal} {written followed r : ℕ} → ChainCall from to s before after (Err x) → r ≡ number x → FollowedInC from to s before after written written followed followed r
unfolding listing.answer_meant code_of written_after
chain_not_given {x = x} c e = record { call = chain_in_c c refl e; count = λ z. absurd (omega (arith, e, z, (number_within x).0)); stay = λ z. refl }

pub accept_in_c : (s : List ℕ) → Bytes s → (r : ℕ) → r ≡ code_of (answer_of (acceptance s) 0) → AcceptInC s r
unfolding code_of
accept_in_c s bytes r e = go d.cases.either
  where
    d : Demand1 Nothing s [] [] (answer_of (acceptance s) 0)
    d = accept_demand s (answer_of (acceptance s) 0) bytes refl

    go : ((b : Bundle) × Keeps s b) ⊎ ((b : Bundle) → Keeps s b → ⊥) → AcceptInC s r
    go (inl k) =
        let g = d.every k.0 k.1 in
        let given = g.2.full (omega (arith, ap length g.1)) in
        let nil : r ≡ 0 = e ∙ ap code_of given.answer in
        record { code = e; zero = (λ z. k, λ z. nil); known = omega (arith, nil) }
    go (inr none) =
        let g = d.other none in
        let same : r ≡ g.0 = e ∙ ap code_of g.2.answer in
        let one = (d.numbered g.0 g.2.answer).0 in
        record {
          code = e;
          zero = (λ z. absurd (omega (arith, same, z, one)), λ k. absurd (none k.0 k.1));
          known = omega (arith, same, one_number s bytes g.0 g.1, (one_to_eight s).1);
        }

-- The answer about a fixed size: given, and not.
module _ {i : ℕ} {s before after : List ℕ} {f : Result Placement Refusal} (c : FixedCall i s before after f) {written written' r : ℕ} (l : written' ≡ written_after (placed.answer_meant f) written) (e : r ≡ code_of (placed.answer_meant f)) where
  fixed_in_c : {size size' alignment alignment' : ℕ} → (r ≡ 0 → sizing i s ≡ result (size' ∷ alignment' ∷ [])) → (0 < r → (size' ≡ size) × (alignment' ≡ alignment)) → FixedInC i s before after size size' alignment alignment' written written' r
  fixed_in_c given stays =
      let code = e ∙ ap code_of c.call.answer in
      let numbered = fixed_number i s (length before) in
      record {
        code = code;
        length_out = l ∙ ap (λ a. written_after a written) c.call.answer;
        places = c.call.places;
        extents = given;
        stay = stays;
        zero = zero_code 12 (answer_of (placing i s) (length before)) code numbered;
        known = known_code 12 (answer_of (placing i s) (length before)) code numbered;
      }

pub fixed_given : {i : ℕ} {s before after : List ℕ} {p : Placement} {written size alignment : ℕ} → FixedCall i s before after (Ok p) → FixedInC i s before after size p.size alignment p.alignment written p.offsets 0
unfolding placed.answer_meant code_of written_after
fixed_given c = fixed_in_c c refl refl (λ z. c.extents) (λ z. absurd (omega arith))

pub fixed_not_given : {i : ℕ} {s before after : List ℕ} {x : Refusal} {written size alignment r : ℕ} → FixedCall i s before after (Err x) → r ≡ number x → FixedInC i s before after size size alignment alignment written written r
unfolding placed.answer_meant code_of written_after
fixed_not_given {x = x} c e = fixed_in_c c refl e (λ z. absurd (omega (arith, e, z, (number_within x).0))) (λ z. (refl, refl))

-- The answer about a value: given, and not.

pub value_given : (i : ℕ) (s : List ℕ) (z value : ℤ) → value_meant (Ok z) ≡ valuing i s → ValueInC i s value z 0
unfolding value_meant code_of_value
value_given i s z value e = record {
  code = ap code_of_value e;
  given = λ n. sym e;
  stay = λ n. absurd (omega arith);
  zero = (λ n. (z, sym e), λ n. refl);
  known = inl refl;
}

pub value_not_given : (i : ℕ) (s : List ℕ) (bytes : Bytes s) (x : Refusal) (value : ℤ) (r : ℕ) → value_meant (Err x) ≡ valuing i s → r ≡ number x → ValueInC i s value value r
unfolding value_meant code_of_value
value_not_given i s bytes x value r e q =
    let low = (number_within x).0 in
    record {
      code = q ∙ ap code_of_value e;
      given = λ n. absurd (omega (arith, q, n, low));
      stay = λ n. refl;
      zero = (λ n. absurd (omega (arith, q, n, low)), λ n. let y : unvalued (number x) ≡ valued n.0 = e ∙ n.1 in let w : ◌≡◌ {A = ℕ} 0 1 = cc in absurd (omega arith));
      known = inr (rw q (value_number i s (number x) bytes (sym e)));
    }
