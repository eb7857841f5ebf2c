-- What a call leaves in its places, as the program writes it.
use Rattle.std.specs.Prelude.{Err, Ok, Result, IsErrAnd}
use Rattle.refusal.specs.declared.Refusal.{Refusal}
use Rattle.refusal.specs.Numbers.{number}
use Prim.Native.Nat.{ℕ, ◌+◌, ◌^◌, ◌≤◌, ◌<◌}
use native.Mathlib.Omega.{arith}
use mathlib.Core.Bool.{Bool, true, false, cond}
use mathlib.Core.List.{List, [], ◌∷◌, ◌++◌}
use mathlib.Core.Option.{Option, none, some}
use mathlib.Core.Path.{◌≡◌, refl, sym, ap, subst⁻¹, ◌∙◌}
use lib.ListN.{length, take, set, length-append, length-take}
use lib.Seq.{length-take-le, take-append-le}
use lib.IntN.{ℤ}
use mir.Syntax.{w64}
use mir.Val.{SFits, to_z, of_z}
use mir.ValLaws.{to_z-of_z}
use Rattle.decimal.specs.Decimal.{lines, signed_line, Writes}
use Rattle.decimal.proofs.DecimalLaws.{line_size, lines_append, signed_size}
use Rattle.decimal.proofs.Writing.{writes_then, writes_end}
use Rattle.meaning.specs.Tree.{Bundle}
use Rattle.meaning.specs.Encoding.{Bytes}
use Rattle.meaning.specs.Reader.{Read, ok, refused}
use Rattle.meaning.specs.ReadBundle.{read_bundle}
use Rattle.meaning.specs.Circle.{circles}
use Rattle.meaning.specs.Violations.{graph, find_layout_dependency_chain}
use Rattle.meaning.specs.Calls.{accepted, refused_with, Outcome, result, refusal, answer_of, Call, due_of, on_bundle}
use Rattle.meaning.specs.Due.{chain_names, chaining}
use Rattle.meaning.proofs.CallLaws.{Fills, call_accepted, answer_fits}
use Rattle.meaning.proofs.Chains.{chain_length}
use Rattle.meaning.proofs.ReadWithin.{bundle_within}
use Rattle.bundle.specs.Opened.{answer_meant}
use Rattle.search_from.specs.declared.Listed.{Listed}
use Rattle.search_from.specs.Listing.{answer_meant as listingMeant}
use Rattle.find_chain.specs.ChainCall.{ChainCall}
use Rattle.followed.specs.Followed.{following}
use Rattle.fixed_meaning.specs.Fixed.{sizing, placing}
use Rattle.fixed_meaning.specs.Value as meaning
use Rattle.values.specs.Meant.{value_meant}
use Rattle.offsets.specs.declared.Placement.{Placement}
use Rattle.offsets.specs.Placed.{answer_meant as fixedMeant, FixedCall}
use Rattle.responses.specs.Response.{refusal_bytes, written, response_to, numbers_of, lines_to, lines_of, size_to, value_to, Holds, Gives}

-- what an acceptance leaves in the places
module _ (o : Outcome) {before after : List ℕ} {n : ℕ} (c : Call o before after (accepted n)) where
  filled : Fills o n before after
  filled = call_accepted o n before after c

  accepted_within : n ≤ length after
  accepted_within = omega (arith, length-take n after, ap length filled.first, filled.size)

  accepts : Holds (response_to o (length before)) after n
  unfolding response_to
  accepts = record { within = accepted_within; first = filled.first ∙ sym (ap (λ a. written a o) (sym c.answer) ∙ ap (written (accepted n)) filled.outcome) }

  lists : (count : List ℕ) {o₀ o₁ o₂ : List ℕ} {p r : ℕ} → Writes (lines count) o₀ 0 o₁ p → Writes (lines (take n after)) o₁ p o₂ r → Holds (lines_to count o) o₂ r
  unfolding lines_to
  lists count w u =
      let joined = (writes_then w u).places ∙ sym (lines_append count (take n after)) in
      record { within = u.room; first = joined ∙ ap (λ xs. lines (count ++ xs)) filled.first ∙ sym (ap (lines_to count) filled.outcome) }

-- a refusal that was written
pub holds_refusal : (out : List ℕ) (k : ℕ) → 2 ≤ length out → Holds (refusal_bytes k) (set (set out 0 0x7E) 1 k) 2
holds_refusal [] k h = absurd (omega arith)
holds_refusal (x ∷ []) k h = absurd (omega arith)
holds_refusal (x ∷ y ∷ out) k h = record { within = omega arith; first = refl }

-- a refusal that is passed on
pub passed_on : {text : List ℕ} (places : List ℕ) (r : Result ℕ Refusal) (k : Refusal) → IsErrAnd r (λ e. e ≡ k) → text ≡ refusal_bytes (number k) → Gives text r places
passed_on places (Err e) k m h = rw m h
passed_on places (Ok n) k m h = absurd m

-- a refusal that a call answers
refuses : (o : Outcome) {before after : List ℕ} {lent k : ℕ} → Call o before after (refused_with k) → length before ≡ lent → response_to o lent ≡ refusal_bytes k
unfolding response_to
refuses o c e = sym (ap (λ a. written a o) (c.answer ∙ ap (answer_of o) e))

-- what a call gives, in a part of the room
pub gives : (o : Outcome) (out : List ℕ) → 65536 ≤ length out → {part : List ℕ} (rest : List ℕ) (a : Result ℕ Refusal) → Call o (take 65536 out) part (answer_meant a) → Gives (response_to o 65536) a (part ++ rest)
unfolding answer_meant
gives o out enough {part} rest (Ok n) c =
    let h = accepts o c in
    record {
      within = omega (arith, length-append part rest, h.within);
      first = take-append-le n part rest h.within ∙ h.first ∙ ap (response_to o) (length-take-le 65536 out (omega arith));
    }
gives o out enough rest (Err k) c = refuses o c (length-take-le 65536 out (omega arith))

-- where a line of a number of 64 bits ends
pub line_end : {n at r : ℕ} {out out' : List ℕ} → n < 2 ^ 64 → at ≤ length out → Writes (lines (n ∷ [])) out at out' r → r ≤ at + 21
line_end {n} small within w = omega (arith, line_size 19 n (omega arith), writes_end w within)

-- a chain and its count, as they are answered
module _ {from to : ℕ} {s before after : List ℕ} {l : Listed} (c : ChainCall from to s before after (Ok l)) where
  listed : Call (chaining from to s) before after (accepted l.names)
  unfolding listingMeant
  listed = c.call

  pub chain_within : l.names ≤ length after
  chain_within = accepted_within _ listed

  -- and written
  pub chains : {out out' : List ℕ} {r : ℕ} → Writes (lines (take l.names after)) out 0 out' r → Holds (lines_to [] (chaining from to s)) out' r
  unfolding lines
  chains {out} w = lists _ listed [] {o₀ = out} (record { room = omega arith; places = refl }) w

  pub counted : {o₀ o₁ o₂ : List ℕ} {p r : ℕ} → Writes (lines (l.followed ∷ [])) o₀ 0 o₁ p → Writes (lines (take l.names after)) o₁ p o₂ r
      → Holds (lines_to (numbers_of (following from to s)) (chaining from to s)) o₂ r
  counted {o₂ = o₂} {r = r} w u = subst⁻¹ (λ o. Holds (lines_to (numbers_of o) (chaining from to s)) o₂ r) c.count (lists _ listed _ w u)

-- a definition's size, as it is answered and written
module _ {i lent : ℕ} {s before after : List ℕ} (room : length before ≡ lent) where
  module _ {a : Placement} (c : FixedCall i s before after (Ok a)) where
    sized : Call (placing i s) before after (accepted a.offsets)
    unfolding fixedMeant
    sized = c.call

    pub sized_within : a.offsets ≤ length after
    sized_within = accepted_within (placing i s) sized

    pub sizes : {o₀ o₁ o₂ o₃ : List ℕ} {p q r : ℕ} → Writes (lines (a.size ∷ [])) o₀ 0 o₁ p → Writes (lines (a.alignment ∷ [])) o₁ p o₂ q
        → Writes (lines (take a.offsets after)) o₂ q o₃ r → Holds (size_to (sizing i s) (placing i s) lent) o₃ r
    unfolding size_to
    sizes {o₃ = o₃} {r = r} w v u =
        let f = filled (placing i s) sized in
        let extent : sizing i s ≡ result (a.size ∷ a.alignment ∷ []) = c.extents in
        let answered : answer_of (placing i s) lent ≡ accepted a.offsets = sym (ap (answer_of (placing i s)) room) ∙ sym sized.answer in
        let joined = ap (λ l. lines (a.size ∷ []) ++ l) (sym (lines_append (a.alignment ∷ []) (take a.offsets after))) ∙ sym (lines_append (a.size ∷ []) (a.alignment ∷ take a.offsets after)) in
        record { within = u.room; first = rw (answered, extent, f.outcome, ← f.first) ((writes_then w (writes_then v u)).places ∙ joined) }

  pub size_refused : {k : Refusal} → FixedCall i s before after (Err k) → size_to (sizing i s) (placing i s) lent ≡ refusal_bytes (number k)
  unfolding size_to fixedMeant
  size_refused c = ap (λ a. lines_of a (numbers_of (sizing i s) ++ numbers_of (placing i s))) (sym (c.call.answer ∙ ap (answer_of (placing i s)) room))

-- how long the line of a value is
pub value_size : (z : ℤ) → SFits w64 z → length (signed_line (to_z w64 (of_z w64 z))) ≤ 21
value_size z f = rw (to_z-of_z w64 z f) (signed_size z f)

-- a value, as it is answered and written
pub values : {z : ℤ} {due : meaning.Value} {out out' : List ℕ} {r : ℕ} → value_meant (Ok z) ≡ due → SFits w64 z → Writes (signed_line (to_z w64 (of_z w64 z))) out 0 out' r → Holds (value_to due) out' r
unfolding value_to value_meant
values {z} c f w = record { within = w.room; first = w.places ∙ ap signed_line (to_z-of_z w64 z f) ∙ ap value_to c }

pub value_refused : (k : Refusal) {due : meaning.Value} → value_meant (Err k) ≡ due → value_to due ≡ refusal_bytes (number k)
unfolding value_to value_meant
value_refused k c = ap value_to (sym c)

-- a chain has at most 1,025 names
chain_fits : (from to : ℕ) (s : List ℕ) → Bytes s → (names : List ℕ) → chaining from to s ≡ result names → length names ≤ 1025
unfolding chaining on_bundle due_of find_layout_dependency_chain
chain_fits from to s bytes names = go (read_bundle s) refl
  where
    found : (b : Bundle) → length b.edges ≤ 1024 → (o : Option (List ℕ)) → find_layout_dependency_chain b from to ≡ o → result (chain_names o) ≡ result names → length names ≤ 1025
    found b few none e p = let q : names ≡ [] = cc in omega (arith, ap length q)
    found b few (some ns) e p = let q : names ≡ ns = cc in omega (arith, ap length q, chain_length (graph b) from to ns e)

    no_circle : (b : Bundle) → length b.edges ≤ 1024 → (t : Bool) → cond t (refusal 8) (result (chain_names (find_layout_dependency_chain b from to))) ≡ result names → length names ≤ 1025
    no_circle b few true p = let z : ◌≡◌ {A = ℕ} 0 1 = cc in absurd (omega arith)
    no_circle b few false p = found b few (find_layout_dependency_chain b from to) refl p

    go : (x : Read Bundle) → read_bundle s ≡ x → due_of (λ b. result (chain_names (find_layout_dependency_chain b from to))) x ≡ result names → length names ≤ 1025
    go (ok b n) e p = no_circle b (bundle_within s bytes b n e).edges.0 (circles b) p
    go (refused k) e p = let z : ◌≡◌ {A = ℕ} 0 1 = cc in absurd (omega arith)

-- so a chain is refused only where the bundle is
pub chain_refused : {from to : ℕ} {s : List ℕ} → Bytes s → (count : List ℕ) {list list' : List ℕ} {k : Refusal} → ChainCall from to s list list' (Err k) → 1025 ≤ length list
    → lines_to count (chaining from to s) ≡ refusal_bytes (number k)
unfolding lines_to answer_of listingMeant
chain_refused {from} {to} {s} bytes count {list} {k = k} c room = go (chaining from to s) refl c.call.answer
  where
    go : (o : Outcome) → chaining from to s ≡ o → refused_with (number k) ≡ answer_of o (length list) → lines_to count o ≡ refusal_bytes (number k)
    go (result names) e p =
        let fits = chain_fits from to s bytes names e in
        let q = answer_fits names (length list) (omega arith) in
        let z : ◌≡◌ {A = ℕ} 0 1 = cc in absurd (omega arith)
    go (refusal j) e p = let q : j ≡ number k = cc in ap refusal_bytes q
