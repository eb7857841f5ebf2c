-- What a call answers for what was found.
--     answer_none, answer_stands      no chain, and one that stands in the list
--     has_edges               the edges of an accepted bundle
--     turned_down             the call for bytes that are refused
use Rattle.std.specs.Prelude.{Option, None, Some, Err}
use Prim.Native.Nat.{ℕ}
use mathlib.Core.Path.{◌≡◌, refl, subst}
use mathlib.Core.List.{List}
use mathlib.Core.Option as math
use mathlib.Core.Option.{none}
use native.Mathlib.Omega.{arith}
use Rattle.meaning.specs.Calls as calls
use Rattle.bundle.specs.Opened.{LayoutOf, answer_meant}
use Rattle.bundle.specs.declared.Layout.{Layout}
use Rattle.refusal.specs.declared.Refusal.{Refusal}
use Rattle.refusal.specs.Numbers.{number}
use Rattle.chain.specs.Edges.{HasEdges}
use Rattle.chain.specs.Found.{Stands, Told, Answers}

pub answer_none : {o : math.Option (List ℕ)} {list : List ℕ} {r : Option ℕ} → Answers o list r → r ≡ None → o ≡ none
answer_none {o} {list} a e = subst (λ (r : Option ℕ). Told o list r) e a.told

pub answer_stands : {o : math.Option (List ℕ)} {list : List ℕ} {r : Option ℕ} {k : ℕ} → Answers o list r → r ≡ Some k → Stands o list k
answer_stands {o} {list} a e = subst (λ (r : Option ℕ). Told o list r) e a.told

pub has_edges : {s : List ℕ} {l : Layout} {places : List ℕ} → LayoutOf s l places → HasEdges s l.edges_at l.edges
has_edges o = record { few = o.few; lie = omega (arith, o.from.end, o.edges) }

pub turned_down : {o : calls.Outcome} (r : Refusal) (list : List ℕ) → o ≡ calls.refusal (number r) → calls.Call o list list (answer_meant (Err r))
unfolding answer_meant calls.answer_of calls.places_after
turned_down r list e = rw e (record { answer = refl; places = refl })
