-- The code's answer to a call, told apart by its case.
use Rattle.std.specs.Prelude.{Result, Err, Ok}
use Prim.Native.Nat.{ℕ, ◌≤◌}
use native.Mathlib.Omega.{arith}
use mathlib.Core.Path.{◌≡◌, sym, ap, subst, ◌∙◌}
use mathlib.Core.List.{List}
use lib.ListN.{length, take, length-take}
use Rattle.refusal.specs.declared.Refusal.{Refusal}
use Rattle.refusal.specs.Numbers.{number}
use Rattle.bundle.specs.Opened.{answer_meant}
use Rattle.meaning.specs.Calls.{accepted, refused_with, Outcome, Call}
use Rattle.meaning.proofs.CallLaws.{call_accepted}

-- an acceptance with n
module _ (o : Outcome) {before after : List ℕ} {r : Result ℕ Refusal} {n : ℕ} (c : Call o before after (answer_meant r)) (e : r ≡ Ok n) where
  pub accepted_call : Call o before after (accepted n)
  unfolding answer_meant
  accepted_call = subst (λ r. Call o before after (answer_meant r)) e c

  pub accepted_size : n ≡ length (take n after)
  accepted_size = let f = call_accepted o n before after accepted_call in sym (ap length f.first ∙ f.size)

  pub accepted_within : n ≤ length after
  accepted_within = omega (arith, length-take n after, accepted_size)

-- a refusal with k
pub refused_call : (o : Outcome) {before after : List ℕ} {r : Result ℕ Refusal} {k : Refusal} → Call o before after (answer_meant r) → r ≡ Err k → Call o before after (refused_with (number k))
unfolding answer_meant
refused_call o {before} {after} c e = subst (λ r. Call o before after (answer_meant r)) e c
