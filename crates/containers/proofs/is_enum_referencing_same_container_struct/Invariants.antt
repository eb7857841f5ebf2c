use Prim.Native.Nat.{ℕ}
use Rattle.bundle.specs.Definitions.{bundle_of}
use Rattle.containers.specs.Containers.{LeadFor}
use Rattle.containers.proofs.Containing.{Containing}
use Rattle.containers.proofs.is_enum_referencing_same_container_struct.Given as goal

abbrev pub invariant-loop-i : goal.invariant-loop-i
invariant-loop-i l = (e : ℕ) → LeadFor l.definitions.bytes.now e l.lead → Containing (bundle_of l.definitions.bytes.now) e l.container l.i
