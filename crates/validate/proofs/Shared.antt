-- What a check of a reference found of a bundle that stays as it is.
use Rattle.std.specs.Prelude.{Option}
use Prim.Native.Nat.{ℕ}
use mathlib.Core.Bool.{Bool}
use mathlib.Core.List.{List}
use Rattle.bundle.specs.Definitions.{bundle_of}
use Rattle.bundle.specs.declared.places.Opened.{Opened}
use Rattle.search.specs.Work.{list_in, IfWanted}
use Rattle.sizes.specs.Scan.{path_at}
use Rattle.checks.specs.declared.Finding.{Finding}
use Rattle.checks.specs.Checks.{Checked}
use Rattle.cycles.specs.declared.shared.Checks.{Checks}
use Rattle.cycles.specs.Shared.{Unchanged}
use Rattle.cycles.proofs.Sharing.{before}
use Rattle.validate.specs.Validating.{check_reference}

abbrev FoundIn : Bool → Bool → ℕ → ℕ → List ℕ → Option Finding → Opened → Type 0
FoundIn wanted tag name path work r o = IfWanted wanted (list_in o.layout.edges work)
    (λ list. Checked o.definitions.bytes.now name list r (λ i. check_reference tag (bundle_of o.definitions.bytes.now) i name (path_at o.definitions.bytes.now path)))

pub check_before : {c d : Checks} → Unchanged c d → (wanted tag : Bool) (name path : ℕ) (work : List ℕ) (r : Option Finding)
    → FoundIn wanted tag name path work r d.opened → FoundIn wanted tag name path work r c.opened
check_before u wanted tag name path work r h = before u (λ o _. FoundIn wanted tag name path work r o) h
