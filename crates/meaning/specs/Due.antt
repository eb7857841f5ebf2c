-- What is due to each call with the bytes of a bundle (document 01, modules 1, 4, 5 and 6): refusals 1 to 8, or a result.
use Rattle.std.specs.Prelude.{ℕ, List, []}
use Rattle.std.proofs.Math.Option.{Option, none, some}
use Rattle.names.specs.Records.{renumber_bytes}
use Rattle.meaning.specs.Kinds.{body}
use Rattle.meaning.specs.Encoding.{bundle_bytes}
use Rattle.meaning.specs.Violations.{find_layout_dependency_chain}
use Rattle.meaning.specs.Report.{report}
use Rattle.meaning.specs.Calls.{Outcome, result, on_bundle}

-- the report
unfoldable pub reporting : List ℕ → Outcome
reporting s = on_bundle (λ b. result (report b)) s

-- the bundle with its names renumbered: other names than 0 become 1, 2, 3 by first appearance in its bytes
unfoldable pub renumbering : List ℕ → Outcome
renumbering s = on_bundle (λ b. result (renumber_bytes body (bundle_bytes b))) s

-- the names of a chain, and no names where there is none
abbrev pub chain_names : Option (List ℕ) → List ℕ
chain_names none = []
chain_names (some names) = names

-- the chain from one name to another
unfoldable pub chaining : ℕ → ℕ → List ℕ → Outcome
chaining from to s = on_bundle (λ b. result (chain_names (find_layout_dependency_chain b from to))) s
