-- The report (document 01, "Validators and report"), as bytes with names at known places (names' Documents.antt).
use Rattle.std.specs.Prelude.{ℕ, ◌+◌, ◌-◌, ◌*◌, ◌/◌, ◌%◌, List, [], ◌∷◌, ◌++◌, map, length, replicate}
use Rattle.names.specs.Documents.{Item, byte, name, bytes}
use Rattle.meaning.specs.Tree.{Bundle}
use Rattle.meaning.specs.Lists.{flat_map}
use Rattle.meaning.specs.Violations.{Violation, violations}

-- a number below 65,536, low byte first
abbrev pub two_bytes : ℕ → List Item
two_bytes n = byte (n % 256) ∷ byte (n / 256) ∷ []

-- the path's count, and its names in four places of two bytes, unused ones 0
abbrev pub path_items : List ℕ → List Item
path_items path = byte (length path) ∷ map name path ++ replicate (2 * (4 - length path)) (byte 0)

-- the chain's length, and 7F and a name for each of the chain
abbrev pub chain_items : List ℕ → List Item
chain_items chain = two_bytes (length chain) ++ flat_map (λ n. byte 0x7F ∷ name n ∷ []) chain

-- kind 70 plus the type, definition number, violating name, path, chain
abbrev pub violation_items : Violation → List Item
violation_items v = byte (0x70 + v.type) ∷ two_bytes v.definition ++ name v.name ∷ path_items v.path ++ chain_items v.chain

-- 70, the count of violations, and the violations
abbrev pub report_items : List Violation → List Item
report_items vs = byte 0x70 ∷ two_bytes (length vs) ++ flat_map violation_items vs

-- its bytes
abbrev pub report_bytes : List Violation → List ℕ
report_bytes vs = bytes (report_items vs)

-- the report of a bundle that is not refused
unfoldable pub report : Bundle → List ℕ
report b = report_bytes (violations b)
