-- The names of a field reference in the bytes, and what the answers of this crate stand for.
use Rattle.std.specs.Prelude.{None, Option, Some}
use Rattle.std.specs.Prelude.{ℕ, ◌+◌, ◌*◌, ◌≤◌, List, length}
use Rattle.std.proofs.Math.Option as option
use Rattle.meaning.specs.Lookup as lookup
use Rattle.meaning.specs.Reader.{names_from}
use Rattle.meaning.specs.Sizes.{get_primitive_size}
use Rattle.sizes.specs.declared.Target.{Target}
use Rattle.sizes.specs.Scan.{path_at}

-- the field reference at a position lies within the bytes
abbrev pub Fit : List ℕ → ℕ → Type 0
Fit s p = p + 1 + 2 * length (path_at s p) ≤ length s

-- a type's name, and a field part
abbrev pub target_meant : List ℕ → Target → lookup.Target
target_meant s t = record { type = t.name; field = names_from s t.at t.count }

-- the size of a primitive of this kind
abbrev pub size_shown : option.Option ℕ → Option ℕ
size_shown option.none = None
size_shown (option.some k) = Some (get_primitive_size k)
