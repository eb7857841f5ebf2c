-- The records of a run of bytes, one after another, and the field references among them.
use Rattle.std.specs.Prelude.{None, Option, Some}
use Rattle.std.specs.Prelude.{ℕ, zero, suc, ◌+◌, ◌-◌, ◌*◌, ◌≤◌, cond, List, [], ◌∷◌, map, ltb, length}
use Rattle.meaning.specs.Kinds.{Literal, FieldRef, Sizeof, Alignof, Binary, Unary}
use Rattle.meaning.specs.Kinds.{Form, OfExpr, OfType, OfMember, OfRecord, Unknown}
use Rattle.meaning.specs.Limits.{depth_limit}
use Rattle.meaning.specs.Reader.{Read, ok, refused, names_from}
use Rattle.meaning.specs.ReadType.{read_ty}
use Rattle.scan.specs.Scan.{record_length, is_size_union, form_at}

-- where reading ended, or z where it was refused
abbrev pub end_or : {A : Type 0} → ℕ → Read A → ℕ
end_or z (ok a m) = m
end_or z (refused k) = z

-- where a scan for references goes on behind a record of this form: at its end, or behind the whole of a size-discriminated union
unfoldable pub next_at : Form → List ℕ → ℕ → ℕ
next_at f s at = cond (is_size_union f) (end_or (at + 1) (read_ty depth_limit s at)) (at + record_length f)

-- the count of names, where the form is a field reference's
unfoldable pub names_in : Form → Option ℕ
names_in (OfExpr (Literal w)) = None
names_in (OfExpr (FieldRef n)) = Some n
names_in (OfExpr Sizeof) = None
names_in (OfExpr Alignof) = None
names_in (OfExpr Binary) = None
names_in (OfExpr Unary) = None
names_in (OfType f) = None
names_in (OfMember w) = None
names_in (OfRecord before names behind) = None
names_in Unknown = None

-- the names at a position, as many as there is a count of
abbrev pub names_at : List ℕ → ℕ → Option ℕ → List ℕ
names_at s at None = []
names_at s at (Some n) = names_from s at n

-- the path of the field reference at a position, as it is written
unfoldable pub path_at : List ℕ → ℕ → List ℕ
path_at s at = names_at s (at + 1) (names_in (form_at s at))

-- p in front of the list, where it is a field reference
abbrev pub also : Option ℕ → ℕ → List ℕ → List ℕ
also None p ps = ps
also (Some n) p ps = p ∷ ps

-- the positions of the field references in the n bytes at a position, whose next record starts at `next`
unfoldable pub positions : List ℕ → ℕ → ℕ → ℕ → List ℕ
positions s zero next at = []
positions s (suc n) next at =
    cond (ltb at next) (positions s n next (suc at))
    (also (names_in (form_at s at)) at (positions s n (next_at (form_at s at) s at) (suc at)))

-- those from one start of a record to another
unfoldable pub references_from : List ℕ → ℕ → ℕ → List ℕ
references_from s at end = positions s (end - at) at at

-- their paths
abbrev pub paths_from : List ℕ → ℕ → ℕ → List (List ℕ)
paths_from s at end = map (path_at s) (references_from s at end)

-- each of the references lies within the bytes
abbrev pub Fits : List ℕ → List ℕ → Type 0
Fits s [] = Unit {0}
Fits s (p ∷ ps) = (p + 1 + 2 * length (path_at s p) ≤ length s) × Fits s ps

-- the first of some positions
abbrev pub found_of : List ℕ → Option ℕ
found_of [] = None
found_of (p ∷ ps) = Some p
