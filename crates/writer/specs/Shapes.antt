-- What the writer's parts stand for: the fields of a record's body (the meaning's Writing.antt).
use Rattle.std.specs.Prelude.{ℕ, ◌+◌, ◌≤◌, Bool, true, ◌||◌, List, [], ◌∷◌, ◌≡◌, Result, Ok, Err, map, eqb, ⊤}
use Rattle.std.proofs.Math.Option.{Option, none, some}
use Rattle.meaning.specs.Kinds.{Literal, FieldRef, Sizeof, Alignof, Binary, Unary}
use Rattle.meaning.specs.Kinds.{Form, OfExpr, OfType, OfMember, OfRecord, Unknown}
use Rattle.meaning.specs.Writing.{Field, numeric, named, most, fault, first_fault}
use Rattle.refusal.specs.declared.Refusal.{Refusal}
use Rattle.refusal.specs.Numbers.{number, refusal_of}
use Rattle.writer.specs.declared.Part.{Part}

-- the bytes of a field
abbrev pub width : Field → ℕ
width (numeric w m k) = w
width named = 2

-- the part for a field
abbrev pub part_of : Field → Part
part_of f = record { width = width f; most = most f; refusal = refusal_of (fault f) }

-- the parts for the fields of a body
abbrev pub parts_of : List Field → List Part
parts_of fs = map part_of fs

-- these are the parts for the fields of a kind
abbrev pub ArePartsOf : Option (List Field) → List Part → Type 0
ArePartsOf none ps = ⊥
ArePartsOf (some fs) ps = ps ≡ parts_of fs

-- the field that a part stands for
abbrev pub field_of : Part → Field
field_of p = numeric p.width p.most (number p.refusal)

-- the fields that parts stand for
abbrev pub fields_in : List Part → List Field
fields_in ps = map field_of ps

-- the bytes of parts
abbrev pub size_of : List Part → ℕ
size_of [] = 0
size_of (p ∷ ps) = p.width + size_of ps

-- each part has at most eight bytes
abbrev pub Narrow : List Part → Type 0
Narrow [] = ⊤
Narrow (p ∷ ps) = (p.width ≤ 8) × Narrow ps

-- the bytes of a record of these parts, or the refusal of the first of these values that is too large
abbrev pub Checked : List Part → List ℕ → Result ℕ Refusal → Type 0
Checked ps vs (Ok n) = (first_fault (fields_in ps) vs ≡ none) × (n ≡ 1 + size_of ps)
Checked ps vs (Err r) = first_fault (fields_in ps) vs ≡ some (number r)

-- n is one of these four
abbrev pub one_of : ℕ → ℕ → ℕ → ℕ → ℕ → Bool
one_of a b c d n = eqb n a || (eqb n b || (eqb n c || eqb n d))

-- the bytes of a literal, and the names of a path
abbrev pub is_width : ℕ → Bool
is_width w = one_of 1 2 4 8 w

abbrev pub is_count : ℕ → Bool
is_count n = one_of 1 2 3 4 n

-- the numbers of a form are those of some kind
abbrev pub sound : Form → Bool
sound (OfExpr (Literal w)) = is_width w
sound (OfExpr (FieldRef n)) = is_count n
sound (OfExpr Sizeof) = true
sound (OfExpr Alignof) = true
sound (OfExpr Binary) = true
sound (OfExpr Unary) = true
sound (OfType f) = true
sound (OfMember w) = true
sound (OfRecord before names behind) = true
sound Unknown = true
