-- How the checks find definitions and fields, and what a written field reference means (document 01, "References in expressions").
use Rattle.std.specs.Prelude.{ℕ, List, [], ◌∷◌, map, Bool, true, false, eqb, length}
use Rattle.std.proofs.Math.Option.{Option, none, some}
use Rattle.std.proofs.Math.ListN.{get_elem?}
use Rattle.names.specs.Names.{place}
use Rattle.meaning.specs.Tree.{Ty, primitive, type_ref, struct, union, enum, array, size_union, Member, member, Members, more, Bundle}
use Rattle.meaning.specs.Lists.{holds}

-- the fields or variants as a list
abbrev pub list_of : Members → List Member
list_of Members.none = []
list_of (more m ms) = m ∷ list_of ms

-- the name of a field or variant
abbrev pub member_name : Member → ℕ
member_name (member n v t) = n

-- the type of a field or variant
abbrev pub member_type : Member → Ty
member_type (member n v t) = t

-- how many definitions there are
abbrev pub count : Bundle → ℕ
count b = length b.definitions

-- the type of definition i, counted from 0
abbrev pub type_at : Bundle → ℕ → Option Ty
type_at b i = get_elem? (map (λ d. d.type) b.definitions) i

-- the number of the first definition of the name n; the count of definitions where there is none
abbrev pub definition_of : Bundle → ℕ → ℕ
definition_of b n = place (map (λ d. d.name) b.definitions) n

-- the type of the first definition of the name n, where there is one
unfoldable pub find_type : Bundle → ℕ → Option Ty
find_type b n = type_at b (definition_of b n)

-- the kind of a primitive type
abbrev pub as_primitive : Ty → Option ℕ
as_primitive (primitive k) = some k
as_primitive (type_ref n) = none
as_primitive (struct a ms) = none
as_primitive (union a ms) = none
as_primitive (enum a tag ms) = none
as_primitive (array a jagged size element) = none
as_primitive (size_union a ms) = none

-- the name that a TypeRef refers to
abbrev pub as_type_ref : Ty → Option ℕ
as_type_ref (primitive k) = none
as_type_ref (type_ref n) = some n
as_type_ref (struct a ms) = none
as_type_ref (union a ms) = none
as_type_ref (enum a tag ms) = none
as_type_ref (array a jagged size element) = none
as_type_ref (size_union a ms) = none

-- the fields of a struct
abbrev pub as_struct : Ty → Option (List Member)
as_struct (primitive k) = none
as_struct (type_ref n) = none
as_struct (struct a ms) = some (list_of ms)
as_struct (union a ms) = none
as_struct (enum a tag ms) = none
as_struct (array a jagged size element) = none
as_struct (size_union a ms) = none

-- the type is a struct
abbrev pub is_struct : Ty → Bool
is_struct t = holds (λ fields. true) (as_struct t)

-- the type is a TypeRef to the name n
abbrev pub refers_to : ℕ → Ty → Bool
refers_to n t = holds (eqb n) (as_type_ref t)

-- what a written reference means: a type's name, and a field part of one to three names
pub record Target : Type 0 where
  pub type : ℕ
  pub field : List ℕ

-- one name is a field of the bundle's current name (0 where none is set); else the first name is the type, and the rest the field
abbrev pub parse_field_reference : ℕ → List ℕ → Target
parse_field_reference current [] = record { type = current; field = [] }
parse_field_reference current (n ∷ []) = record { type = current; field = n ∷ [] }
parse_field_reference current (t ∷ n ∷ ns) = record { type = t; field = n ∷ ns }

-- the field part is the name n: a field part of two or three names equals no field's name
abbrev pub is_field : List ℕ → ℕ → Bool
is_field [] n = false
is_field (f ∷ []) n = eqb f n
is_field (f ∷ g ∷ gs) n = false

-- the field part names the member
abbrev pub names_field : List ℕ → Member → Bool
names_field field m = is_field field (member_name m)
