-- The checks of each definition and what they find (document 01, "Validators and report" and "Traps").
-- In each check b is the bundle, i the number of the definition that is checked, and e, a or s its name.
use Rattle.std.specs.Prelude.{ℕ, List, [], ◌∷◌, map, Bool, false, not, cond, ◌&&◌, ◌||◌, eqb, ltb, length, get_or}
use Rattle.std.proofs.Math.Option
use Rattle.std.proofs.Math.Option.{Option, none, some}
use Rattle.meaning.specs.Chain.{Graph, chain_of}
use Rattle.meaning.specs.Tree.{Expr, Ty, primitive, type_ref, struct, union, enum, array, size_union, Member, Members, Bundle}
use Rattle.meaning.specs.Lists.{enumerate, flat_map, filter_map, push, or_else, and_then, find_map, any, first_index, last_index, holds, only_if, precedes, same_list}
use Rattle.meaning.specs.Lookup.{list_of, member_name, member_type, find_type, as_type_ref, as_struct, is_struct, refers_to, Target, parse_field_reference, names_field}
use Rattle.meaning.specs.References.{collect_field_references_recursive, collect_field_references_in_type_kind}
use Rattle.meaning.specs.Sizes.{is_enum_with_constant_size_variants, named_size_depends, inline_size_depends, contains_jagged_array}

-- The types of violations, by document 01's numbers.

abbrev pub enum_forward : ℕ
enum_forward = 1

abbrev pub enum_cycle : ℕ
enum_cycle = 2

abbrev pub array_cycle : ℕ
array_cycle = 3

abbrev pub field_forward : ℕ
field_forward = 4

abbrev pub variable_element : ℕ
variable_element = 5

abbrev pub jagged_reference : ℕ
jagged_reference = 6

abbrev pub jagged_inline : ℕ
jagged_inline = 7

abbrev pub nested_jagged : ℕ
nested_jagged = 8

-- what a check finds
pub record Violation : Type 0 where
  pub definition : ℕ  -- the definition's number, from 0
  pub type : ℕ  -- 1 to 8, as above
  pub name : ℕ  -- the violating name
  pub path : List ℕ  -- at most four names
  pub chain : List ℕ

-- a violation of that type by definition i of the name n
abbrev pub violation : ℕ → ℕ → ℕ → List ℕ → List ℕ → Violation
violation type i n path chain = record { definition = i; type = type; name = n; path = path; chain = chain }

-- the edges, for the chain search
abbrev pub graph : Bundle → Graph
graph b = record {
  count = length b.edges;
  from = λ e. get_or (map (λ x. x.from) b.edges) e 0;
  to = λ e. get_or (map (λ x. x.to) b.edges) e 0;
}

-- the chain from one name to another (the search's Chain.antt)
unfoldable pub find_layout_dependency_chain : Bundle → ℕ → ℕ → Option (List ℕ)
find_layout_dependency_chain b from to = chain_of (graph b) from to

-- the fields of the first definition of n, if that is a struct
unfoldable pub struct_of : Bundle → ℕ → Option (List Member)
struct_of b n = and_then (find_type b n) as_struct

-- Enums.

-- some definition of the name s, not only the first, is a struct with a field that is a TypeRef to e
unfoldable pub is_enum_referencing_same_container_struct : Bundle → ℕ → ℕ → Bool
is_enum_referencing_same_container_struct b e s =
    any (λ d. eqb d.name s && holds (any (λ m. refers_to e (member_type m))) (as_struct d.type)) b.definitions

-- of the fields, the last that is a TypeRef to e stands before the last that has the referenced name
abbrev pub stands_before : ℕ → List ℕ → List Member → Bool
stands_before e field fields = precedes (last_index (λ m. refers_to e (member_type m)) fields) (last_index (names_field field) fields)

-- type 1: the enum stands before the referenced field in the first struct of the name, and its variants are not of constant size
unfoldable pub check_enum_forward_reference_in_same_struct : Bundle → ℕ → ℕ → Target → Option Violation
check_enum_forward_reference_in_same_struct b i e target =
    only_if (holds (stands_before e target.field) (struct_of b target.type) && not (holds is_enum_with_constant_size_variants (find_type b e)))
    (some (violation enum_forward i e (target.type ∷ target.field) (target.type ∷ e ∷ target.field)))

-- type 1 for a reference into a struct that holds the enum; type 2 for any other, where the enum's size depends on its tag
unfoldable pub check_enum_tag_layout_cycle : Bundle → ℕ → ℕ → List ℕ → Option Violation
check_enum_tag_layout_cycle b i e path =
    let target = parse_field_reference b.current path in
    cond (is_enum_referencing_same_container_struct b e target.type)
    (check_enum_forward_reference_in_same_struct b i e target)
    (only_if (holds (named_size_depends b) (find_type b e))
    (Option.map (violation enum_cycle i e path) (find_layout_dependency_chain b target.type e)))

-- the violations of an enum: for each reference of its tag
unfoldable pub validate_enum_tag_constraints : Bundle → ℕ → ℕ → Expr → List Violation
validate_enum_tag_constraints b i e tag = filter_map (check_enum_tag_layout_cycle b i e) (collect_field_references_recursive tag)

-- Arrays.

-- types 6 and 7: the element of a jagged array is to be a struct, or a TypeRef that leads to a struct or nowhere
abbrev pub check_jagged_element_kind : Bundle → ℕ → ℕ → Ty → Option Violation
check_jagged_element_kind b i a (primitive k) = some (violation jagged_inline i a [] (a ∷ []))
check_jagged_element_kind b i a (type_ref n) =
    only_if (holds (λ t. not (is_struct t)) (find_type b n)) (some (violation jagged_reference i a [] (a ∷ n ∷ [])))
check_jagged_element_kind b i a (struct s ms) = none
check_jagged_element_kind b i a (union s ms) = some (violation jagged_inline i a [] (a ∷ []))
check_jagged_element_kind b i a (enum s tag ms) = some (violation jagged_inline i a [] (a ∷ []))
check_jagged_element_kind b i a (array s jagged size element) = some (violation jagged_inline i a [] (a ∷ []))
check_jagged_element_kind b i a (size_union s ms) = some (violation jagged_inline i a [] (a ∷ []))

-- type 8, where the kind of the element passes: no jagged array is inside it
unfoldable pub check_jagged_array_constraints : Bundle → ℕ → ℕ → Ty → Option Violation
check_jagged_array_constraints b i a element =
    or_else (check_jagged_element_kind b i a element) (only_if (contains_jagged_array b element) (some (violation nested_jagged i a [] (a ∷ []))))

-- type 5: the element of an array that is not jagged has a size that depends on field references
unfoldable pub check_array_element_type_size : Bundle → ℕ → ℕ → ℕ → Ty → Option Violation
check_array_element_type_size b i a jagged element =
    cond (eqb jagged 1)
    (check_jagged_array_constraints b i a element)
    (only_if (inline_size_depends b element) (some (violation variable_element i a [] (a ∷ []))))

-- type 3: a chain leads from the type that the size refers to back to the array
unfoldable pub check_array_size_layout_cycle : Bundle → ℕ → ℕ → List ℕ → Option Violation
check_array_size_layout_cycle b i a path =
    Option.map (violation array_cycle i a path) (find_layout_dependency_chain b (parse_field_reference b.current path).type a)

-- the violations of an array: for its element, then for each reference of its size
unfoldable pub validate_array_size_constraints : Bundle → ℕ → ℕ → ℕ → Expr → Ty → List Violation
validate_array_size_constraints b i a jagged size element =
    push (check_array_element_type_size b i a jagged element)
    (filter_map (check_array_size_layout_cycle b i a) (collect_field_references_recursive size))

-- Structs.

-- the reference is one of an enum's tag or of an array's size
abbrev pub type_needs_field_ref_for_layout : Ty → List ℕ → Bool
type_needs_field_ref_for_layout (primitive k) path = false
type_needs_field_ref_for_layout (type_ref n) path = false
type_needs_field_ref_for_layout (struct a ms) path = false
type_needs_field_ref_for_layout (union a ms) path = false
type_needs_field_ref_for_layout (enum a tag ms) path = any (same_list path) (collect_field_references_recursive tag)
type_needs_field_ref_for_layout (array a jagged size element) path = any (same_list path) (collect_field_references_recursive size)
type_needs_field_ref_for_layout (size_union a ms) path = false

-- of the fields, the first that has the referenced name stands after index j
abbrev pub stands_after : ℕ → List ℕ → List Member → Bool
stands_after j field fields = holds (ltb j) (first_index (names_field field) fields)

-- the target is a field of the first struct of the name s, after index j
unfoldable pub is_later_field : Bundle → ℕ → ℕ → Target → Bool
is_later_field b s j target = eqb target.type s && holds (stands_after j target.field) (struct_of b s)

-- type 4, for one reference in the type t of the field f at index j of the struct s
unfoldable pub check_forward_reference : Bundle → ℕ → ℕ → ℕ → ℕ → Ty → List ℕ → Option Violation
check_forward_reference b i s j f t path =
    let target = parse_field_reference b.current path in
    only_if (is_later_field b s j target
    && (named_size_depends b t || type_needs_field_ref_for_layout t path)
    && not (is_enum_with_constant_size_variants t))
    (some (violation field_forward i s path (s ∷ f ∷ target.field)))

-- the first such reference in the definition to which the field's type, a TypeRef, leads
unfoldable pub check_field_layout_dependency : Bundle → ℕ → ℕ → ℕ × Member → Option Violation
check_field_layout_dependency b i s field =
    and_then (as_type_ref (member_type field.1)) (λ n.
    and_then (find_type b n) (λ t.
    find_map (check_forward_reference b i s field.0 (member_name field.1) t) (collect_field_references_in_type_kind t)))

-- the violations of a struct: at most one for each field
unfoldable pub validate_struct_field_constraints : Bundle → ℕ → ℕ → Members → List Violation
validate_struct_field_constraints b i s ms = filter_map (check_field_layout_dependency b i s) (enumerate 0 (list_of ms))

-- All definitions.

-- the violations of definition i, of the name n and this type
abbrev pub validate_type : Bundle → ℕ → ℕ → Ty → List Violation
validate_type b i n (primitive k) = []
validate_type b i n (type_ref m) = []
validate_type b i n (struct a ms) = validate_struct_field_constraints b i n ms
validate_type b i n (union a ms) = []
validate_type b i n (enum a tag ms) = validate_enum_tag_constraints b i n tag
validate_type b i n (array a jagged size element) = validate_array_size_constraints b i n jagged size element
validate_type b i n (size_union a ms) = []

-- the violations of a bundle, definition by definition
unfoldable pub violations : Bundle → List Violation
violations b = flat_map (λ d. validate_type b d.0 d.1.name d.1.type) (enumerate 0 b.definitions)
