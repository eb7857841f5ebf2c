-- Document 01's marked examples that speak of trees, and its example report, each by computation.
use mathlib.Core.Path.{◌≡◌, refl}
use mathlib.Core.List.{[], ◌∷◌}
use mathlib.Core.Bool.{true, false}
use mathlib.Core.Option.{none, some, or_else}
use Rattle.meaning.specs.Chain.{chain_of, first_walk, walk_of, first_of, only_if}
use Rattle.meaning.specs.Tree.{type_ref}
use Rattle.meaning.specs.Small.{edge, edges, one, u8, i8, three, field, tagged, nested, jagged}
use Rattle.meaning.specs.Lookup.{find_type}
use Rattle.meaning.specs.Circle.{leads_to, settled, circles}
use Rattle.meaning.specs.Sizes.{is_enum_with_constant_size_variants, within, answer, named_size_depends, inline_size_depends, contains_jagged_array}
use Rattle.meaning.specs.Violations.{find_layout_dependency_chain, check_jagged_array_constraints, check_array_element_type_size, validate_array_size_constraints, violations}
use Rattle.meaning.specs.Report.{report}

-- chain 5 to 5 without edges: 5
pub chain_self : find_layout_dependency_chain (edges []) 5 5 ≡ some (5 ∷ [])
unfolding find_layout_dependency_chain chain_of first_walk walk_of first_of only_if or_else
chain_self = refl

-- edges 1→2, 1→3, 3→4, 2→4, from 1 to 4: 1, 2, 4
pub chain_first : find_layout_dependency_chain (edges (edge 1 2 ∷ edge 1 3 ∷ edge 3 4 ∷ edge 2 4 ∷ [])) 1 4 ≡ some (1 ∷ 2 ∷ 4 ∷ [])
unfolding find_layout_dependency_chain chain_of first_walk walk_of first_of only_if or_else
chain_first = refl

-- the same with 1→3 first: 1, 3, 4
pub chain_other : find_layout_dependency_chain (edges (edge 1 3 ∷ edge 1 2 ∷ edge 3 4 ∷ edge 2 4 ∷ [])) 1 4 ≡ some (1 ∷ 3 ∷ 4 ∷ [])
unfolding find_layout_dependency_chain chain_of first_walk walk_of first_of only_if or_else
chain_other = refl

-- from 4 to 1: none
pub chain_none : find_layout_dependency_chain (edges (edge 1 2 ∷ edge 1 3 ∷ edge 3 4 ∷ edge 2 4 ∷ [])) 4 1 ≡ none
unfolding find_layout_dependency_chain chain_of first_walk walk_of first_of only_if or_else
chain_none = refl

-- named enum without variants: dependent with a FieldRef tag, not with a literal
pub enum_empty : named_size_depends (one (tagged field [])) (tagged field []) ≡ true
unfolding named_size_depends
enum_empty = refl

pub enum_empty_literal : named_size_depends (one (tagged three [])) (tagged three []) ≡ false
unfolding named_size_depends
enum_empty_literal = refl

-- named enum of U8 and I8 with a FieldRef tag: not dependent; inline: dependent
pub enum_named : named_size_depends (one (tagged field (u8 ∷ i8 ∷ []))) (tagged field (u8 ∷ i8 ∷ [])) ≡ false
unfolding named_size_depends
enum_named = refl

pub enum_inline : inline_size_depends (one (tagged field (u8 ∷ i8 ∷ []))) (tagged field (u8 ∷ i8 ∷ [])) ≡ true
unfolding inline_size_depends
enum_inline = refl

-- one U8 variant: constant-size test false
pub enum_single : is_enum_with_constant_size_variants (tagged field (u8 ∷ [])) ≡ false
enum_single = refl

-- named three-element array of arrays sized by FieldRef: not dependent; inline: dependent
pub array_named : named_size_depends (one nested) nested ≡ false
unfolding named_size_depends
array_named = refl

pub array_inline : inline_size_depends (one nested) nested ≡ true
unfolding inline_size_depends
array_inline = refl

-- jagged array of literal size over an unresolved TypeRef: no violation
pub jagged_unresolved : violations (one (jagged (type_ref 9))) ≡ []
unfolding violations validate_array_size_constraints check_array_element_type_size check_jagged_array_constraints find_type contains_jagged_array answer within
jagged_unresolved = refl

-- definition 1 as TypeRef 1: a circle
pub circle_self : circles (one (type_ref 1)) ≡ true
unfolding circles settled leads_to
circle_self = refl

-- the report of a jagged array of three U8
pub jagged_report : report (one (jagged u8))
    ≡ 0x70 ∷ 0x01 ∷ 0x00 ∷ 0x77 ∷ 0x00 ∷ 0x00 ∷ 0x01 ∷ 0x00 ∷ 0x00 ∷ 0x00 ∷ 0x00 ∷ 0x00 ∷ 0x00 ∷ 0x00 ∷ 0x00 ∷ 0x00 ∷ 0x00
    ∷ 0x01 ∷ 0x00 ∷ 0x7F ∷ 0x01 ∷ 0x00 ∷ []
unfolding report violations validate_array_size_constraints check_array_element_type_size check_jagged_array_constraints find_type contains_jagged_array answer within
jagged_report = refl
