-- Document 01's marked examples that speak of bytes, computed.
use mathlib.Core.Path.{◌≡◌, refl}
use mathlib.Core.List.{[], ◌∷◌}
use Rattle.meaning.specs.Kinds.{lookup}
use Rattle.meaning.specs.Small.{sample, sample_tree}
use Rattle.meaning.specs.Reader.{ok, due, little, many}
use Rattle.meaning.specs.ReadBundle.{record_body, opening, read_definition, read_header, end, read_edges, read_rest, read_records, read_bundle}
use Rattle.meaning.specs.ReadExpr.{expr_body, expr_after, read_expr}
use Rattle.meaning.specs.ReadType.{head, array_head, read_array, type_body, type_after, read_ty}
use Rattle.meaning.specs.Circle.{leads_to, settled, circles}
use Rattle.meaning.specs.Calls.{refusal, due_of, on_bundle, acceptance}

-- the empty input is refused with 2
pub no_bytes : acceptance [] ≡ refusal 2
unfolding acceptance on_bundle due_of read_bundle read_records read_header opening due
no_bytes = refl

-- definition 1 as TypeRef 1 is refused with 8
pub own_reference : acceptance (0x60 ∷ 1 ∷ 0 ∷ 0 ∷ 0 ∷ 0 ∷ 0 ∷ 0x61 ∷ 1 ∷ 0 ∷ 0x40 ∷ 1 ∷ 0 ∷ []) ≡ refusal 8
unfolding acceptance on_bundle due_of read_bundle read_records read_header opening record_body due little many read_definition read_ty type_after type_body read_rest read_edges end lookup circles settled leads_to
own_reference = refl

pub sample_read : read_bundle sample ≡ ok sample_tree 24
unfolding read_bundle read_records read_header opening record_body due little many read_definition read_ty type_after type_body read_array array_head head read_expr expr_after expr_body read_rest read_edges end lookup
sample_read = refl
