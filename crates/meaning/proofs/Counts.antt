-- A bundle has fewer violations than bytes, so a report's count of two bytes is exact.
use Prim.Native.Nat.{ℕ, suc, ◌+◌, ◌≤◌, ◌<◌}
use mathlib.Core.Path.{◌≡◌, refl, ap}
use mathlib.Core.List.{List, [], ◌∷◌, ◌++◌}
use mathlib.Core.Option.{Option, none, some}
use native.Mathlib.Omega.{arith}
use lib.ListN.{length, length-append}
use Rattle.meaning.specs.Tree.{Expr, literal, field_ref, sizeof, alignof, binary, unary, Ty, primitive, type_ref, struct, union, enum, array, size_union, Member, member, Members, more, Definition, Bundle}
use Rattle.meaning.specs.Lists.{enumerate, flat_map, filter_map, push}
use Rattle.meaning.specs.Lookup.{list_of}
use Rattle.meaning.specs.References.{collect_field_references_recursive}
use Rattle.meaning.specs.Violations.{validate_type, validate_enum_tag_constraints, validate_array_size_constraints, validate_struct_field_constraints, check_field_layout_dependency, check_enum_tag_layout_cycle, check_array_element_type_size, check_array_size_layout_cycle, violations}
use Rattle.meaning.specs.Encoding.{bundle_bytes, member_count}
use Rattle.meaning.specs.Within.{BundleOk}
use Rattle.meaning.proofs.Written.{name_bytes, bytes_of, expr_bytes, head_bytes, type_bytes, member_bytes, members_bytes, definition_bytes, edge_bytes, each_bytes, written_bytes, bundle_written}

push_length : {A : Type 0} (o : Option A) (xs : List A) → length (push o xs) ≤ 1 + length xs
push_length none xs = omega arith
push_length (some x) xs = omega arith

filter_map_length : {A B : Type 0} (f : A → Option B) (xs : List A) → length (filter_map f xs) ≤ length xs
filter_map_length f [] = omega arith
filter_map_length f (x ∷ xs) = omega (arith, push_length (f x) (filter_map f xs), filter_map_length f xs)

enumerate_length : {A : Type 0} (k : ℕ) (xs : List A) → length (enumerate k xs) ≡ length xs
enumerate_length k [] = refl
enumerate_length k (x ∷ xs) = ap suc (enumerate_length (suc k) xs)

references_length : (e : Expr) → length (collect_field_references_recursive e) ≤ length (expr_bytes e)
unfolding expr_bytes
references_length (literal k v) = omega arith
references_length (field_ref path) = omega arith
references_length (sizeof n) = omega arith
references_length (alignof n) = omega arith
references_length (binary k l r) =
    omega (arith, length-append (collect_field_references_recursive l) (collect_field_references_recursive r), length-append (expr_bytes l) (expr_bytes r), references_length l, references_length r)
references_length (unary k e) = omega (arith, references_length e)

member_size : (m : Member) (k w : ℕ) → 1 ≤ length (member_bytes m k w)
unfolding type_bytes
member_size (member n v t) k w = omega arith

members_length : (ms : Members) (k w : ℕ) → length (list_of ms) ≤ length (members_bytes ms k w)
unfolding type_bytes
members_length Members.none k w = omega arith
members_length (more m ms) k w = omega (arith, length-append (member_bytes m k w) (members_bytes ms k w), member_size m k w, members_length ms k w)

type_count : (b : Bundle) (i n : ℕ) (t : Ty) → length (validate_type b i n t) ≤ length (type_bytes t)
unfolding validate_enum_tag_constraints validate_array_size_constraints validate_struct_field_constraints type_bytes
type_count b i n (primitive k) = omega arith
type_count b i n (type_ref m) = omega arith
type_count b i n (struct a ms) =
    omega (
      arith,
      filter_map_length (check_field_layout_dependency b i n) (enumerate 0 (list_of ms)),
      enumerate_length 0 (list_of ms),
      members_length ms 0x50 0,
      length-append (head_bytes a 2 (member_count ms)) (members_bytes ms 0x50 0),
    )
type_count b i n (union a ms) = omega arith
type_count b i n (enum a tag ms) =
    omega (
      arith,
      filter_map_length (check_enum_tag_layout_cycle b i n) (collect_field_references_recursive tag),
      references_length tag,
      length-append (head_bytes a 2 (member_count ms) ++ expr_bytes tag) (members_bytes ms 0x52 8),
      length-append (head_bytes a 2 (member_count ms)) (expr_bytes tag),
    )
type_count b i n (array a jagged size element) =
    omega (
      arith,
      push_length (check_array_element_type_size b i n jagged element) (filter_map (check_array_size_layout_cycle b i n) (collect_field_references_recursive size)),
      filter_map_length (check_array_size_layout_cycle b i n) (collect_field_references_recursive size),
      references_length size,
      length-append (head_bytes a 1 jagged ++ expr_bytes size) (type_bytes element),
      length-append (head_bytes a 1 jagged) (expr_bytes size),
    )
type_count b i n (size_union a ms) = omega arith

definitions_count : (b : Bundle) (k : ℕ) (ds : List Definition)
    → length (flat_map (λ d. validate_type b d.0 d.1.name d.1.type) (enumerate k ds)) ≤ length (each_bytes definition_bytes ds)
unfolding each_bytes definition_bytes name_bytes
definitions_count b k [] = omega arith
definitions_count b k (d ∷ ds) =
    rw length-append (omega (arith, length-append (definition_bytes d) (each_bytes definition_bytes ds), type_count b k d.name d.type, definitions_count b (suc k) ds))

-- a bundle has no more violations than bytes
pub violations_count : (b : Bundle) → length (violations b) ≤ length (bundle_bytes b)
unfolding violations written_bytes
violations_count b =
    let xs = 0x60 ∷ bytes_of 2 (length b.definitions) ++ bytes_of 2 (length b.edges) ++ name_bytes b.current in
    let ds = each_bytes definition_bytes b.definitions in
    let es = each_bytes edge_bytes b.edges in
    rw bundle_written
    (omega (arith, definitions_count b 0 b.definitions, length-append (xs ++ ds) es, length-append xs ds))

-- the count of a report is below 65,536
pub violations_few : (b : Bundle) → BundleOk b → length (violations b) < 65536
violations_few b o = omega (arith, violations_count b, o.size)
