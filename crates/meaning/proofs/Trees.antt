-- Trees with every name put through a map: what stays, and what changes name by name.
use Prim.Native.Nat.{ℕ}
use mathlib.Core.Path.{◌≡◌, refl, ap, ap₂, ◌∙◌}
use mathlib.Core.List.{List, [], ◌∷◌, map}
use mathlib.Core.Bool.{◌&&◌}
use mathlib.Core.Option
use mathlib.Core.Option.{Option, none, some}
use Rattle.meaning.specs.Tree.{Expr, literal, field_ref, sizeof, alignof, binary, unary, Ty, primitive, type_ref, struct, union, enum, array, size_union, Member, member, Members, more}
use Rattle.meaning.specs.Lists.{all, holds}
use Rattle.meaning.specs.Lookup.{list_of, as_primitive, as_type_ref, as_struct}
use Rattle.meaning.specs.References.{collect_field_references_recursive, is_constant, collect_field_references_in_type_kind, references_in_member, references_in_members}
use Rattle.meaning.specs.Circle.{type_names, type_names_of_member, type_names_of_members}
use Rattle.meaning.specs.Sizes.{get_primitive_size, has_size, one_size, constant_size_variants, is_enum_with_constant_size_variants}
use Rattle.meaning.proofs.Lists.{map_append}
use Rattle.meaning.specs.Renumbering.{map_expr, map_ty, map_member, map_members}

module _ (f : ℕ → ℕ) where
  pub is_constant_map : (e : Expr) → is_constant (map_expr f e) ≡ is_constant e
  is_constant_map (literal k v) = refl
  is_constant_map (field_ref path) = refl
  is_constant_map (sizeof n) = refl
  is_constant_map (alignof n) = refl
  is_constant_map (binary k l r) = ap₂ ◌&&◌ (is_constant_map l) (is_constant_map r)
  is_constant_map (unary k e) = is_constant_map e

  -- the references of an expression are mapped one by one
  pub references_map : (e : Expr) → collect_field_references_recursive (map_expr f e) ≡ map (map f) (collect_field_references_recursive e)
  references_map (literal k v) = refl
  references_map (field_ref path) = refl
  references_map (sizeof n) = refl
  references_map (alignof n) = refl
  references_map (binary k l r) = rw (map_append, references_map l, references_map r)
  references_map (unary k e) = references_map e

  mutual
    pub type_references_map : (t : Ty) → collect_field_references_in_type_kind (map_ty f t) ≡ map (map f) (collect_field_references_in_type_kind t)
    type_references_map (primitive k) = refl
    type_references_map (type_ref n) = refl
    type_references_map (struct a ms) = members_references_map ms
    type_references_map (union a ms) = members_references_map ms
    type_references_map (enum a tag ms) = rw (map_append, references_map tag, members_references_map ms)
    type_references_map (array a jagged size element) = rw (map_append, references_map size, type_references_map element)
    type_references_map (size_union a ms) = refl

    member_references_map : (m : Member) → references_in_member (map_member f m) ≡ map (map f) (references_in_member m)
    member_references_map (member n v t) = type_references_map t

    members_references_map : (ms : Members) → references_in_members (map_members f ms) ≡ map (map f) (references_in_members ms)
    members_references_map Members.none = refl
    members_references_map (more m ms) = rw (map_append, member_references_map m, members_references_map ms)

  -- the names that a type leads to
  mutual
    pub type_names_map : (t : Ty) → type_names (map_ty f t) ≡ map f (type_names t)
    type_names_map (primitive k) = refl
    type_names_map (type_ref n) = refl
    type_names_map (struct a ms) = type_names_of_members_map ms
    type_names_map (union a ms) = type_names_of_members_map ms
    type_names_map (enum a tag ms) = type_names_of_members_map ms
    type_names_map (array a jagged size element) = type_names_map element
    type_names_map (size_union a ms) = type_names_of_members_map ms

    type_names_of_member_map : (m : Member) → type_names_of_member (map_member f m) ≡ map f (type_names_of_member m)
    type_names_of_member_map (member n v t) = type_names_map t

    type_names_of_members_map : (ms : Members) → type_names_of_members (map_members f ms) ≡ map f (type_names_of_members ms)
    type_names_of_members_map Members.none = refl
    type_names_of_members_map (more m ms) = rw (map_append, type_names_of_member_map m, type_names_of_members_map ms)

  -- views of a type
  pub list_of_map : (ms : Members) → list_of (map_members f ms) ≡ map (map_member f) (list_of ms)
  list_of_map Members.none = refl
  list_of_map (more m ms) = ap (map_member f m ∷◌) (list_of_map ms)

  as_primitive_map : (t : Ty) → as_primitive (map_ty f t) ≡ as_primitive t
  as_primitive_map (primitive k) = refl
  as_primitive_map (type_ref n) = refl
  as_primitive_map (struct a ms) = refl
  as_primitive_map (union a ms) = refl
  as_primitive_map (enum a tag ms) = refl
  as_primitive_map (array a jagged size element) = refl
  as_primitive_map (size_union a ms) = refl

  pub as_type_ref_map : (t : Ty) → as_type_ref (map_ty f t) ≡ Option.map f (as_type_ref t)
  as_type_ref_map (primitive k) = refl
  as_type_ref_map (type_ref n) = refl
  as_type_ref_map (struct a ms) = refl
  as_type_ref_map (union a ms) = refl
  as_type_ref_map (enum a tag ms) = refl
  as_type_ref_map (array a jagged size element) = refl
  as_type_ref_map (size_union a ms) = refl

  pub as_struct_map : (t : Ty) → as_struct (map_ty f t) ≡ Option.map (map (map_member f)) (as_struct t)
  as_struct_map (primitive k) = refl
  as_struct_map (type_ref n) = refl
  as_struct_map (struct a ms) = ap {B = Option (List Member)} some (list_of_map ms)
  as_struct_map (union a ms) = refl
  as_struct_map (enum a tag ms) = refl
  as_struct_map (array a jagged size element) = refl
  as_struct_map (size_union a ms) = refl

  -- the sizes of variants
  has_size_map : (size : ℕ) (m : Member) → has_size size (map_member f m) ≡ has_size size m
  has_size_map size (member n v t) = rw (as_primitive_map t)

  all_size_map : (size : ℕ) (ms : List Member) → all (has_size size) (map (map_member f) ms) ≡ all (has_size size) ms
  all_size_map size [] = refl
  all_size_map size (m ∷ ms) = ap₂ ◌&&◌ (has_size_map size m) (all_size_map size ms)

  one_size_list : (ms : List Member) → one_size (map (map_member f) ms) ≡ one_size ms
  one_size_list [] = refl
  one_size_list (member n v t ∷ ms) =
      ap (holds (λ k. all (has_size (get_primitive_size k)) (map (map_member f) (member n v t ∷ ms)))) (as_primitive_map t) ∙ go (as_primitive t)
    where
      go : (o : Option ℕ) → holds (λ k. all (has_size (get_primitive_size k)) (map (map_member f) (member n v t ∷ ms))) o
          ≡ holds (λ k. all (has_size (get_primitive_size k)) (member n v t ∷ ms)) o
      go none = refl
      go (some k) = all_size_map (get_primitive_size k) (member n v t ∷ ms)

  pub one_size_map : (ms : Members) → one_size (list_of (map_members f ms)) ≡ one_size (list_of ms)
  one_size_map ms = ap one_size (list_of_map ms) ∙ one_size_list (list_of ms)

  constant_variants_list : (ms : List Member) → constant_size_variants (map (map_member f) ms) ≡ constant_size_variants ms
  constant_variants_list [] = refl
  constant_variants_list (m ∷ []) = refl
  constant_variants_list (m ∷ n ∷ ms) = one_size_list (m ∷ n ∷ ms)

  pub constant_size_map : (t : Ty) → is_enum_with_constant_size_variants (map_ty f t) ≡ is_enum_with_constant_size_variants t
  constant_size_map (primitive k) = refl
  constant_size_map (type_ref n) = refl
  constant_size_map (struct a ms) = refl
  constant_size_map (union a ms) = refl
  constant_size_map (enum a tag ms) = ap constant_size_variants (list_of_map ms) ∙ constant_variants_list (list_of ms)
  constant_size_map (array a jagged size element) = refl
  constant_size_map (size_union a ms) = refl
