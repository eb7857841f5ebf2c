-- An exchange of names changes no value, no extent and no offset.
use Prim.Native.Nat.{ℕ, zero, suc}
use mathlib.Core.List.{List}
use mathlib.Core.Option.{Option, none, some, map}
use mathlib.Core.Path.{◌≡◌, refl, ap, ap₂, ◌∙◌}
use Rattle.names.specs.Names.{Names, Exchange}
use Rattle.meaning.specs.Lookup.{count, type_at, find_type}
use Rattle.meaning.specs.Renumbering.{bundle_names, map_expr, map_ty, map_member, map_members, map_bundle}
use Rattle.meaning.specs.Tree.{Expr, literal, field_ref, sizeof, alignof, binary, unary, Ty, primitive, type_ref, struct, union, enum, array, size_union, Member, member, Members, more, Bundle}
use Rattle.meaning.proofs.Injective.{Injective, count_map, type_at_map, find_type_map}
use Rattle.meaning.proofs.Equivariance.{left_by_exchange}
use Rattle.fixed_meaning.specs.Extent.{Extent, sized, with_field, with_member, varying, closed, array_of}
use Rattle.fixed_meaning.specs.Value.{operated, value_of}
use Rattle.fixed_meaning.specs.Fixed.{count_by, count_of, measure, measure_member, measure_all, measured, extent_within, extent_of, field_offsets, offsets_in, offsets_within, definition_extent, definition_offsets}

module _ (f : ℕ → ℕ) where
  pub value_same : (e : Expr) → value_of (map_expr f e) ≡ value_of e
  unfolding value_of
  value_same (literal k v) = refl
  value_same (field_ref ns) = refl
  value_same (sizeof n) = refl
  value_same (alignof n) = refl
  value_same (binary k l r) = ap₂ (operated k) (value_same l) (value_same r)
  value_same (unary k e) = refl

  count_same : (e : Expr) → count_of (map_expr f e) ≡ count_of e
  unfolding count_of
  count_same e = ap count_by (value_same e)

  -- where the names have the same extents, so has the type
  module _ (known known' : ℕ → Extent) (h : (n : ℕ) → known' (f n) ≡ known n) where
    mutual
      measure_same : (t : Ty) → measure (map_ty f t) known' ≡ measure t known
      measure_same (primitive k) = refl
      measure_same (type_ref n) = h n
      measure_same (struct a ms) = ap (closed a) (all_same (with_field a.packed) ms (sized 0 1))
      measure_same (union a ms) = ap (closed a) (all_same with_member ms (sized 0 1))
      measure_same (enum a tag ms) = ap (λ e. closed a (varying e)) (all_same with_member ms (sized 0 1))
      measure_same (array a jagged size element) = ap₂ (array_of jagged) (count_same size) (measure_same element)
      measure_same (size_union a ms) = ap (λ e. closed a (varying e)) (all_same with_member ms (sized 0 1))

      member_same : (m : Member) → measure_member (map_member f m) known' ≡ measure_member m known
      member_same (member n v t) = measure_same t

      all_same : (join : Extent → Extent → Extent) (ms : Members) (so : Extent) → measure_all join (map_members f ms) so known' ≡ measure_all join ms so known
      all_same join Members.none so = refl
      all_same join (more m ms) so = ap (λ e. measure_all join (map_members f ms) (join so e) known') (member_same m) ∙ all_same join ms (join so (measure_member m known))

    fields_same : (packed : ℕ) (ms : Members) (so : Extent) → field_offsets packed (map_members f ms) so known' ≡ field_offsets packed ms so known
    unfolding field_offsets
    fields_same packed Members.none so = refl
    fields_same packed (more m ms) so = rw (member_same m, fields_same packed ms (with_field packed so (measure_member m known)))

    measured_same : (o : Option Ty) → measured (map (map_ty f) o) known' ≡ measured o known
    unfolding measured
    measured_same none = refl
    measured_same (some t) = measure_same t

    -- and so are the offsets, where those of the names are
    offsets_same : (through through' : ℕ → List ℕ) → ((n : ℕ) → through' (f n) ≡ through n) → (o : Option Ty) → offsets_in (map (map_ty f) o) known' through' ≡ offsets_in o known through
    unfolding offsets_in
    offsets_same through through' g none = refl
    offsets_same through through' g (some (primitive k)) = refl
    offsets_same through through' g (some (type_ref n)) = g n
    offsets_same through through' g (some (struct a ms)) = fields_same a.packed ms (sized 0 1)
    offsets_same through through' g (some (union a ms)) = refl
    offsets_same through through' g (some (enum a tag ms)) = refl
    offsets_same through through' g (some (array a jagged size element)) = refl
    offsets_same through through' g (some (size_union a ms)) = refl

  module _ (inj : Injective f) (b : Bundle) where
    within_same : (k n : ℕ) → extent_within (map_bundle f b) k (f n) ≡ extent_within b k n
    unfolding extent_within
    within_same zero n = refl
    within_same (suc k) n = rw (find_type_map f inj b n) (measured_same (extent_within b k) (extent_within (map_bundle f b) k) (within_same k) (find_type b n))

    extent_same : (n : ℕ) → extent_of (map_bundle f b) (f n) ≡ extent_of b n
    unfolding extent_of
    extent_same n = ap (λ k. extent_within (map_bundle f b) k (f n)) (count_map f inj b) ∙ within_same (count b) n

    through_same : (k n : ℕ) → offsets_within (map_bundle f b) k (f n) ≡ offsets_within b k n
    unfolding offsets_within
    through_same zero n = refl
    through_same (suc k) n = rw (find_type_map f inj b n) (offsets_same (extent_of b) (extent_of (map_bundle f b)) extent_same (offsets_within b k) (offsets_within (map_bundle f b) k) (through_same k) (find_type b n))

    definition_same : (i : ℕ) → definition_extent (map_bundle f b) i ≡ definition_extent b i
    unfolding definition_extent
    definition_same i = rw (type_at_map f inj b i) (measured_same (extent_of b) (extent_of (map_bundle f b)) extent_same (type_at b i))

    definition_offsets_same : (i : ℕ) → definition_offsets (map_bundle f b) i ≡ definition_offsets b i
    unfolding definition_offsets
    definition_offsets_same i =
        ap (λ k. offsets_in (type_at (map_bundle f b) i) (extent_of (map_bundle f b)) (offsets_within (map_bundle f b) k)) (count_map f inj b)
        ∙ rw (type_at_map f inj b i) (offsets_same (extent_of b) (extent_of (map_bundle f b)) extent_same (offsets_within b (count b)) (offsets_within (map_bundle f b) (count b)) (through_same (count b)) (type_at b i))

pub exchanged : (f : Exchange) (b : Bundle) → Names (bundle_names b) → (i : ℕ)
    → (definition_extent (map_bundle f.to b) i ≡ definition_extent b i) × (definition_offsets (map_bundle f.to b) i ≡ definition_offsets b i)
exchanged f b ok i = (
  left_by_exchange f b ok (λ b. definition_extent b i) (λ h inj c. definition_same h inj c i),
  left_by_exchange f b ok (λ b. definition_offsets b i) (λ h inj c. definition_offsets_same h inj c i),
)
