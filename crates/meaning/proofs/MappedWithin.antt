-- A map that sends names to names keeps a tree within the limits.
use Prim.Native.Nat.{ℕ, suc, max}
use mathlib.Core.Path.{◌≡◌, refl, ap, ap₂}
use mathlib.Core.List.{List, [], ◌∷◌, map}
use lib.ListN.{length-map}
use Rattle.names.proofs.Documents.{length_map_names}
use Rattle.meaning.specs.Tree.{Expr, literal, field_ref, sizeof, alignof, binary, unary}
use Rattle.meaning.specs.Tree.{Ty, primitive, type_ref, struct, union, enum, array, size_union, Member, member, Members, none, more, Definition, Edge, Bundle}
use Rattle.meaning.specs.Encoding.{member_count, bundle_items, bundle_bytes}
use Rattle.meaning.specs.Renumbering.{map_expr, map_ty, map_member, map_members, map_definition, map_edge, map_bundle}
use Rattle.meaning.specs.Within.{Fits, Each, ExprOk, expr_depth, TyOk, MemberOk, MembersOk, ty_depth, member_depth, members_depth, DefinitionOk, EdgeOk, BundleOk}
use Rattle.meaning.proofs.Mapped.{count_mapped, bundle_mapped}

each_map : {A : Type 0} (P : A → Type 0) (g : A → A) → ((a : A) → P a → P (g a)) → (l : List A) → Each P l → Each P (map g l)
each_map P g law [] o = tt
each_map P g law (a ∷ l) o = (law a o.0, each_map P g law l o.1)

module _ (f : ℕ → ℕ) where
  -- Levels.

  expr_levels : (e : Expr) → expr_depth (map_expr f e) ≡ expr_depth e
  expr_levels (literal k v) = refl
  expr_levels (field_ref path) = refl
  expr_levels (sizeof x) = refl
  expr_levels (alignof x) = refl
  expr_levels (binary k l r) = ap₂ (λ m n. suc (max m n)) (expr_levels l) (expr_levels r)
  expr_levels (unary k e) = ap suc (expr_levels e)

  mutual
    type_levels : (t : Ty) → ty_depth (map_ty f t) ≡ ty_depth t
    type_levels (primitive k) = refl
    type_levels (type_ref x) = refl
    type_levels (struct a ms) = ap suc (members_levels ms)
    type_levels (union a ms) = ap suc (members_levels ms)
    type_levels (enum a tag ms) = ap₂ (λ m n. suc (max m n)) (expr_levels tag) (members_levels ms)
    type_levels (array a jagged size element) = ap₂ (λ m n. suc (max m n)) (expr_levels size) (type_levels element)
    type_levels (size_union a ms) = ap suc (members_levels ms)

    member_levels : (m : Member) → member_depth (map_member f m) ≡ member_depth m
    member_levels (member n v t) = type_levels t

    members_levels : (ms : Members) → members_depth (map_members f ms) ≡ members_depth ms
    members_levels none = refl
    members_levels (more m ms) = ap₂ max (member_levels m) (members_levels ms)

  -- Numbers and kinds.
  module _ (law : (n : ℕ) → Fits 2 n → Fits 2 (f n)) where
    expr_within : (e : Expr) → ExprOk e → ExprOk (map_expr f e)
    expr_within (literal k v) o = o
    expr_within (field_ref path) o = (rw length-map o.0, each_map (Fits 2) f law path o.1)
    expr_within (sizeof x) o = law x o
    expr_within (alignof x) o = law x o
    expr_within (binary k l r) o = (o.0, expr_within l o.1, expr_within r o.2)
    expr_within (unary k e) o = (o.0, expr_within e o.1)

    count_within : (ms : Members) → Fits 2 (member_count ms) → Fits 2 (member_count (map_members f ms))
    count_within ms o = rw (count_mapped f ms) o

    mutual
      type_within : (t : Ty) → TyOk t → TyOk (map_ty f t)
      type_within (primitive k) o = o
      type_within (type_ref x) o = law x o
      type_within (struct a ms) o = (o.0, count_within ms o.1, members_within ms 0 o.2)
      type_within (union a ms) o = (o.0, count_within ms o.1, members_within ms 0 o.2)
      type_within (enum a tag ms) o = (o.0, count_within ms o.1, expr_within tag o.2, members_within ms 8 o.3)
      type_within (array a jagged size element) o = (o.0, o.1, expr_within size o.2, type_within element o.3)
      type_within (size_union a ms) o = (o.0, count_within ms o.1, members_within ms 8 o.2)

      member_within : (m : Member) (w : ℕ) → MemberOk m w → MemberOk (map_member f m) w
      member_within (member n v t) w o = (law n o.0, o.1, type_within t o.2)

      members_within : (ms : Members) (w : ℕ) → MembersOk ms w → MembersOk (map_members f ms) w
      members_within none w o = tt
      members_within (more m ms) w o = (member_within m w o.0, members_within ms w o.1)

    definition_within : (d : Definition) → DefinitionOk d → DefinitionOk (map_definition f d)
    definition_within d o = (law d.name o.0, type_within d.type o.1, rw (type_levels d.type) o.2)

    edge_within : (e : Edge) → EdgeOk e → EdgeOk (map_edge f e)
    edge_within e o = (law e.from o.0, law e.to o.1, o.2)

    -- a bundle
    pub mapped_within : (b : Bundle) → BundleOk b → BundleOk (map_bundle f b)
    unfolding bundle_bytes
    mapped_within b o = record {
      definitions = (rw length-map o.definitions.0, each_map DefinitionOk (map_definition f) definition_within b.definitions o.definitions.1);
      edges = (rw length-map o.edges.0, each_map EdgeOk (map_edge f) edge_within b.edges o.edges.1);
      current = law b.current o.current;
      size = rw (bundle_mapped f b, length_map_names f (bundle_items b)) o.size;
    }
