-- The names of a tree are those of its items, and putting them through a map in the tree is putting them through it in the items,
-- and so in the bytes.
use Prim.Native.Nat.{ℕ, zero, suc, ◌+◌, ◌-◌, ◌/◌, ◌%◌}
use mathlib.Core.Path.{◌≡◌, refl, sym, ap, ap₂, ◌∙◌}
use mathlib.Core.List.{List, [], ◌∷◌, ◌++◌, map}
use lib.ListN.{length, get_or, length-map}
use Rattle.names.specs.Documents.{Item, byte, name, bytes, names, map_names}
use Rattle.names.specs.Records.{map_bytes}
use Rattle.names.proofs.Items.{names_append, map_names_append}
use Rattle.meaning.specs.Kinds.{body, widths}
use Rattle.meaning.specs.Lists.{flat_map}
use Rattle.meaning.specs.Tree.{Expr, literal, field_ref, sizeof, alignof, binary, unary, Attributes}
use Rattle.meaning.specs.Tree.{Ty, primitive, type_ref, struct, union, enum, array, size_union, Member, member, Members, none, more, Bundle}
use Rattle.meaning.specs.Encoding.{number_items, expr_items, member_count, head_items, type_items, member_items, members_items, definition_items, edge_items, bundle_items, bundle_bytes}
use Rattle.meaning.specs.Renumbering.{expr_names, ty_names, member_names, members_names, bundle_names, map_expr, map_ty, map_member, map_members, map_definition, map_edge, map_bundle}
use Rattle.meaning.specs.Within.{BundleOk}
use Rattle.meaning.proofs.Flat.{bundle_items_lem}

-- The names of the items.

-- of two lists, one after the other
both_names : (d e : List Item) {x y : List ℕ} → names d ≡ x → names e ≡ y → names (d ++ e) ≡ x ++ y
both_names d e p q = names_append d e ∙ ap₂ ◌++◌ p q

each_names : {A : Type 0} (one : A → List Item) (ns : A → List ℕ) → ((a : A) → names (one a) ≡ ns a) → (l : List A) → names (flat_map one l) ≡ flat_map ns l
each_names one ns law [] = refl
each_names one ns law (a ∷ l) = both_names (one a) (flat_map one l) (law a) (each_names one ns law l)

number_names : (w v : ℕ) → names (number_items w v) ≡ []
unfolding number_items
number_names zero v = refl
number_names (suc w) v = number_names w (v / 256)

path_names : (ns : List ℕ) → names (map name ns) ≡ ns
path_names [] = refl
path_names (n ∷ ns) = ap (n ∷◌) (path_names ns)

expr_names_lem : (e : Expr) → names (expr_items e) ≡ expr_names e
unfolding expr_items
expr_names_lem (literal k v) = number_names (get_or widths (k - 1) 0) v
expr_names_lem (field_ref path) = path_names path
expr_names_lem (sizeof x) = refl
expr_names_lem (alignof x) = refl
expr_names_lem (binary k l r) = both_names (expr_items l) (expr_items r) (expr_names_lem l) (expr_names_lem r)
expr_names_lem (unary k e) = expr_names_lem e

-- attributes hold no names
head_names : (k : ℕ) (a : Attributes) (w n : ℕ) (d : List Item) {x : List ℕ} → names d ≡ x → names (byte k ∷ head_items a w n ++ d) ≡ x
unfolding head_items
head_names k a w n d p =
    both_names (head_items a w n) d (both_names (number_items 8 a.aligned) (number_items w n) (number_names 8 a.aligned) (number_names w n)) p

mutual
  unfolding type_items

  type_names_lem : (t : Ty) → names (type_items t) ≡ ty_names t
  type_names_lem (primitive k) = refl
  type_names_lem (type_ref x) = refl
  type_names_lem (struct a ms) = head_names 0x41 a 2 (member_count ms) (members_items ms 0x50 0) (members_names_lem ms 0x50 0)
  type_names_lem (union a ms) = head_names 0x42 a 2 (member_count ms) (members_items ms 0x51 0) (members_names_lem ms 0x51 0)
  type_names_lem (enum a tag ms) =
      both_names (byte 0x43 ∷ head_items a 2 (member_count ms) ++ expr_items tag) (members_items ms 0x52 8)
      (head_names 0x43 a 2 (member_count ms) (expr_items tag) (expr_names_lem tag)) (members_names_lem ms 0x52 8)
  type_names_lem (array a jagged size element) =
      both_names (byte 0x44 ∷ head_items a 1 jagged ++ expr_items size) (type_items element)
      (head_names 0x44 a 1 jagged (expr_items size) (expr_names_lem size)) (type_names_lem element)
  type_names_lem (size_union a ms) = head_names 0x45 a 2 (member_count ms) (members_items ms 0x53 8) (members_names_lem ms 0x53 8)

  member_names_lem : (m : Member) (k w : ℕ) → names (member_items m k w) ≡ member_names m
  member_names_lem (member n v t) k w = both_names (byte k ∷ name n ∷ number_items w v) (type_items t) (ap (n ∷◌) (number_names w v)) (type_names_lem t)

  members_names_lem : (ms : Members) (k w : ℕ) → names (members_items ms k w) ≡ members_names ms
  members_names_lem none k w = refl
  members_names_lem (more m ms) k w = both_names (member_items m k w) (members_items ms k w) (member_names_lem m k w) (members_names_lem ms k w)

-- the names of a bundle's items are those of its tree
pub bundle_names_lem : (b : Bundle) → names (bundle_items b) ≡ bundle_names b
unfolding bundle_items number_items definition_items edge_items
bundle_names_lem b =
    ap (b.current ∷◌)
    (both_names (flat_map definition_items b.definitions) (flat_map edge_items b.edges)
    (each_names definition_items (λ d. d.name ∷ ty_names d.type) (λ d. ap (d.name ∷◌) (type_names_lem d.type)) b.definitions)
    (each_names edge_items (λ e. e.from ∷ e.to ∷ []) (λ e. refl) b.edges))

-- Every name put through f.
module _ (f : ℕ → ℕ) where
  both_mapped : (d e : List Item) {x y : List Item} → x ≡ map_names f d → y ≡ map_names f e → x ++ y ≡ map_names f (d ++ e)
  both_mapped d e p q = ap₂ ◌++◌ p q ∙ sym (map_names_append f d e)

  each_mapped : {A : Type 0} (one : A → List Item) (g : A → A) → ((a : A) → one (g a) ≡ map_names f (one a)) → (l : List A) → flat_map one (map g l) ≡ map_names f (flat_map one l)
  each_mapped one g law [] = refl
  each_mapped one g law (a ∷ l) = both_mapped (one a) (flat_map one l) (law a) (each_mapped one g law l)

  number_mapped : (w v : ℕ) → number_items w v ≡ map_names f (number_items w v)
  unfolding number_items
  number_mapped zero v = refl
  number_mapped (suc w) v = ap (byte (v % 256) ∷◌) (number_mapped w (v / 256))

  path_mapped : (ns : List ℕ) → map name (map f ns) ≡ map_names f (map name ns)
  path_mapped [] = refl
  path_mapped (n ∷ ns) = ap (name (f n) ∷◌) (path_mapped ns)

  expr_mapped : (e : Expr) → expr_items (map_expr f e) ≡ map_names f (expr_items e)
  unfolding expr_items
  expr_mapped (literal k v) = ap (byte k ∷◌) (number_mapped (get_or widths (k - 1) 0) v)
  expr_mapped (field_ref path) = ap₂ (λ k l. byte (8 + k) ∷ l) (length-map path f) (path_mapped path)
  expr_mapped (sizeof x) = refl
  expr_mapped (alignof x) = refl
  expr_mapped (binary k l r) = both_mapped (byte k ∷ expr_items l) (expr_items r) (ap (byte k ∷◌) (expr_mapped l)) (expr_mapped r)
  expr_mapped (unary k e) = ap (byte k ∷◌) (expr_mapped e)

  pub count_mapped : (ms : Members) → member_count (map_members f ms) ≡ member_count ms
  unfolding member_count
  count_mapped none = refl
  count_mapped (more m ms) = ap suc (count_mapped ms)

  head_mapped : (k : ℕ) (a : Attributes) (w m n : ℕ) (d : List Item) {x : List Item} → m ≡ n → x ≡ map_names f d
      → byte k ∷ head_items a w m ++ x ≡ map_names f (byte k ∷ head_items a w n ++ d)
  unfolding head_items
  head_mapped k a w m n d same p =
      both_mapped (byte k ∷ byte a.packed ∷ number_items 8 a.aligned ++ number_items w n) d
      (ap (λ l. byte k ∷ byte a.packed ∷ l)
      (ap (λ j. number_items 8 a.aligned ++ number_items w j) same
      ∙ both_mapped (number_items 8 a.aligned) (number_items w n) (number_mapped 8 a.aligned) (number_mapped w n)))
      p

  mutual
    unfolding type_items

    type_mapped : (t : Ty) → type_items (map_ty f t) ≡ map_names f (type_items t)
    type_mapped (primitive k) = refl
    type_mapped (type_ref x) = refl
    type_mapped (struct a ms) = head_mapped 0x41 a 2 (member_count (map_members f ms)) (member_count ms) (members_items ms 0x50 0) (count_mapped ms) (members_mapped ms 0x50 0)
    type_mapped (union a ms) = head_mapped 0x42 a 2 (member_count (map_members f ms)) (member_count ms) (members_items ms 0x51 0) (count_mapped ms) (members_mapped ms 0x51 0)
    type_mapped (enum a tag ms) =
        both_mapped (byte 0x43 ∷ head_items a 2 (member_count ms) ++ expr_items tag) (members_items ms 0x52 8)
        (head_mapped 0x43 a 2 (member_count (map_members f ms)) (member_count ms) (expr_items tag) (count_mapped ms) (expr_mapped tag)) (members_mapped ms 0x52 8)
    type_mapped (array a jagged size element) =
        both_mapped (byte 0x44 ∷ head_items a 1 jagged ++ expr_items size) (type_items element)
        (head_mapped 0x44 a 1 jagged jagged (expr_items size) refl (expr_mapped size)) (type_mapped element)
    type_mapped (size_union a ms) = head_mapped 0x45 a 2 (member_count (map_members f ms)) (member_count ms) (members_items ms 0x53 8) (count_mapped ms) (members_mapped ms 0x53 8)

    member_mapped : (m : Member) (k w : ℕ) → member_items (map_member f m) k w ≡ map_names f (member_items m k w)
    member_mapped (member n v t) k w =
        both_mapped (byte k ∷ name n ∷ number_items w v) (type_items t) (ap (λ l. byte k ∷ name (f n) ∷ l) (number_mapped w v)) (type_mapped t)

    members_mapped : (ms : Members) (k w : ℕ) → members_items (map_members f ms) k w ≡ map_names f (members_items ms k w)
    members_mapped none k w = refl
    members_mapped (more m ms) k w = both_mapped (member_items m k w) (members_items ms k w) (member_mapped m k w) (members_mapped ms k w)

  -- mapping names over a tree is mapping them in its items
  pub bundle_mapped : (b : Bundle) → bundle_items (map_bundle f b) ≡ map_names f (bundle_items b)
  unfolding bundle_items number_items definition_items edge_items
  bundle_mapped b =
      let ds = b.definitions in
      let es = b.edges in
      ap₂ (λ d e. byte 0x60 ∷ number_items 2 d ++ number_items 2 e ++ name (f b.current) ∷ flat_map definition_items (map (map_definition f) ds) ++ flat_map edge_items (map (map_edge f) es))
      (length-map ds (map_definition f)) (length-map es (map_edge f))
      ∙ ap (λ l. byte 0x60 ∷ number_items 2 (length ds) ++ number_items 2 (length es) ++ name (f b.current) ∷ l)
      (both_mapped (flat_map definition_items ds) (flat_map edge_items es)
      (each_mapped definition_items (map_definition f) (λ d. ap (λ l. byte 0x61 ∷ name (f d.name) ∷ l) (type_mapped d.type)) ds)
      (each_mapped edge_items (map_edge f) (λ e. refl) es))

  -- and in its bytes
  pub bundle_map_bytes : (b : Bundle) → BundleOk b → map_bytes body f (bundle_bytes b) ≡ bundle_bytes (map_bundle f b)
  unfolding bundle_bytes
  bundle_map_bytes b o = ap (λ d. bytes (map_names f d)) (bundle_items_lem b o) ∙ ap bytes (sym (bundle_mapped b))
