-- Bundles hold names: how `bundle_names` and `map_bundle` go together (the instance of names' `Holds`).
use Prim.Native.Nat.{ℕ}
use mathlib.Core.Path.{◌≡◌, refl, sym, ap, ap₂, ◌∙◌, fun_ext}
use mathlib.Core.List.Memᴰ
use mathlib.Core.List.{List, [], ◌∷◌, ◌++◌, map, map-map, map-id, Memᴰ}
use Rattle.names.proofs.Exchanged.{map_same}
use Rattle.names.proofs.Laws.{Holds}
use Rattle.meaning.specs.Tree.{Expr, literal, field_ref, sizeof, alignof, binary, unary, Ty, primitive, type_ref, struct, union, enum, array, size_union, Member, member, Members, more, Definition, Edge, Bundle}
use Rattle.meaning.specs.Lists.{flat_map}
use Rattle.meaning.specs.Renumbering.{expr_names, ty_names, member_names, members_names, bundle_names, map_expr, map_ty, map_member, map_members, map_definition, map_edge, map_bundle}
use Rattle.meaning.proofs.Lists.{map_append, flat_map_map}

-- The map that changes nothing.

map_expr_id : (e : Expr) → map_expr (λ n. n) e ≡ e
map_expr_id (literal k v) = refl
map_expr_id (field_ref path) = ap field_ref (map-id path)
map_expr_id (sizeof n) = refl
map_expr_id (alignof n) = refl
map_expr_id (binary k l r) = ap₂ (binary k) (map_expr_id l) (map_expr_id r)
map_expr_id (unary k e) = ap (unary k) (map_expr_id e)

mutual
  pub map_ty_id : (t : Ty) → map_ty (λ n. n) t ≡ t
  map_ty_id (primitive k) = refl
  map_ty_id (type_ref n) = refl
  map_ty_id (struct a ms) = ap (struct a) (map_members_id ms)
  map_ty_id (union a ms) = ap (union a) (map_members_id ms)
  map_ty_id (enum a tag ms) = ap₂ (enum a) (map_expr_id tag) (map_members_id ms)
  map_ty_id (array a jagged size element) = ap₂ (array a jagged) (map_expr_id size) (map_ty_id element)
  map_ty_id (size_union a ms) = ap (size_union a) (map_members_id ms)

  map_member_id : (m : Member) → map_member (λ n. n) m ≡ m
  map_member_id (member n v t) = ap (member n v) (map_ty_id t)

  map_members_id : (ms : Members) → map_members (λ n. n) ms ≡ ms
  map_members_id Members.none = refl
  map_members_id (more m ms) = ap₂ more (map_member_id m) (map_members_id ms)

-- Two maps that agree on the names.

module _ (f g : ℕ → ℕ) where
  abbrev Agree : List ℕ → Type 0
  Agree ns = (n : ℕ) → Memᴰ n ns → f n ≡ g n

  left : (ms ns : List ℕ) → Agree (ms ++ ns) → Agree ms
  left ms ns h n m = h n (Memᴰ.append_left ns m)

  right : (ms ns : List ℕ) → Agree (ms ++ ns) → Agree ns
  right ms ns h n m = h n (Memᴰ.append_right ms m)

  first : (n : ℕ) (ns : List ℕ) → Agree (n ∷ ns) → f n ≡ g n
  first n ns h = h n (Memᴰ.head refl)

  rest : (n : ℕ) (ns : List ℕ) → Agree (n ∷ ns) → Agree ns
  rest n ns h m e = h m (Memᴰ.tail e)

  expr_same : (e : Expr) → Agree (expr_names e) → map_expr f e ≡ map_expr g e
  expr_same (literal k v) h = refl
  expr_same (field_ref path) h = ap field_ref (map_same path h)
  expr_same (sizeof n) h = ap sizeof (first n [] h)
  expr_same (alignof n) h = ap alignof (first n [] h)
  expr_same (binary k l r) h = ap₂ (binary k) (expr_same l (left _ (expr_names r) h)) (expr_same r (right (expr_names l) _ h))
  expr_same (unary k e) h = ap (unary k) (expr_same e h)

  mutual
    ty_same : (t : Ty) → Agree (ty_names t) → map_ty f t ≡ map_ty g t
    ty_same (primitive k) h = refl
    ty_same (type_ref n) h = ap type_ref (first n [] h)
    ty_same (struct a ms) h = ap (struct a) (members_same ms h)
    ty_same (union a ms) h = ap (union a) (members_same ms h)
    ty_same (enum a tag ms) h = ap₂ (enum a) (expr_same tag (left _ (members_names ms) h)) (members_same ms (right (expr_names tag) _ h))
    ty_same (array a jagged size element) h =
        ap₂ (array a jagged) (expr_same size (left _ (ty_names element) h)) (ty_same element (right (expr_names size) _ h))
    ty_same (size_union a ms) h = ap (size_union a) (members_same ms h)

    member_same : (m : Member) → Agree (member_names m) → map_member f m ≡ map_member g m
    member_same (member n v t) h = ap₂ (λ x. member x v) (first n (ty_names t) h) (ty_same t (rest n (ty_names t) h))

    members_same : (ms : Members) → Agree (members_names ms) → map_members f ms ≡ map_members g ms
    members_same Members.none h = refl
    members_same (more m ms) h = ap₂ more (member_same m (left _ (members_names ms) h)) (members_same ms (right (member_names m) _ h))

  -- a list of things, by the things
  list_same : {A : Type 0} (names : A → List ℕ) (through : (ℕ → ℕ) → A → A)
      → ((x : A) → Agree (names x) → through f x ≡ through g x)
      → (xs : List A) → Agree (flat_map names xs) → map (through f) xs ≡ map (through g) xs
  list_same names through each [] h = refl
  list_same names through each (x ∷ xs) h =
      ap₂ ◌∷◌ (each x (left _ (flat_map names xs) h)) (list_same names through each xs (right (names x) _ h))

  definition_same : (d : Definition) → Agree (d.name ∷ ty_names d.type) → map_definition f d ≡ map_definition g d
  definition_same d h =
      ap₂ {C = Definition} (λ n t. record { name = n; type = t }) (first d.name (ty_names d.type) h)
      (ty_same d.type (rest d.name (ty_names d.type) h))

  edge_same : (e : Edge) → Agree (e.from ∷ e.to ∷ []) → map_edge f e ≡ map_edge g e
  edge_same e h =
      ap₂ {C = Edge} (λ m n. record { from = m; to = n; kind = e.kind }) (first e.from _ h) (first e.to [] (rest e.from _ h))

abbrev definition_names : Definition → List ℕ
definition_names d = d.name ∷ ty_names d.type

abbrev edge_names : Edge → List ℕ
edge_names e = e.from ∷ e.to ∷ []

pub bundle_same : (f g : ℕ → ℕ) (b : Bundle) → ((n : ℕ) → Memᴰ n (bundle_names b) → f n ≡ g n) → map_bundle f b ≡ map_bundle g b
bundle_same f g b h = λ i. record {
  current = now i;
  definitions = these i;
  edges = those i;
}
  where
    defs : List ℕ
    defs = flat_map definition_names b.definitions

    ends : List ℕ
    ends = flat_map edge_names b.edges

    now : f b.current ≡ g b.current
    now = first f g b.current (defs ++ ends) h

    these : map (map_definition f) b.definitions ≡ map (map_definition g) b.definitions
    these = list_same f g definition_names map_definition (definition_same f g) b.definitions (left f g _ ends (rest f g b.current (defs ++ ends) h))

    those : map (map_edge f) b.edges ≡ map (map_edge g) b.edges
    those = list_same f g edge_names map_edge (edge_same f g) b.edges (right f g defs _ (rest f g b.current (defs ++ ends) h))

list_id : {A : Type 0} (g : A → A) → ((x : A) → g x ≡ x) → (xs : List A) → map g xs ≡ xs
list_id g each [] = refl
list_id g each (x ∷ xs) = ap₂ ◌∷◌ (each x) (list_id g each xs)

pub map_bundle_id : (b : Bundle) → map_bundle (λ n. n) b ≡ b
map_bundle_id b = ap₂ {C = Bundle} (λ ds es. record { current = b.current; definitions = ds; edges = es })
    (list_id (map_definition (λ n. n)) (λ d. ap {B = Definition} (λ t. record { name = d.name; type = t }) (map_ty_id d.type)) b.definitions)
    (list_id (map_edge (λ n. n)) (λ e. refl) b.edges)

-- The names of a bundle that is put through f.

module _ (f : ℕ → ℕ) where
  expr_names_map : (e : Expr) → expr_names (map_expr f e) ≡ map f (expr_names e)
  expr_names_map (literal k v) = refl
  expr_names_map (field_ref path) = refl
  expr_names_map (sizeof n) = refl
  expr_names_map (alignof n) = refl
  expr_names_map (binary k l r) = rw (map_append, expr_names_map l, expr_names_map r)
  expr_names_map (unary k e) = expr_names_map e

  mutual
    ty_names_map : (t : Ty) → ty_names (map_ty f t) ≡ map f (ty_names t)
    ty_names_map (primitive k) = refl
    ty_names_map (type_ref n) = refl
    ty_names_map (struct a ms) = members_names_map ms
    ty_names_map (union a ms) = members_names_map ms
    ty_names_map (enum a tag ms) = rw (map_append, expr_names_map tag, members_names_map ms)
    ty_names_map (array a jagged size element) = rw (map_append, expr_names_map size, ty_names_map element)
    ty_names_map (size_union a ms) = members_names_map ms

    member_names_map : (m : Member) → member_names (map_member f m) ≡ map f (member_names m)
    member_names_map (member n v t) = ap (f n ∷◌) (ty_names_map t)

    members_names_map : (ms : Members) → members_names (map_members f ms) ≡ map f (members_names ms)
    members_names_map Members.none = refl
    members_names_map (more m ms) = rw (map_append, member_names_map m, members_names_map ms)

  bundle_names_map : (b : Bundle) → bundle_names (map_bundle f b) ≡ map f (bundle_names b)
  bundle_names_map b =
      ap₂ (λ xs ys. f b.current ∷ xs ++ ys)
      (flat_map_map (map_definition f) f definition_names definition_names (λ d. ap (f d.name ∷◌) (ty_names_map d.type)) b.definitions)
      (flat_map_map (map_edge f) f edge_names edge_names (λ e. refl) b.edges)
      ∙ ap (f b.current ∷◌) (sym (map_append f (flat_map definition_names b.definitions) (flat_map edge_names b.edges)))

-- One map after another.

module _ (g f : ℕ → ℕ) where
  expr_through : (e : Expr) → map_expr g (map_expr f e) ≡ map_expr (λ n. g (f n)) e
  expr_through (literal k v) = refl
  expr_through (field_ref path) = ap field_ref (map-map g f path)
  expr_through (sizeof n) = refl
  expr_through (alignof n) = refl
  expr_through (binary k l r) = ap₂ (binary k) (expr_through l) (expr_through r)
  expr_through (unary k e) = ap (unary k) (expr_through e)

  mutual
    ty_through : (t : Ty) → map_ty g (map_ty f t) ≡ map_ty (λ n. g (f n)) t
    ty_through (primitive k) = refl
    ty_through (type_ref n) = refl
    ty_through (struct a ms) = ap (struct a) (members_through ms)
    ty_through (union a ms) = ap (union a) (members_through ms)
    ty_through (enum a tag ms) = ap₂ (enum a) (expr_through tag) (members_through ms)
    ty_through (array a jagged size element) = ap₂ (array a jagged) (expr_through size) (ty_through element)
    ty_through (size_union a ms) = ap (size_union a) (members_through ms)

    member_through : (m : Member) → map_member g (map_member f m) ≡ map_member (λ n. g (f n)) m
    member_through (member n v t) = ap (member (g (f n)) v) (ty_through t)

    members_through : (ms : Members) → map_members g (map_members f ms) ≡ map_members (λ n. g (f n)) ms
    members_through Members.none = refl
    members_through (more m ms) = ap₂ more (member_through m) (members_through ms)

  definition_through : (d : Definition) → map_definition g (map_definition f d) ≡ map_definition (λ n. g (f n)) d
  definition_through d = ap {B = Definition} (λ t. record { name = g (f d.name); type = t }) (ty_through d.type)

  bundle_through : (b : Bundle) → map_bundle g (map_bundle f b) ≡ map_bundle (λ n. g (f n)) b
  bundle_through b =
      ap₂ {C = Bundle} (λ ds es. record { current = g (f b.current); definitions = ds; edges = es })
      (map-map (map_definition g) (map_definition f) b.definitions ∙ ap (λ h. map h b.definitions) (fun_ext definition_through))
      (map-map (map_edge g) (map_edge f) b.edges)

-- so the laws of names' Laws.antt hold of bundles
pub bundle_holds : Holds bundle_names map_bundle
bundle_holds = record { names_through = bundle_names_map; through_same = bundle_same; through_through = bundle_through }
