-- A map of all numbers that sends no two to the same is seen by nothing in the checks: lookups, circles, tests, violations.
--     circles_injective       it keeps circles
--     violations_injective    it maps the violations name by name
use Prim.Native.Nat.{ℕ, zero, suc, ◌<◌}
use mathlib.Core.Path.{◌≡◌, refl, sym, ap, ap₂, ◌∙◌, fun_ext}
use mathlib.Core.List.{List, [], ◌∷◌, map, map-map}
use mathlib.Core.Bool.{Bool, true, false, not, cond, ◌&&◌, ◌||◌}
use mathlib.Core.Option
use mathlib.Core.Option.{Option, none, some}
use native.Mathlib.Omega.{arith}
use native.Mathlib.Nat.{le_of_suc-le-suc}
use lib.Dec.{eqb, ltb}
use lib.ListN.{length, get_or, get_elem?, length-map}
use borrow.Author.Tests.{eqb-true, eqb-false, eq-eqb, ne_eqb}
use Rattle.names.specs.Names.{place}
use Rattle.meaning.specs.Tree.{Expr, Ty, primitive, type_ref, struct, union, enum, array, size_union, Member, member, Members, Definition, Edge, Bundle}
use Rattle.meaning.specs.Lists.{enumerate, flat_map, filter_map, and_then, find_map, any, all, holds, only_if, precedes, same_list}
use Rattle.meaning.specs.Lookup.{list_of, member_type, count, type_at, definition_of, find_type, as_type_ref, as_struct, is_struct, refers_to, Target, parse_field_reference, is_field, names_field}
use Rattle.meaning.specs.References.{collect_field_references_recursive, collect_field_references_in_type_kind}
use Rattle.meaning.specs.Circle.{resolve, names_in, leads_to, settled, numbers_below, circles}
use Rattle.meaning.specs.Sizes.{is_enum_with_constant_size_variants, type_size_depends_on_field_refs, type_contains_jagged_array, Test, within, answer, named_size_depends, inline_size_depends, contains_jagged_array}
use Rattle.meaning.specs.Violations.{Violation, violation, graph, find_layout_dependency_chain, struct_of, is_enum_referencing_same_container_struct, stands_before, stands_after, check_enum_forward_reference_in_same_struct, check_enum_tag_layout_cycle, validate_enum_tag_constraints, check_jagged_element_kind, check_jagged_array_constraints, check_array_element_type_size, check_array_size_layout_cycle, validate_array_size_constraints, type_needs_field_ref_for_layout, is_later_field, check_forward_reference, check_field_layout_dependency, validate_struct_field_constraints, validate_type, violations}
use Rattle.meaning.specs.Renumbering.{map_expr, map_ty, map_member, map_members, map_definition, map_edge, map_bundle, map_violation}
use Rattle.meaning.proofs.Lists.{get_elem?_map, any_map, first_index_map, last_index_map, holds_map, enumerate_map, only_if_map, or_else_map, push_map, and_then_map, filter_map_map, find_map_map, flat_map_map}
use Rattle.meaning.proofs.Trees.{references_map, type_references_map, type_names_map, list_of_map, as_type_ref_map, as_struct_map, constant_size_map}
use Rattle.meaning.proofs.Sizes.{Reads, inline_test, named_test, jagged_test}
use Rattle.meaning.proofs.Chains.{Renamed, chain_of_map}

-- no two numbers are sent to the same
abbrev pub Injective : (ℕ → ℕ) → Type 0
Injective f = (m n : ℕ) → f m ≡ f n → m ≡ n

module _ (f : ℕ → ℕ) (inj : Injective f) where
  -- Numbers and lists.

  pub eqb_map : (m n : ℕ) → eqb (f m) (f n) ≡ eqb m n
  eqb_map m n = go (eqb m n) refl
    where
      go : (t : Bool) → eqb m n ≡ t → eqb (f m) (f n) ≡ t
      go true e = eq-eqb (f m) (f n) (ap f (eqb-true m n e))
      go false e = ne_eqb (f m) (f n) (λ q. eqb-false m n e (inj m n q))

  place_map : (ds : List ℕ) (n : ℕ) → place (map f ds) (f n) ≡ place ds n
  place_map [] n = refl
  place_map (x ∷ xs) n = ap₂ (λ t k. cond t 0 (suc k)) (eqb_map n x) (place_map xs n)

  same_list_map : (xs ys : List ℕ) → same_list (map f xs) (map f ys) ≡ same_list xs ys
  same_list_map [] [] = refl
  same_list_map [] (y ∷ ys) = refl
  same_list_map (x ∷ xs) [] = refl
  same_list_map (x ∷ xs) (y ∷ ys) = ap₂ ◌&&◌ (eqb_map x y) (same_list_map xs ys)

  module _ (b : Bundle) where
    abbrev b' : Bundle
    b' = map_bundle f b

    -- Lookups.

    pub count_map : count b' ≡ count b
    count_map = length-map b.definitions (map_definition f)

    definition_of_map : (n : ℕ) → definition_of b' (f n) ≡ definition_of b n
    definition_of_map n =
        ap (λ ns. place ns (f n)) (map-map (λ d. d.name) (map_definition f) b.definitions ∙ sym (map-map f (λ d. d.name) b.definitions))
        ∙ place_map (map (λ d. d.name) b.definitions) n

    pub type_at_map : (i : ℕ) → type_at b' i ≡ Option.map (map_ty f) (type_at b i)
    type_at_map i =
        ap (λ ts. get_elem? ts i) (map-map (λ d. d.type) (map_definition f) b.definitions ∙ sym (map-map (map_ty f) (λ d. d.type) b.definitions))
        ∙ get_elem?_map (map_ty f) (map (λ d. d.type) b.definitions) i

    pub find_type_map : (n : ℕ) → find_type b' (f n) ≡ Option.map (map_ty f) (find_type b n)
    unfolding find_type
    find_type_map n = ap (type_at b') (definition_of_map n) ∙ type_at_map (definition_of b n)

    -- Circles.

    resolve_map : (ns : List ℕ) → resolve b' (map f ns) ≡ resolve b ns
    resolve_map [] = refl
    resolve_map (n ∷ ns) = rw (definition_of_map n, count_map, resolve_map ns)

    names_in_map : (o : Option Ty) → names_in (Option.map (map_ty f) o) ≡ map f (names_in o)
    names_in_map none = refl
    names_in_map (some t) = type_names_map f t

    leads_to_map : (i : ℕ) → leads_to b' i ≡ leads_to b i
    unfolding leads_to
    leads_to_map i = ap (λ o. resolve b' (names_in o)) (type_at_map i) ∙ ap (resolve b') (names_in_map (type_at b i)) ∙ resolve_map (names_in (type_at b i))

    settled_map : (k i : ℕ) → settled b' k i ≡ settled b k i
    unfolding settled
    settled_map zero i = refl
    settled_map (suc k) i = ap₂ all (fun_ext (settled_map k)) (leads_to_map i)

    pub circles_injective : circles b' ≡ circles b
    unfolding circles
    circles_injective = ap₂ (λ k (p : ℕ → ℕ → Bool). not (all (p k) (numbers_below k))) count_map (fun_ext (λ k. fun_ext (settled_map k)))

    -- Tests.

    within_map : (test : Test) → Reads test → (k n : ℕ) → within test b' k (f n) ≡ within test b k n
    unfolding within
    within_map test reads zero n = refl
    within_map test reads (suc k) n =
        ap (holds (λ t. test t (within test b' k))) (find_type_map n)
        ∙ holds_map (map_ty f) _ (λ t. test t (within test b k))
        (λ t. reads f (within test b k) (within test b' k) t (λ m _. within_map test reads k m)) (find_type b n)

    answer_map : (test : Test) → Reads test → (n : ℕ) → answer test b' (f n) ≡ answer test b n
    unfolding answer
    answer_map test reads n = ap (λ k. within test b' k (f n)) count_map ∙ within_map test reads (count b) n

    named_map : (t : Ty) → named_size_depends b' (map_ty f t) ≡ named_size_depends b t
    unfolding named_size_depends
    named_map t = named_test f _ _ t (λ n _. answer_map type_size_depends_on_field_refs named_test n)

    inline_map : (t : Ty) → inline_size_depends b' (map_ty f t) ≡ inline_size_depends b t
    unfolding inline_size_depends
    inline_map t = inline_test f _ _ t (λ n _. answer_map type_size_depends_on_field_refs named_test n)

    jagged_map : (t : Ty) → contains_jagged_array b' (map_ty f t) ≡ contains_jagged_array b t
    unfolding contains_jagged_array
    jagged_map t = jagged_test f _ _ t (λ n _. answer_map type_contains_jagged_array jagged_test n)

    -- References and fields.

    abbrev map_target : Target → Target
    map_target t = record { type = f t.type; field = map f t.field }

    parse_map : (path : List ℕ) → parse_field_reference b'.current (map f path) ≡ map_target (parse_field_reference b.current path)
    parse_map [] = refl
    parse_map (n ∷ []) = refl
    parse_map (t ∷ n ∷ ns) = refl

    is_field_map : (field : List ℕ) (n : ℕ) → is_field (map f field) (f n) ≡ is_field field n
    is_field_map [] n = refl
    is_field_map (x ∷ []) n = eqb_map x n
    is_field_map (x ∷ y ∷ ys) n = refl

    names_field_map : (field : List ℕ) (m : Member) → names_field (map f field) (map_member f m) ≡ names_field field m
    names_field_map field (member n v t) = is_field_map field n

    refers_to_map : (e : ℕ) (t : Ty) → refers_to (f e) (map_ty f t) ≡ refers_to e t
    refers_to_map e t = ap (holds (eqb (f e))) (as_type_ref_map f t) ∙ holds_map f (eqb (f e)) (eqb e) (eqb_map e) (as_type_ref t)

    member_refers_map : (e : ℕ) (m : Member) → refers_to (f e) (member_type (map_member f m)) ≡ refers_to e (member_type m)
    member_refers_map e (member n v t) = refers_to_map e t

    struct_of_map : (n : ℕ) → struct_of b' (f n) ≡ Option.map (map (map_member f)) (struct_of b n)
    unfolding struct_of
    struct_of_map n = ap (λ o. and_then o as_struct) (find_type_map n) ∙ and_then_map (map_ty f) (map (map_member f)) as_struct as_struct (as_struct_map f) (find_type b n)

    constant_map : (e : ℕ) → holds is_enum_with_constant_size_variants (find_type b' (f e)) ≡ holds is_enum_with_constant_size_variants (find_type b e)
    constant_map e = ap (holds is_enum_with_constant_size_variants) (find_type_map e) ∙ holds_map (map_ty f) _ _ (constant_size_map f) (find_type b e)

    -- Chains.

    get_d_map : (xs : List ℕ) (e : ℕ) → e < length xs → get_or (map f xs) e 0 ≡ f (get_or xs e 0)
    get_d_map [] e l = absurd (omega arith)
    get_d_map (x ∷ xs) zero l = refl
    get_d_map (x ∷ xs) (suc e) l = get_d_map xs e (le_of_suc-le-suc l)

    -- the ends of the edges, by either field
    ends_map : (end : Edge → ℕ) → ((x : Edge) → end (map_edge f x) ≡ f (end x)) → (e : ℕ) → e < length b.edges
        → get_or (map end b'.edges) e 0 ≡ f (get_or (map end b.edges) e 0)
    ends_map end each e l =
        ap (λ ns. get_or ns e 0) (map-map end (map_edge f) b.edges ∙ ap (λ g. map g b.edges) (fun_ext each) ∙ sym (map-map f end b.edges))
        ∙ get_d_map (map end b.edges) e (rw length-map l)

    pub graph_map : Renamed f (graph b) (graph b')
    graph_map = record {
      count = length-map b.edges (map_edge f);
      from = ends_map (λ x. x.from) (λ x. refl);
      to = ends_map (λ x. x.to) (λ x. refl);
    }

    chain_map : (a c : ℕ) → find_layout_dependency_chain b' (f a) (f c) ≡ Option.map (map f) (find_layout_dependency_chain b a c)
    unfolding find_layout_dependency_chain
    chain_map a c = chain_of_map f eqb_map (graph b) (graph b') graph_map a c

    -- the violation for the chain from the type that a reference names
    chain_violation_map : (type i n : ℕ) (path : List ℕ)
        → Option.map (violation type i (f n) (map f path)) (find_layout_dependency_chain b' (parse_field_reference b'.current (map f path)).type (f n))
        ≡ Option.map (map_violation f) (Option.map (violation type i n path) (find_layout_dependency_chain b (parse_field_reference b.current path).type n))
    chain_violation_map type i n path =
        ap (λ t. Option.map (violation type i (f n) (map f path)) (find_layout_dependency_chain b' t.type (f n))) (parse_map path)
        ∙ ap (Option.map (violation type i (f n) (map f path))) (chain_map (parse_field_reference b.current path).type n)
        ∙ go (find_layout_dependency_chain b (parse_field_reference b.current path).type n)
      where
        go : (o : Option (List ℕ))
            → Option.map (violation type i (f n) (map f path)) (Option.map (map f) o) ≡ Option.map (map_violation f) (Option.map (violation type i n path) o)
        go none = refl
        go (some chain) = refl

    -- Enums.

    same_map : (e s : ℕ) → is_enum_referencing_same_container_struct b' (f e) (f s) ≡ is_enum_referencing_same_container_struct b e s
    unfolding is_enum_referencing_same_container_struct
    same_map e s = any_map (map_definition f) _ _ (λ d. ap₂ ◌&&◌ (eqb_map d.name s) (holder d)) b.definitions
      where
        holder : (d : Definition) → holds (any (λ m. refers_to (f e) (member_type m))) (as_struct (map_ty f d.type))
            ≡ holds (any (λ m. refers_to e (member_type m))) (as_struct d.type)
        holder d =
            ap (holds (any (λ m. refers_to (f e) (member_type m)))) (as_struct_map f d.type)
            ∙ holds_map (map (map_member f)) _ (any (λ m. refers_to e (member_type m)))
            (any_map (map_member f) (λ m. refers_to (f e) (member_type m)) (λ m. refers_to e (member_type m)) (member_refers_map e)) (as_struct d.type)

    stands_before_map : (e : ℕ) (field : List ℕ) (fields : List Member)
        → stands_before (f e) (map f field) (map (map_member f) fields) ≡ stands_before e field fields
    stands_before_map e field fields =
        ap₂ precedes (last_index_map (map_member f) _ (λ m. refers_to e (member_type m)) (member_refers_map e) fields)
        (last_index_map (map_member f) _ (names_field field) (names_field_map field) fields)

    forward_map : (i e : ℕ) (target : Target)
        → check_enum_forward_reference_in_same_struct b' i (f e) (map_target target) ≡ Option.map (map_violation f) (check_enum_forward_reference_in_same_struct b i e target)
    unfolding check_enum_forward_reference_in_same_struct
    forward_map i e target =
        only_if_map (map_violation f) (some (violation 1 i e (target.type ∷ target.field) (target.type ∷ e ∷ target.field)))
        (ap₂ (λ p q. p && not q)
        (ap (holds (stands_before (f e) (map f target.field))) (struct_of_map target.type)
        ∙ holds_map (map (map_member f)) _ _ (stands_before_map e target.field) (struct_of b target.type))
        (constant_map e))
        refl

    tag_map : (i e : ℕ) (path : List ℕ) → check_enum_tag_layout_cycle b' i (f e) (map f path) ≡ Option.map (map_violation f) (check_enum_tag_layout_cycle b i e path)
    unfolding check_enum_tag_layout_cycle
    tag_map i e path =
        ap (λ q. cond q (check_enum_forward_reference_in_same_struct b' i (f e) (parse_field_reference b'.current (map f path))) other')
        (ap (λ t. is_enum_referencing_same_container_struct b' (f e) t.type) (parse_map path) ∙ same_map e (parse_field_reference b.current path).type)
        ∙ go (is_enum_referencing_same_container_struct b e (parse_field_reference b.current path).type)
      where
        other' : Option Violation
        other' = only_if (holds (named_size_depends b') (find_type b' (f e)))
            (Option.map (violation 2 i (f e) (map f path)) (find_layout_dependency_chain b' (parse_field_reference b'.current (map f path)).type (f e)))

        other : Option Violation
        other = only_if (holds (named_size_depends b) (find_type b e))
            (Option.map (violation 2 i e path) (find_layout_dependency_chain b (parse_field_reference b.current path).type e))

        go : (q : Bool) → cond q (check_enum_forward_reference_in_same_struct b' i (f e) (parse_field_reference b'.current (map f path))) other'
            ≡ Option.map (map_violation f) (cond q (check_enum_forward_reference_in_same_struct b i e (parse_field_reference b.current path)) other)
        go true = ap (check_enum_forward_reference_in_same_struct b' i (f e)) (parse_map path) ∙ forward_map i e (parse_field_reference b.current path)
        go false =
            only_if_map (map_violation f) (Option.map (violation 2 i e path) (find_layout_dependency_chain b (parse_field_reference b.current path).type e))
            (ap (holds (named_size_depends b')) (find_type_map e) ∙ holds_map (map_ty f) _ _ named_map (find_type b e))
            (chain_violation_map 2 i e path)

    enum_map : (i e : ℕ) (tag : Expr) → validate_enum_tag_constraints b' i (f e) (map_expr f tag) ≡ map (map_violation f) (validate_enum_tag_constraints b i e tag)
    unfolding validate_enum_tag_constraints
    enum_map i e tag =
        ap (filter_map (check_enum_tag_layout_cycle b' i (f e))) (references_map f tag)
        ∙ filter_map_map (map f) (map_violation f) _ (check_enum_tag_layout_cycle b i e) (tag_map i e) (collect_field_references_recursive tag)

    -- Arrays.

    not_struct_map : (t : Ty) → not (is_struct (map_ty f t)) ≡ not (is_struct t)
    not_struct_map t = ap (λ o. not (holds (λ fields. true) o)) (as_struct_map f t) ∙ ap not (holds_map (map (map_member f)) _ _ (λ fields. refl) (as_struct t))

    element_kind_map : (i a : ℕ) (t : Ty) → check_jagged_element_kind b' i (f a) (map_ty f t) ≡ Option.map (map_violation f) (check_jagged_element_kind b i a t)
    element_kind_map i a (primitive k) = refl
    element_kind_map i a (type_ref n) =
        only_if_map (map_violation f) (some (violation 6 i a [] (a ∷ n ∷ [])))
        (ap (holds (λ t. not (is_struct t))) (find_type_map n) ∙ holds_map (map_ty f) _ _ not_struct_map (find_type b n))
        refl
    element_kind_map i a (struct s ms) = refl
    element_kind_map i a (union s ms) = refl
    element_kind_map i a (enum s tag ms) = refl
    element_kind_map i a (array s jagged size element) = refl
    element_kind_map i a (size_union s ms) = refl

    jagged_array_map : (i a : ℕ) (t : Ty) → check_jagged_array_constraints b' i (f a) (map_ty f t) ≡ Option.map (map_violation f) (check_jagged_array_constraints b i a t)
    unfolding check_jagged_array_constraints
    jagged_array_map i a t =
        or_else_map (map_violation f) (check_jagged_element_kind b i a t) (only_if (contains_jagged_array b t) (some (violation 8 i a [] (a ∷ []))))
        (element_kind_map i a t) (only_if_map (map_violation f) (some (violation 8 i a [] (a ∷ []))) (jagged_map t) refl)

    element_map : (i a jagged : ℕ) (t : Ty) → check_array_element_type_size b' i (f a) jagged (map_ty f t) ≡ Option.map (map_violation f) (check_array_element_type_size b i a jagged t)
    unfolding check_array_element_type_size
    element_map i a jagged t = go (eqb jagged 1)
      where
        go : (q : Bool) → cond q (check_jagged_array_constraints b' i (f a) (map_ty f t)) (only_if (inline_size_depends b' (map_ty f t)) (some (violation 5 i (f a) [] (f a ∷ []))))
            ≡ Option.map (map_violation f) (cond q (check_jagged_array_constraints b i a t) (only_if (inline_size_depends b t) (some (violation 5 i a [] (a ∷ [])))))
        go true = jagged_array_map i a t
        go false = only_if_map (map_violation f) (some (violation 5 i a [] (a ∷ []))) (inline_map t) refl

    size_map : (i a : ℕ) (path : List ℕ) → check_array_size_layout_cycle b' i (f a) (map f path) ≡ Option.map (map_violation f) (check_array_size_layout_cycle b i a path)
    unfolding check_array_size_layout_cycle
    size_map i a path = chain_violation_map 3 i a path

    array_map : (i a jagged : ℕ) (size : Expr) (element : Ty)
        → validate_array_size_constraints b' i (f a) jagged (map_expr f size) (map_ty f element) ≡ map (map_violation f) (validate_array_size_constraints b i a jagged size element)
    unfolding validate_array_size_constraints
    array_map i a jagged size element =
        push_map (map_violation f) (check_array_element_type_size b i a jagged element) (filter_map (check_array_size_layout_cycle b i a) (collect_field_references_recursive size))
        (element_map i a jagged element)
        (ap (filter_map (check_array_size_layout_cycle b' i (f a))) (references_map f size)
        ∙ filter_map_map (map f) (map_violation f) _ (check_array_size_layout_cycle b i a) (size_map i a) (collect_field_references_recursive size))

    -- Structs.

    in_references_map : (path : List ℕ) (e : Expr)
        → any (same_list (map f path)) (collect_field_references_recursive (map_expr f e)) ≡ any (same_list path) (collect_field_references_recursive e)
    in_references_map path e = ap (any (same_list (map f path))) (references_map f e) ∙ any_map (map f) _ _ (same_list_map path) (collect_field_references_recursive e)

    needs_map : (t : Ty) (path : List ℕ) → type_needs_field_ref_for_layout (map_ty f t) (map f path) ≡ type_needs_field_ref_for_layout t path
    needs_map (primitive k) path = refl
    needs_map (type_ref n) path = refl
    needs_map (struct a ms) path = refl
    needs_map (union a ms) path = refl
    needs_map (enum a tag ms) path = in_references_map path tag
    needs_map (array a jagged size element) path = in_references_map path size
    needs_map (size_union a ms) path = refl

    stands_after_map : (j : ℕ) (field : List ℕ) (fields : List Member) → stands_after j (map f field) (map (map_member f) fields) ≡ stands_after j field fields
    stands_after_map j field fields = ap (holds (ltb j)) (first_index_map (map_member f) _ (names_field field) (names_field_map field) fields)

    later_map : (s j : ℕ) (target : Target) → is_later_field b' (f s) j (map_target target) ≡ is_later_field b s j target
    unfolding is_later_field
    later_map s j target =
        ap₂ ◌&&◌ (eqb_map target.type s)
        (ap (holds (stands_after j (map f target.field))) (struct_of_map s)
        ∙ holds_map (map (map_member f)) _ _ (stands_after_map j target.field) (struct_of b s))

    reference_map : (i s j n : ℕ) (t : Ty) (path : List ℕ)
        → check_forward_reference b' i (f s) j (f n) (map_ty f t) (map f path) ≡ Option.map (map_violation f) (check_forward_reference b i s j n t path)
    unfolding check_forward_reference
    reference_map i s j n t path =
        only_if_map (map_violation f) (some (violation 4 i s path (s ∷ n ∷ (parse_field_reference b.current path).field)))
        (ap₂ ◌&&◌
        (ap₂ ◌&&◌
        (ap (is_later_field b' (f s) j) (parse_map path) ∙ later_map s j (parse_field_reference b.current path))
        (ap₂ ◌||◌ (named_map t) (needs_map t path)))
        (ap not (constant_size_map f t)))
        (ap {B = Option Violation} (λ g. some (violation 4 i (f s) (map f path) (f s ∷ f n ∷ g.field))) (parse_map path))

    field_map : (i s : ℕ) (field : ℕ × Member)
        → check_field_layout_dependency b' i (f s) (field.0, map_member f field.1) ≡ Option.map (map_violation f) (check_field_layout_dependency b i s field)
    unfolding check_field_layout_dependency
    field_map i s (j, member n v t) =
        ap (λ o. and_then o (λ r. and_then (find_type b' r) references')) (as_type_ref_map f t)
        ∙ and_then_map f (map_violation f) (λ r. and_then (find_type b' r) references') (λ r. and_then (find_type b r) references) at_name (as_type_ref t)
      where
        references' : Ty → Option Violation
        references' u = find_map (check_forward_reference b' i (f s) j (f n) u) (collect_field_references_in_type_kind u)

        references : Ty → Option Violation
        references u = find_map (check_forward_reference b i s j n u) (collect_field_references_in_type_kind u)

        at_type : (u : Ty) → references' (map_ty f u) ≡ Option.map (map_violation f) (references u)
        at_type u =
            ap (find_map (check_forward_reference b' i (f s) j (f n) (map_ty f u))) (type_references_map f u)
            ∙ find_map_map (map f) (map_violation f) _ (check_forward_reference b i s j n u) (reference_map i s j n u) (collect_field_references_in_type_kind u)

        at_name : (r : ℕ) → and_then (find_type b' (f r)) references' ≡ Option.map (map_violation f) (and_then (find_type b r) references)
        at_name r =
            ap (λ o. and_then o references') (find_type_map r)
            ∙ and_then_map (map_ty f) (map_violation f) references' references at_type (find_type b r)

    struct_map : (i s : ℕ) (ms : Members) → validate_struct_field_constraints b' i (f s) (map_members f ms) ≡ map (map_violation f) (validate_struct_field_constraints b i s ms)
    unfolding validate_struct_field_constraints
    struct_map i s ms =
        ap (λ l. filter_map (check_field_layout_dependency b' i (f s)) (enumerate 0 l)) (list_of_map f ms)
        ∙ ap (filter_map (check_field_layout_dependency b' i (f s))) (enumerate_map (map_member f) 0 (list_of ms))
        ∙ filter_map_map _ (map_violation f) _ (check_field_layout_dependency b i s) (field_map i s) (enumerate 0 (list_of ms))

    -- All definitions.

    type_map : (i n : ℕ) (t : Ty) → validate_type b' i (f n) (map_ty f t) ≡ map (map_violation f) (validate_type b i n t)
    type_map i n (primitive k) = refl
    type_map i n (type_ref m) = refl
    type_map i n (struct a ms) = struct_map i n ms
    type_map i n (union a ms) = refl
    type_map i n (enum a tag ms) = enum_map i n tag
    type_map i n (array a jagged size element) = array_map i n jagged size element
    type_map i n (size_union a ms) = refl

    pub violations_injective : violations b' ≡ map (map_violation f) (violations b)
    unfolding violations
    violations_injective =
        ap (flat_map (λ d. validate_type b' d.0 d.1.name d.1.type)) (enumerate_map (map_definition f) 0 b.definitions)
        ∙ flat_map_map _ (map_violation f) _ (λ d. validate_type b d.0 d.1.name d.1.type)
        (λ d. type_map d.0 d.1.name d.1.type) (enumerate 0 b.definitions)
