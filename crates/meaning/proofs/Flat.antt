-- A flat scan over the records of a bundle's bytes finds the items of its tree, and so the same names.
use Prim.Native.Nat.{ℕ, zero, suc, ◌+◌, ◌-◌, ◌*◌, ◌/◌, ◌%◌}
use native.Mathlib.Omega.{arith}
use mathlib.Core.Bool.{false, true}
use mathlib.Core.Path.{◌≡◌, refl, sym, ap, ap₂, subst, ◌∙◌}
use mathlib.Core.List.{List, [], ◌∷◌, ◌++◌, append_assoc, append-nil, map}
use lib.ListN.{length, get_or}
use lib.Dec.{lit<}
use Rattle.names.specs.Documents.{Item, byte, name, bytes, layout}
use Rattle.names.specs.Records.{items_in, WholeIn, items, Whole}
use Rattle.names.proofs.Items.{bytes_append}
use Rattle.meaning.specs.Kinds.{kinds, lookup, form_parts, parts, body, widths}
use Rattle.meaning.specs.Lists.{flat_map}
use Rattle.meaning.specs.Tree.{Expr, literal, field_ref, sizeof, alignof, binary, unary, Attributes}
use Rattle.meaning.specs.Tree.{Ty, primitive, type_ref, struct, union, enum, array, size_union, Member, member, Members, none, more, Definition, Edge, Bundle}
use Rattle.meaning.specs.Encoding.{number_items, expr_items, member_count, head_items, type_items, member_items, members_items, definition_items, edge_items, bundle_items, bundle_bytes}
use Rattle.meaning.specs.Within.{Each, ExprOk, TyOk, MemberOk, MembersOk, DefinitionOk, EdgeOk, BundleOk}
use Rattle.meaning.proofs.KindTable.{hit}

-- a scan over the bytes of the items d finds them, and goes on behind them
pub record Scans (d : List Item) : Type 0 where
  pub found : (rest : List ℕ) → items_in body [] (bytes d ++ rest) ≡ d ++ items_in body [] rest
  pub whole : (rest : List ℕ) → WholeIn body [] rest → WholeIn body [] (bytes d ++ rest)

-- the body of a record, if its parts are those of the items
body_found : (d : List Item) (rest : List ℕ) → items_in body (layout d) (bytes d ++ rest) ≡ d ++ items_in body [] rest
body_found [] rest = refl
body_found (byte b ∷ d) rest = ap (byte b ∷◌) (body_found d rest)
body_found (name n ∷ d) rest =
    let same : n % 256 + 256 * (n / 256) ≡ n = omega arith in
    ap₂ (λ k l. name k ∷ l) same (body_found d rest)

body_whole : (d : List Item) (rest : List ℕ) → WholeIn body [] rest → WholeIn body (layout d) (bytes d ++ rest)
body_whole [] rest w = w
body_whole (byte b ∷ d) rest w = body_whole d rest w
body_whole (name n ∷ d) rest w = body_whole d rest w

record_scans : (k : ℕ) (d : List Item) → body k ≡ layout d → Scans (byte k ∷ d)
record_scans k d e = record {
  found = λ rest. ap (byte k ∷◌) (subst (λ p. items_in body p (bytes d ++ rest) ≡ d ++ items_in body [] rest) (sym e) (body_found d rest));
  whole = λ rest w. subst (λ p. WholeIn body p (bytes d ++ rest)) (sym e) (body_whole d rest w);
}

none_scans : Scans []
none_scans = record { found = λ rest. refl; whole = λ rest w. w }

-- what is found behind what is found
both_scans : (d e : List Item) → Scans d → Scans e → Scans (d ++ e)
both_scans d e p q = record {
  found = λ rest.
      ap (items_in body []) (split rest) ∙ p.found (bytes e ++ rest) ∙ ap (d ++◌) (q.found rest) ∙ sym (append_assoc d e (items_in body [] rest));
  whole = λ rest w. subst (WholeIn body []) (sym (split rest)) (p.whole (bytes e ++ rest) (q.whole rest w));
}
  where
    split : (rest : List ℕ) → bytes (d ++ e) ++ rest ≡ bytes d ++ (bytes e ++ rest)
    split rest = ap (◌++ rest) (bytes_append d e) ∙ append_assoc (bytes d) (bytes e) rest

each_scans : {A : Type 0} (one : A → List Item) (Ok : A → Type 0) → ((a : A) → Ok a → Scans (one a)) → (l : List A) → Each Ok l → Scans (flat_map one l)
each_scans one Ok law [] o = none_scans
each_scans one Ok law (a ∷ l) o = both_scans (one a) (flat_map one l) (law a o.0) (each_scans one Ok law l o.1)

-- The parts of the bodies that vary in length.

number_layout : (w v : ℕ) → parts w 0 0 ≡ layout (number_items w v)
unfolding number_items
number_layout zero v = refl
number_layout (suc w) v = ap (false ∷◌) (number_layout w (v / 256))

names_layout : (ns : List ℕ) → parts 0 (length ns) 0 ≡ layout (map name ns)
names_layout [] = refl
names_layout (n ∷ ns) = ap (true ∷◌) (names_layout ns)

-- an expression
expr_scans : (e : Expr) → ExprOk e → Scans (expr_items e)
unfolding expr_items lookup
expr_scans (literal k v) o =
    let w = get_or widths (k - 1) 0 in
    record_scans k (number_items w v) (ap form_parts (hit kinds 1 0 k tt (lit< tt) o.0.0 o.0.1) ∙ number_layout w v)
expr_scans (field_ref path) o =
    let n = length path in
    let q : 8 + n - 8 ≡ n = omega arith in
    record_scans (8 + n) (map name path)
    (ap form_parts (hit kinds 1 1 (8 + n) tt (lit< tt) (omega (arith, o.0.0)) (omega (arith, o.0.1))) ∙ ap (λ m. parts 0 m 0) q ∙ names_layout path)
expr_scans (sizeof x) o = record_scans 0x0D (name x ∷ []) refl
expr_scans (alignof x) o = record_scans 0x0E (name x ∷ []) refl
expr_scans (binary k l r) o =
    both_scans (byte k ∷ expr_items l) (expr_items r)
    (both_scans (byte k ∷ []) (expr_items l) (record_scans k [] (ap form_parts (hit kinds 1 4 k tt (lit< tt) o.0.0 o.0.1))) (expr_scans l o.1))
    (expr_scans r o.2)
expr_scans (unary k e) o =
    both_scans (byte k ∷ []) (expr_items e) (record_scans k [] (ap form_parts (hit kinds 1 5 k tt (lit< tt) o.0.0 o.0.1))) (expr_scans e o.1)

-- a kind, attributes and a member count, and the members behind them
group_scans : (k : ℕ) (a : Attributes) (n : ℕ) (ms : List Item) → body k ≡ parts 11 0 0 → Scans ms → Scans (byte k ∷ head_items a 2 n ++ ms)
unfolding head_items number_items
group_scans k a n ms e p = both_scans (byte k ∷ head_items a 2 n) ms (record_scans k (head_items a 2 n) e) p

mutual
  unfolding type_items head_items number_items lookup

  -- a type
  pub type_scans : (t : Ty) → TyOk t → Scans (type_items t)
  type_scans (primitive k) o = record_scans k [] (ap form_parts (hit kinds 1 6 k tt (lit< tt) o.0 o.1))
  type_scans (type_ref x) o = record_scans 0x40 (name x ∷ []) refl
  type_scans (struct a ms) o = group_scans 0x41 a (member_count ms) (members_items ms 0x50 0) refl (members_scans ms 0x50 0 (λ n v. refl) o.2)
  type_scans (union a ms) o = group_scans 0x42 a (member_count ms) (members_items ms 0x51 0) refl (members_scans ms 0x51 0 (λ n v. refl) o.2)
  type_scans (enum a tag ms) o =
      both_scans (byte 0x43 ∷ head_items a 2 (member_count ms) ++ expr_items tag) (members_items ms 0x52 8)
      (group_scans 0x43 a (member_count ms) (expr_items tag) refl (expr_scans tag o.2)) (members_scans ms 0x52 8 (λ n v. refl) o.3)
  type_scans (array a jagged size element) o =
      both_scans (byte 0x44 ∷ head_items a 1 jagged ++ expr_items size) (type_items element)
      (both_scans (byte 0x44 ∷ head_items a 1 jagged) (expr_items size) (record_scans 0x44 (head_items a 1 jagged) refl) (expr_scans size o.2))
      (type_scans element o.3)
  type_scans (size_union a ms) o = group_scans 0x45 a (member_count ms) (members_items ms 0x53 8) refl (members_scans ms 0x53 8 (λ n v. refl) o.2)

  -- members of kind k, whose values have w bytes
  pub members_scans : (ms : Members) (k w : ℕ) → ((n v : ℕ) → body k ≡ layout (name n ∷ number_items w v)) → MembersOk ms w → Scans (members_items ms k w)
  members_scans none k w e o = none_scans
  members_scans (more m ms) k w e o = both_scans (member_items m k w) (members_items ms k w) (member_scans m k w e o.0) (members_scans ms k w e o.1)

  -- a member
  pub member_scans : (m : Member) (k w : ℕ) → ((n v : ℕ) → body k ≡ layout (name n ∷ number_items w v)) → MemberOk m w → Scans (member_items m k w)
  member_scans (member n v t) k w e o =
      both_scans (byte k ∷ name n ∷ number_items w v) (type_items t) (record_scans k (name n ∷ number_items w v) (e n v)) (type_scans t o.2)

definition_scans : (d : Definition) → DefinitionOk d → Scans (definition_items d)
unfolding definition_items lookup
definition_scans d o =
    both_scans (byte 0x61 ∷ name d.name ∷ []) (type_items d.type) (record_scans 0x61 (name d.name ∷ []) refl) (type_scans d.type o.1)

edge_scans : (e : Edge) → EdgeOk e → Scans (edge_items e)
unfolding edge_items lookup
edge_scans e o = record_scans 0x62 (name e.from ∷ name e.to ∷ byte e.kind ∷ []) refl

-- a bundle
bundle_scans : (b : Bundle) → BundleOk b → Scans (bundle_items b)
unfolding bundle_items number_items lookup
bundle_scans b o =
    let header = byte 0x60 ∷ number_items 2 (length b.definitions) ++ number_items 2 (length b.edges) ++ name b.current ∷ [] in
    both_scans (header ++ flat_map definition_items b.definitions) (flat_map edge_items b.edges)
    (both_scans header (flat_map definition_items b.definitions)
    (record_scans 0x60 (number_items 2 (length b.definitions) ++ number_items 2 (length b.edges) ++ name b.current ∷ []) refl)
    (each_scans definition_items DefinitionOk definition_scans b.definitions o.definitions.1))
    (each_scans edge_items EdgeOk edge_scans b.edges o.edges.1)

-- the items that a flat scan finds in a bundle's bytes are the items of its tree
pub bundle_items_lem : (b : Bundle) → BundleOk b → items body (bundle_bytes b) ≡ bundle_items b
unfolding bundle_bytes
bundle_items_lem b o =
    ap (items_in body []) (sym (append-nil (bytes (bundle_items b)))) ∙ (bundle_scans b o).found [] ∙ append-nil (bundle_items b)

-- and its bytes are whole records
pub bundle_whole : (b : Bundle) → BundleOk b → Whole body (bundle_bytes b)
unfolding bundle_bytes
bundle_whole b o = subst (WholeIn body []) (append-nil (bytes (bundle_items b))) ((bundle_scans b o).whole [] tt)
