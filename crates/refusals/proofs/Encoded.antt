-- A bundle within the limits is encoded in bytes.
use Prim.Native.Nat.{ℕ, zero, suc, ◌/◌, ◌<◌}
use native.Mathlib.Omega.{arith}
use mathlib.Core.Path.{subst}
use mathlib.Core.List.{List, [], ◌∷◌, ◌++◌, map}
use lib.ListN.{length}
use Rattle.names.specs.Names.{Below}
use Rattle.names.specs.Documents.{Item, byte, name, Document}
use Rattle.names.proofs.Documents.{bytes_below}
use Rattle.meaning.specs.Lists.{flat_map}
use Rattle.meaning.specs.Tree.{Expr, literal, field_ref, sizeof, alignof, binary, unary, Attributes}
use Rattle.meaning.specs.Tree.{Ty, primitive, type_ref, struct, union, enum, array, size_union, Member, member, Members, none, more, Definition, Edge, Bundle}
use Rattle.meaning.specs.Encoding.{Bytes, number_items, expr_items, member_count, head_items, type_items, member_items, members_items, definition_items, edge_items, bundle_items, bundle_bytes}
use Rattle.meaning.specs.Within.{Fits, Each, ExprOk, AttributesOk, TyOk, MemberOk, MembersOk, DefinitionOk, EdgeOk, BundleOk}
use Rattle.refusals.specs.Numbers.{IsBundle}

both : (d e : List Item) → Document d → Document e → Document (d ++ e)
both [] e p q = q
both (byte b ∷ d) e p q = (p.0, both d e p.1 q)
both (name n ∷ d) e p q = (p.0, both d e p.1 q)

each : {A : Type 0} (one : A → List Item) (Ok : A → Type 0) → ((a : A) → Ok a → Document (one a)) → (l : List A) → Each Ok l → Document (flat_map one l)
each one Ok law [] o = tt
each one Ok law (a ∷ l) o = both (one a) (flat_map one l) (law a o.0) (each one Ok law l o.1)

number : (w v : ℕ) → Document (number_items w v)
unfolding number_items
number zero v = tt
number (suc w) v = (omega arith, number w (v / 256))

named : (ns : List ℕ) → Each (Fits 2) ns → Document (map name ns)
named [] o = tt
named (n ∷ ns) o = (o.0, named ns o.1)

expr : (e : Expr) → ExprOk e → Document (expr_items e)
unfolding expr_items
expr (literal k v) o = (omega (arith, o.0.1), number _ v)
expr (field_ref path) o = (omega (arith, o.0.1), named path o.1)
expr (sizeof x) o = (omega arith, (o, tt))
expr (alignof x) o = (omega arith, (o, tt))
expr (binary k l r) o = (omega (arith, o.0.1), both (expr_items l) (expr_items r) (expr l o.1) (expr r o.2))
expr (unary k e) o = (omega (arith, o.0.1), expr e o.1)

head : (a : Attributes) (w last : ℕ) → AttributesOk a → Document (head_items a w last)
unfolding head_items
head a w last o = (omega (arith, o.0), both (number_items 8 a.aligned) (number_items w last) (number 8 a.aligned) (number w last))

mutual
  unfolding type_items

  type : (t : Ty) → TyOk t → Document (type_items t)
  type (primitive k) o = (omega (arith, o.1), tt)
  type (type_ref x) o = (omega arith, (o, tt))
  type (struct a ms) o = (omega arith, both (head_items a 2 (member_count ms)) (members_items ms 0x50 0) (head a 2 _ o.0) (members ms 0x50 0 (omega arith) o.2))
  type (union a ms) o = (omega arith, both (head_items a 2 (member_count ms)) (members_items ms 0x51 0) (head a 2 _ o.0) (members ms 0x51 0 (omega arith) o.2))
  type (enum a tag ms) o = (
    omega arith,
    both (head_items a 2 (member_count ms) ++ expr_items tag) (members_items ms 0x52 8)
        (both (head_items a 2 (member_count ms)) (expr_items tag) (head a 2 _ o.0) (expr tag o.2)) (members ms 0x52 8 (omega arith) o.3),
  )
  type (array a jagged size element) o = (
    omega arith,
    both (head_items a 1 jagged ++ expr_items size) (type_items element)
        (both (head_items a 1 jagged) (expr_items size) (head a 1 _ o.0) (expr size o.2)) (type element o.3),
  )
  type (size_union a ms) o = (omega arith, both (head_items a 2 (member_count ms)) (members_items ms 0x53 8) (head a 2 _ o.0) (members ms 0x53 8 (omega arith) o.2))

  members : (ms : Members) (k w : ℕ) → k < 256 → MembersOk ms w → Document (members_items ms k w)
  members none k w h o = tt
  members (more m ms) k w h o = both (member_items m k w) (members_items ms k w) (one m k w h o.0) (members ms k w h o.1)

  one : (m : Member) (k w : ℕ) → k < 256 → MemberOk m w → Document (member_items m k w)
  one (member n v t) k w h o = (h, (o.0, both (number_items w v) (type_items t) (number w v) (type t o.2)))

definition : (d : Definition) → DefinitionOk d → Document (definition_items d)
unfolding definition_items
definition d o = (omega arith, (o.0, type d.type o.1))

edge : (e : Edge) → EdgeOk e → Document (edge_items e)
unfolding edge_items
edge e o = (omega arith, (o.0, (o.1, (omega (arith, o.2), tt))))

bundle : (b : Bundle) → BundleOk b → Document (bundle_items b)
unfolding bundle_items number_items
bundle b o =
    let counts = number_items 2 (length b.definitions) ++ number_items 2 (length b.edges) in
    let header = byte 0x60 ∷ counts ++ name b.current ∷ [] in
    both (header ++ flat_map definition_items b.definitions) (flat_map edge_items b.edges)
    (both header (flat_map definition_items b.definitions)
    (omega arith, both counts (name b.current ∷ []) (both (number_items 2 (length b.definitions)) (number_items 2 (length b.edges)) (number 2 _) (number 2 _)) (o.current, tt))
    (each definition_items DefinitionOk definition b.definitions o.definitions.1))
    (each edge_items EdgeOk edge b.edges o.edges.1)

below_bytes : (s : List ℕ) → Below 256 s → Bytes s
below_bytes [] p i = omega arith
below_bytes (b ∷ s) p zero = p.0
below_bytes (b ∷ s) p (suc i) = below_bytes s p.1 i

-- what is a bundle within the limits is a string of bytes
pub bundle_bytes_lem : {s : List ℕ} {b : Bundle} → IsBundle s b → Bytes s
unfolding bundle_bytes
bundle_bytes_lem {b = b} k = subst Bytes k.layout (below_bytes (bundle_bytes b) (bytes_below (bundle_items b) (bundle b k.limits)))
