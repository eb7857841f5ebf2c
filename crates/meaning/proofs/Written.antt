-- The bytes of a tree, clause by clause: what the laws of reading are proved of. `bundle_written` says that they are the bytes
-- of the tree's items.
use Prim.Native.Nat.{ℕ, zero, suc, ◌+◌, ◌-◌, ◌/◌, ◌%◌, ◌^◌, ◌<◌}
use native.Mathlib.Omega.{arith}
use mathlib.Core.Path.{◌≡◌, refl, sym, ap, ap₂, ◌∙◌}
use mathlib.Core.List.{List, [], ◌∷◌, ◌++◌, append_assoc, map}
use lib.ListN.{length, get_or}
use Rattle.names.specs.Documents.{Item, byte, name, bytes}
use Rattle.names.proofs.Items.{bytes_append}
use Rattle.meaning.specs.Kinds.{widths}
use Rattle.meaning.specs.Lists.{flat_map}
use Rattle.meaning.specs.Tree.{Expr, literal, field_ref, sizeof, alignof, binary, unary}
use Rattle.meaning.specs.Tree.{Ty, primitive, type_ref, struct, union, enum, array, size_union}
use Rattle.meaning.specs.Tree.{Attributes, Member, member, Members, none, more, Definition, Edge, Bundle}
use Rattle.meaning.specs.Encoding.{number_items, expr_items, member_count, head_items, type_items, member_items, members_items, definition_items, edge_items, bundle_items, bundle_bytes}

-- the w bytes of v, little-endian
unfoldable pub bytes_of : ℕ → ℕ → List ℕ
bytes_of zero v = []
bytes_of (suc w) v = (v % 256) ∷ bytes_of w (v / 256)

-- the two bytes of a name
unfoldable pub name_bytes : ℕ → List ℕ
name_bytes n = n % 256 ∷ n / 256 ∷ []

-- a name that fits its two bytes is a number of two bytes
pub name_two : (n : ℕ) → n < 256 ^ 2 → name_bytes n ≡ bytes_of 2 n
unfolding name_bytes bytes_of
name_two n h = let e : n / 256 ≡ n / 256 % 256 = omega arith in ap (λ k. n % 256 ∷ k ∷ []) e

-- names of two bytes each
unfoldable pub names_bytes : List ℕ → List ℕ
names_bytes [] = []
names_bytes (x ∷ xs) = name_bytes x ++ names_bytes xs

-- an expression
unfoldable pub expr_bytes : Expr → List ℕ
expr_bytes (literal k v) = k ∷ bytes_of (get_or widths (k - 1) 0) v
expr_bytes (field_ref names) = (8 + length names) ∷ names_bytes names
expr_bytes (sizeof x) = 0x0D ∷ name_bytes x
expr_bytes (alignof x) = 0x0E ∷ name_bytes x
expr_bytes (binary k l r) = k ∷ expr_bytes l ++ expr_bytes r
expr_bytes (unary k e) = k ∷ expr_bytes e

-- attributes, and the number of w bytes behind them
unfoldable pub head_bytes : Attributes → ℕ → ℕ → List ℕ
head_bytes a w last = a.packed ∷ bytes_of 8 a.aligned ++ bytes_of w last

unfoldable mutual
  -- a type
  pub type_bytes : Ty → List ℕ
  type_bytes (primitive k) = k ∷ []
  type_bytes (type_ref x) = 0x40 ∷ name_bytes x
  type_bytes (struct a ms) = 0x41 ∷ head_bytes a 2 (member_count ms) ++ members_bytes ms 0x50 0
  type_bytes (union a ms) = 0x42 ∷ head_bytes a 2 (member_count ms) ++ members_bytes ms 0x51 0
  type_bytes (enum a tag ms) = 0x43 ∷ head_bytes a 2 (member_count ms) ++ expr_bytes tag ++ members_bytes ms 0x52 8
  type_bytes (array a jagged size element) = 0x44 ∷ head_bytes a 1 jagged ++ expr_bytes size ++ type_bytes element
  type_bytes (size_union a ms) = 0x45 ∷ head_bytes a 2 (member_count ms) ++ members_bytes ms 0x53 8

  -- a member of kind k, whose value has w bytes
  pub member_bytes : Member → ℕ → ℕ → List ℕ
  member_bytes (member n v t) k w = k ∷ name_bytes n ++ bytes_of w v ++ type_bytes t

  -- members of kind k, whose values have w bytes
  pub members_bytes : Members → ℕ → ℕ → List ℕ
  members_bytes none k w = []
  members_bytes (more m ms) k w = member_bytes m k w ++ members_bytes ms k w

-- a definition
unfoldable pub definition_bytes : Definition → List ℕ
definition_bytes d = 0x61 ∷ name_bytes d.name ++ type_bytes d.type

-- an edge
unfoldable pub edge_bytes : Edge → List ℕ
edge_bytes e = 0x62 ∷ name_bytes e.from ++ name_bytes e.to ++ e.kind ∷ []

-- each of a list, one after the other
unfoldable pub each_bytes : {A : Type 0} → (A → List ℕ) → List A → List ℕ
each_bytes f [] = []
each_bytes f (a ∷ rest) = f a ++ each_bytes f rest

-- a bundle
unfoldable pub written_bytes : Bundle → List ℕ
written_bytes b =
    0x60 ∷ bytes_of 2 (length b.definitions) ++ bytes_of 2 (length b.edges) ++ name_bytes b.current
    ++ each_bytes definition_bytes b.definitions ++ each_bytes edge_bytes b.edges

-- The bytes of the items.

-- two lists of items, one after the other
pub both_written : (d e : List Item) {x y : List ℕ} → bytes d ≡ x → bytes e ≡ y → bytes (d ++ e) ≡ x ++ y
both_written d e p q = bytes_append d e ∙ ap₂ ◌++◌ p q

pub number_written : (w v : ℕ) → bytes (number_items w v) ≡ bytes_of w v
unfolding number_items bytes_of
number_written zero v = refl
number_written (suc w) v = ap (v % 256 ∷◌) (number_written w (v / 256))

names_written : (ns : List ℕ) → bytes (map name ns) ≡ names_bytes ns
unfolding names_bytes name_bytes
names_written [] = refl
names_written (n ∷ ns) = ap (λ l. n % 256 ∷ n / 256 ∷ l) (names_written ns)

expr_written : (e : Expr) → bytes (expr_items e) ≡ expr_bytes e
unfolding expr_items expr_bytes name_bytes
expr_written (literal k v) = ap (k ∷◌) (number_written (get_or widths (k - 1) 0) v)
expr_written (field_ref path) = ap (λ l. (8 + length path) ∷ l) (names_written path)
expr_written (sizeof x) = refl
expr_written (alignof x) = refl
expr_written (binary k l r) = ap (k ∷◌) (both_written (expr_items l) (expr_items r) (expr_written l) (expr_written r))
expr_written (unary k e) = ap (k ∷◌) (expr_written e)

head_written : (a : Attributes) (w last : ℕ) → bytes (head_items a w last) ≡ head_bytes a w last
unfolding head_items head_bytes
head_written a w last =
    ap (a.packed ∷◌) (both_written (number_items 8 a.aligned) (number_items w last) (number_written 8 a.aligned) (number_written w last))

-- a kind, attributes and what follows
headed : (k : ℕ) (a : Attributes) (w n : ℕ) (d : List Item) {s : List ℕ} → bytes d ≡ s → bytes (byte k ∷ head_items a w n ++ d) ≡ k ∷ head_bytes a w n ++ s
headed k a w n d e = ap (k ∷◌) (both_written (head_items a w n) d (head_written a w n) e)

mutual
  unfolding type_items type_bytes name_bytes

  type_written : (t : Ty) → bytes (type_items t) ≡ type_bytes t
  type_written (primitive k) = refl
  type_written (type_ref x) = refl
  type_written (struct a ms) = headed 0x41 a 2 (member_count ms) (members_items ms 0x50 0) (members_written ms 0x50 0)
  type_written (union a ms) = headed 0x42 a 2 (member_count ms) (members_items ms 0x51 0) (members_written ms 0x51 0)
  type_written (enum a tag ms) =
      both_written (byte 0x43 ∷ head_items a 2 (member_count ms) ++ expr_items tag) (members_items ms 0x52 8)
      (headed 0x43 a 2 (member_count ms) (expr_items tag) (expr_written tag)) (members_written ms 0x52 8)
  type_written (array a jagged size element) =
      both_written (byte 0x44 ∷ head_items a 1 jagged ++ expr_items size) (type_items element)
      (headed 0x44 a 1 jagged (expr_items size) (expr_written size)) (type_written element)
  type_written (size_union a ms) = headed 0x45 a 2 (member_count ms) (members_items ms 0x53 8) (members_written ms 0x53 8)

  member_written : (m : Member) (k w : ℕ) → bytes (member_items m k w) ≡ member_bytes m k w
  member_written (member n v t) k w =
      both_written (byte k ∷ name n ∷ number_items w v) (type_items t) (ap (λ l. k ∷ n % 256 ∷ n / 256 ∷ l) (number_written w v)) (type_written t)

  members_written : (ms : Members) (k w : ℕ) → bytes (members_items ms k w) ≡ members_bytes ms k w
  members_written none k w = refl
  members_written (more m ms) k w = both_written (member_items m k w) (members_items ms k w) (member_written m k w) (members_written ms k w)

definition_written : (d : Definition) → bytes (definition_items d) ≡ definition_bytes d
unfolding definition_items definition_bytes name_bytes
definition_written d = ap (λ l. 0x61 ∷ d.name % 256 ∷ d.name / 256 ∷ l) (type_written d.type)

edge_written : (e : Edge) → bytes (edge_items e) ≡ edge_bytes e
unfolding edge_items edge_bytes name_bytes
edge_written e = refl

each_written : {A : Type 0} (items : A → List Item) (one : A → List ℕ) → ((a : A) → bytes (items a) ≡ one a) → (l : List A) → bytes (flat_map items l) ≡ each_bytes one l
unfolding each_bytes
each_written items one law [] = refl
each_written items one law (a ∷ l) = both_written (items a) (flat_map items l) (law a) (each_written items one law l)

-- the bytes of a bundle's items
pub bundle_written : (b : Bundle) → bundle_bytes b ≡ written_bytes b
unfolding bundle_bytes bundle_items written_bytes name_bytes
bundle_written b =
    let ds = each_bytes definition_bytes b.definitions in
    let es = each_bytes edge_bytes b.edges in
    let c = name_bytes b.current in
    let h = 0x60 ∷ bytes_of 2 (length b.definitions) ++ bytes_of 2 (length b.edges) in
    both_written (byte 0x60 ∷ number_items 2 (length b.definitions) ++ number_items 2 (length b.edges) ++ name b.current ∷ flat_map definition_items b.definitions) (flat_map edge_items b.edges)
    (both_written (byte 0x60 ∷ number_items 2 (length b.definitions) ++ number_items 2 (length b.edges)) (name b.current ∷ flat_map definition_items b.definitions)
    (both_written (byte 0x60 ∷ number_items 2 (length b.definitions)) (number_items 2 (length b.edges))
    (ap (0x60 ∷◌) (number_written 2 (length b.definitions))) (number_written 2 (length b.edges)))
    (ap (λ l. c ++ l) (each_written definition_items definition_bytes definition_written b.definitions))
    ∙ sym (append_assoc h c ds))
    (each_written edge_items edge_bytes edge_written b.edges)
