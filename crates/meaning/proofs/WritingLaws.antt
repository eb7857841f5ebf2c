-- Records written in a tree's order are the tree's encoding.
use Prim.Native.Nat.{ℕ, ◌+◌, ◌-◌, ◌/◌, ◌%◌, ◌^◌, ◌≤◌}
use native.Mathlib.Omega.{arith}
use mathlib.Core.Path.{◌≡◌, refl, sym, ap, ap₂, subst, ◌∙◌}
use mathlib.Core.List.{List, [], ◌∷◌, ◌++◌, append_assoc, append-nil}
use mathlib.Core.Option.{some}
use mathlib.Core.Option as option
use lib.ListN.{length, get_or, replicate}
use lib.Dec.{lit<}
use borrow.Author.Tests.{le-leb}
use Rattle.names.specs.Documents.{byte, bytes}
use Rattle.meaning.specs.Limits.{definition_limit, edge_limit}
use Rattle.meaning.specs.Kinds.{kinds, lookup, form_of, widths}
use Rattle.meaning.specs.Lists.{flat_map}
use Rattle.meaning.specs.Tree.{Expr, literal, field_ref, sizeof, alignof, binary, unary, Attributes}
use Rattle.meaning.specs.Tree.{Ty, primitive, type_ref, struct, union, enum, array, size_union, Member, member, Members, none, more, Definition, Edge, Bundle}
use Rattle.meaning.specs.Encoding.{number_items, member_count, bundle_bytes}
use Rattle.meaning.specs.Within.{Fits, Each, AttributesOk, ExprOk, TyOk, MemberOk, MembersOk, DefinitionOk, EdgeOk, BundleOk}
use Rattle.meaning.specs.Reader.{ok}
use Rattle.meaning.specs.ReadBundle.{read_bundle}
use Rattle.meaning.specs.Calls.{result}
use Rattle.meaning.specs.Writing.{Field, numeric, named, whole, flag, fields_of, most, body_items, first_fault, writing}
use Rattle.meaning.specs.Writing.{expr_records, head_values, type_records, member_records, members_records, definition_records, edge_records, bundle_records, Writes, nothing, record_first}
use Rattle.meaning.proofs.KindTable.{hit}
use Rattle.meaning.proofs.BundleBack.{bundle_read_back}
use Rattle.meaning.proofs.Written.{bytes_of, name_bytes, names_bytes, expr_bytes, head_bytes, type_bytes, member_bytes, members_bytes, definition_bytes, edge_bytes, each_bytes, written_bytes, bundle_written, number_written, both_written}

-- a record with these fields, whose values all fit
due_record : (k : ℕ) (fs : List Field) (vs : List ℕ) → fields_of k (form_of k) ≡ some fs → first_fault fs vs ≡ option.none
    → writing k vs ≡ result (bytes (byte k ∷ body_items fs vs))
unfolding writing
due_record k fs vs e n = rw (e, n)

-- a first value that fits
pub fits : (f : Field) (fs : List Field) (v : ℕ) (vs : List ℕ) → v ≤ most f → first_fault (f ∷ fs) (v ∷ vs) ≡ first_fault fs vs
unfolding first_fault
fits f fs v vs h = rw (le-leb v (most f) h)

no_fault : (vs : List ℕ) → first_fault [] vs ≡ option.none
unfolding first_fault
no_fault vs = refl

-- one record, and records behind records
one : {k : ℕ} {vs : List ℕ} (xs : List ℕ) → writing k vs ≡ result xs → Writes ((k, vs) ∷ []) xs
one {k} {vs} xs e = subst (Writes ((k, vs) ∷ [])) (append-nil xs) (record_first e nothing)

both_write : {rs qs : List (ℕ × List ℕ)} {xs ys : List ℕ} → Writes rs xs → Writes qs ys → Writes (rs ++ qs) (xs ++ ys)
both_write nothing q = q
both_write {qs = qs} {ys = ys} (record_first {k} {vs} {xs} {rs} {s} e p) q =
    subst (Writes ((k, vs) ∷ (rs ++ qs))) (sym (append_assoc xs s ys)) (record_first e (both_write p q))

each_write : {A : Type 0} (records : A → List (ℕ × List ℕ)) (s : A → List ℕ) (Ok : A → Type 0) → ((a : A) → Ok a → Writes (records a) (s a)) → (l : List A) → Each Ok l
    → Writes (flat_map records l) (each_bytes s l)
unfolding each_bytes
each_write records s Ok law [] o = nothing
each_write records s Ok law (a ∷ l) o = both_write (law a o.0) (each_write records s Ok law l o.1)

-- a value that fits its bytes is at most the largest
at_most : (w v : ℕ) → Fits w v → v ≤ 256 ^ w - 1
at_most w v h = omega arith

-- a record with no values, with one number, or with one name
bare_write : (k : ℕ) → fields_of k (form_of k) ≡ some [] → Writes ((k, []) ∷ []) (k ∷ [])
unfolding body_items
bare_write k e = one (k ∷ []) (due_record k [] [] e (no_fault []))

number_write : (k w v : ℕ) → fields_of k (form_of k) ≡ some (whole w ∷ []) → Fits w v → Writes ((k, v ∷ []) ∷ []) (k ∷ bytes_of w v)
unfolding body_items
number_write k w v e h =
    one (k ∷ bytes_of w v)
    (due_record k (whole w ∷ []) (v ∷ []) e (fits (whole w) [] v [] (at_most w v h) ∙ no_fault [])
    ∙ ap (λ d. result (k ∷ bytes d)) (append-nil (number_items w v)) ∙ ap (λ l. result (k ∷ l)) (number_written w v))

name_write : (k n : ℕ) → fields_of k (form_of k) ≡ some (named ∷ []) → Fits 2 n → Writes ((k, n ∷ []) ∷ []) (k ∷ name_bytes n)
unfolding body_items name_bytes
name_write k n e h = one (k ∷ name_bytes n) (due_record k (named ∷ []) (n ∷ []) e (fits named [] n [] (at_most 2 n h) ∙ no_fault []))

-- a path
path_fits : (ns : List ℕ) → Each (Fits 2) ns → first_fault (replicate (length ns) named) ns ≡ option.none
path_fits [] o = no_fault []
path_fits (n ∷ ns) o = fits named (replicate (length ns) named) n ns (at_most 2 n o.0) ∙ path_fits ns o.1

path_bytes : (ns : List ℕ) → bytes (body_items (replicate (length ns) named) ns) ≡ names_bytes ns
unfolding body_items names_bytes name_bytes
path_bytes [] = refl
path_bytes (n ∷ ns) = ap (λ l. n % 256 ∷ n / 256 ∷ l) (path_bytes ns)

-- an expression
expr_writes : (e : Expr) → ExprOk e → Writes (expr_records e) (expr_bytes e)
unfolding expr_records expr_bytes lookup
expr_writes (literal k v) o =
    let w = get_or widths (k - 1) 0 in
    number_write k w v (ap (fields_of k) (hit kinds 1 0 k tt (lit< tt) o.0.0 o.0.1)) o.1
expr_writes (field_ref path) o =
    let n = length path in
    let q : 8 + n - 8 ≡ n = omega arith in
    one ((8 + n) ∷ names_bytes path)
    (due_record (8 + n) (replicate n named) path
    (ap (fields_of (8 + n)) (hit kinds 1 1 (8 + n) tt (lit< tt) (omega (arith, o.0.0)) (omega (arith, o.0.1))) ∙ ap (λ m. some (replicate m named)) q)
    (path_fits path o.1)
    ∙ ap (λ l. result ((8 + n) ∷ l)) (path_bytes path))
expr_writes (sizeof x) o = name_write 0x0D x refl o
expr_writes (alignof x) o = name_write 0x0E x refl o
expr_writes (binary k l r) o =
    both_write (both_write (bare_write k (ap (fields_of k) (hit kinds 1 4 k tt (lit< tt) o.0.0 o.0.1))) (expr_writes l o.1)) (expr_writes r o.2)
expr_writes (unary k e) o = both_write (bare_write k (ap (fields_of k) (hit kinds 1 5 k tt (lit< tt) o.0.0 o.0.1))) (expr_writes e o.1)

-- a number of one byte
byte_written : (v : ℕ) → v ≤ 1 → bytes (number_items 1 v) ≡ v ∷ []
unfolding number_items
byte_written v h = let e : v % 256 ≡ v = omega arith in ap (◌∷ []) e

-- attributes and a last number of w bytes
head_write : (k w n m : ℕ) (a : Attributes) → fields_of k (form_of k) ≡ some (flag ∷ whole 8 ∷ numeric w m 4 ∷ []) → AttributesOk a → n ≤ m
    → Writes ((k, head_values a n) ∷ []) (k ∷ head_bytes a w n)
unfolding body_items head_bytes
head_write k w n m a e o h =
    one (k ∷ head_bytes a w n)
    (due_record k (flag ∷ whole 8 ∷ numeric w m 4 ∷ []) (head_values a n) e
    (fits flag (whole 8 ∷ numeric w m 4 ∷ []) a.packed (a.aligned ∷ n ∷ []) o.0
    ∙ fits (whole 8) (numeric w m 4 ∷ []) a.aligned (n ∷ []) (at_most 8 a.aligned o.1)
    ∙ fits (numeric w m 4) [] n [] h ∙ no_fault [])
    ∙ ap (λ l. result (k ∷ l))
    (both_written (number_items 1 a.packed) (number_items 8 a.aligned ++ (number_items w n ++ [])) (byte_written a.packed o.0)
    (both_written (number_items 8 a.aligned) (number_items w n ++ []) (number_written 8 a.aligned) (ap bytes (append-nil (number_items w n)) ∙ number_written w n))))

-- a member's own record
module _ (k w : ℕ) (e : fields_of k (form_of k) ≡ some (named ∷ [])) (f : w ≡ 0) where
  field_write : (n v : ℕ) → Fits 2 n → Writes ((k, n ∷ v ∷ []) ∷ []) (k ∷ name_bytes n ++ bytes_of w v)
  unfolding body_items name_bytes bytes_of
  field_write n v h = rw f (one (k ∷ name_bytes n) (due_record k (named ∷ []) (n ∷ v ∷ []) e (fits named [] n (v ∷ []) (at_most 2 n h) ∙ no_fault (v ∷ []))))

variant_write : (k w : ℕ) → fields_of k (form_of k) ≡ some (named ∷ whole w ∷ []) → (n v : ℕ) → Fits 2 n → Fits w v
    → Writes ((k, n ∷ v ∷ []) ∷ []) (k ∷ name_bytes n ++ bytes_of w v)
unfolding body_items name_bytes
variant_write k w e n v h g =
    one (k ∷ name_bytes n ++ bytes_of w v)
    (due_record k (named ∷ whole w ∷ []) (n ∷ v ∷ []) e
    (fits named (whole w ∷ []) n (v ∷ []) (at_most 2 n h) ∙ fits (whole w) [] v [] (at_most w v g) ∙ no_fault [])
    ∙ ap (λ l. result (k ∷ n % 256 ∷ n / 256 ∷ l)) (ap bytes (append-nil (number_items w v)) ∙ number_written w v))

-- members of kind k, whose values have w bytes
abbrev MemberWrites : ℕ → ℕ → Type 0
MemberWrites k w = (n v : ℕ) → Fits 2 n → Fits w v → Writes ((k, n ∷ v ∷ []) ∷ []) (k ∷ name_bytes n ++ bytes_of w v)

mutual
  unfolding type_records type_bytes lookup

  type_writes : (t : Ty) → TyOk t → Writes (type_records t) (type_bytes t)
  type_writes (primitive k) o = bare_write k (ap (fields_of k) (hit kinds 1 6 k tt (lit< tt) o.0 o.1))
  type_writes (type_ref x) o = name_write 0x40 x refl o
  type_writes (struct a ms) o =
      both_write (head_write 0x41 2 (member_count ms) 65535 a refl o.0 (at_most 2 (member_count ms) o.1)) (members_write ms 0x50 0 (λ n v h g. field_write 0x50 0 refl refl n v h) o.2)
  type_writes (union a ms) o =
      both_write (head_write 0x42 2 (member_count ms) 65535 a refl o.0 (at_most 2 (member_count ms) o.1)) (members_write ms 0x51 0 (λ n v h g. field_write 0x51 0 refl refl n v h) o.2)
  type_writes (enum a tag ms) o =
      both_write (both_write (head_write 0x43 2 (member_count ms) 65535 a refl o.0 (at_most 2 (member_count ms) o.1)) (expr_writes tag o.2))
      (members_write ms 0x52 8 (variant_write 0x52 8 refl) o.3)
  type_writes (array a jagged size element) o =
      both_write (both_write (head_write 0x44 1 jagged 1 a refl o.0 o.1) (expr_writes size o.2)) (type_writes element o.3)
  type_writes (size_union a ms) o =
      both_write (head_write 0x45 2 (member_count ms) 65535 a refl o.0 (at_most 2 (member_count ms) o.1)) (members_write ms 0x53 8 (variant_write 0x53 8 refl) o.2)

  member_writes : (m : Member) (k w : ℕ) → MemberWrites k w → MemberOk m w → Writes (member_records m k) (member_bytes m k w)
  member_writes (member n v t) k w law o = both_write (law n v o.0 o.1) (type_writes t o.2)

  members_write : (ms : Members) (k w : ℕ) → MemberWrites k w → MembersOk ms w → Writes (members_records ms k) (members_bytes ms k w)
  members_write none k w law o = nothing
  members_write (more m ms) k w law o = both_write (member_writes m k w law o.0) (members_write ms k w law o.1)

definition_writes : (d : Definition) → DefinitionOk d → Writes (definition_records d) (definition_bytes d)
unfolding definition_records definition_bytes lookup
definition_writes d o = both_write (name_write 0x61 d.name refl o.0) (type_writes d.type o.1)

edge_writes : (e : Edge) → EdgeOk e → Writes (edge_records e) (edge_bytes e)
unfolding edge_records edge_bytes lookup body_items name_bytes number_items
edge_writes e o =
    let k : e.kind % 256 ≡ e.kind = omega (arith, o.2) in
    one (0x62 ∷ name_bytes e.from ++ name_bytes e.to ++ e.kind ∷ [])
    (due_record 0x62 (named ∷ named ∷ numeric 1 3 4 ∷ []) (e.from ∷ e.to ∷ e.kind ∷ []) refl
    (fits named (named ∷ numeric 1 3 4 ∷ []) e.from (e.to ∷ e.kind ∷ []) (at_most 2 e.from o.0)
    ∙ fits named (numeric 1 3 4 ∷ []) e.to (e.kind ∷ []) (at_most 2 e.to o.1)
    ∙ fits (numeric 1 3 4) [] e.kind [] o.2 ∙ no_fault [])
    ∙ ap (λ b. result (0x62 ∷ e.from % 256 ∷ e.from / 256 ∷ e.to % 256 ∷ e.to / 256 ∷ b ∷ [])) k)

header_writes : (d e c : ℕ) → d ≤ definition_limit → e ≤ edge_limit → Fits 2 c → Writes ((0x60, d ∷ e ∷ c ∷ []) ∷ []) (0x60 ∷ bytes_of 2 d ++ bytes_of 2 e ++ name_bytes c)
unfolding lookup body_items name_bytes number_items bytes_of
header_writes d e c p q h =
    let fs = numeric 2 edge_limit 5 ∷ named ∷ [] in
    one (0x60 ∷ bytes_of 2 d ++ bytes_of 2 e ++ name_bytes c)
    (due_record 0x60 (numeric 2 definition_limit 5 ∷ fs) (d ∷ e ∷ c ∷ []) refl
    (fits (numeric 2 definition_limit 5) fs d (e ∷ c ∷ []) p
    ∙ fits (numeric 2 edge_limit 5) (named ∷ []) e (c ∷ []) q
    ∙ fits named [] c [] (at_most 2 c h) ∙ no_fault []))

-- the records of a bundle within the limits are all accepted, and their bytes are the bundle's
pub bundle_writes : (b : Bundle) → BundleOk b → Writes (bundle_records b) (bundle_bytes b)
unfolding bundle_records written_bytes
bundle_writes b o =
    subst (Writes (bundle_records b)) (sym (bundle_written b))
    (both_write
    (both_write (header_writes (length b.definitions) (length b.edges) b.current o.definitions.0 o.edges.0 o.current)
    (each_write definition_records definition_bytes DefinitionOk definition_writes b.definitions o.definitions.1))
    (each_write edge_records edge_bytes EdgeOk edge_writes b.edges o.edges.1))

-- so they read back as the bundle
pub records_read_back : (b : Bundle) → BundleOk b → (s : List ℕ) → Writes (bundle_records b) s → read_bundle s ≡ ok b (length s)
records_read_back b o s w = rw (same_bytes w (bundle_writes b o)) (bundle_read_back b o)
  where
    same_bytes : {rs : List (ℕ × List ℕ)} {s t : List ℕ} → Writes rs s → Writes rs t → s ≡ t
    same_bytes nothing nothing = refl
    same_bytes (record_first {xs = xs} e p) (record_first {xs = ys} f q) = let x : xs ≡ ys = cc in ap₂ ◌++◌ x (same_bytes p q)
