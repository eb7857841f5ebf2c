-- The second law of the format: a bundle that the format can hold is read back from what was written of it.
use Prim.Native.Nat.{ℕ, ◌+◌, ◌*◌, ◌≤◌}
use native.Mathlib.Omega.{arith}
use mathlib.Core.Path.{◌≡◌, refl, sym, ap, ◌∙◌}
use mathlib.Core.List.{List, [], ◌∷◌, ◌++◌, append_assoc, append-nil}
use lib.ListN.{length, drop, length-append}
use borrow.Author.Tests.{le-leb, eq-eqb}
use Rattle.meaning.specs.Limits.{size_limit, definition_limit, edge_limit, depth_limit}
use Rattle.meaning.specs.Kinds.{OfRecord}
use Rattle.meaning.specs.Kinds.{form_of, lookup}
use Rattle.meaning.specs.Tree.{Definition, Edge, Bundle}
use Rattle.meaning.specs.Reader.{ok, Reader, many, little}
use Rattle.meaning.specs.ReadExpr.{only}
use Rattle.meaning.specs.ReadBundle.{record_body, opening, read_definition, read_edge, Header, read_header, end, read_edges, read_rest, read_records, read_bundle}
use Rattle.meaning.specs.Encoding.{bundle_bytes}
use Rattle.meaning.proofs.Written.{bytes_of, type_bytes, definition_bytes, edge_bytes, each_bytes, written_bytes, name_bytes, name_two, bundle_written}
use Rattle.meaning.specs.Within.{Fits, Each, DefinitionOk, EdgeOk, BundleOk}
use Rattle.meaning.proofs.Readings.{due_ok}
use Rattle.meaning.proofs.ExprBack.{Starts, follows, starts_byte, length_bytes_of, starts_number, length_name, node_back}
use Rattle.meaning.proofs.TypeBack.{ty_back}

module _ (s : List ℕ) where
  -- the kind byte of a record, with its body behind it
  pub opening_back : (m a n c at : ℕ) (ys : List ℕ) → form_of m ≡ OfRecord a n c → drop at s ≡ m ∷ ys → at + 1 + (a + 2 * n + c) ≤ length s → opening m s at ≡ ok tt (at + 1)
  unfolding opening record_body
  opening_back m a n c at ys p e h = node_back s (only m record_body) at m (OfRecord a n c) ys e p ∙ rw (eq-eqb m m refl, due_ok (a + 2 * n + c) (at + 1) s h)

  -- a number, and what follows it
  pub number_next : (w v at : ℕ) (rest : List ℕ) → at ≤ length s → Fits w v → Starts s at (bytes_of w v) rest → (little s at w ≡ v) × (at + w ≤ length s) × (drop (at + w) s ≡ rest)
  number_next w v at rest h f e =
      let n = starts_number s w v at rest f e in
      (n.0, n.1 h, rw (length_bytes_of w v) at (follows s at (bytes_of w v) rest e))

  -- a name, and what follows it
  pub name_next : (n at : ℕ) (rest : List ℕ) → at ≤ length s → Fits 2 n → Starts s at (name_bytes n) rest → (little s at 2 ≡ n) × (at + 2 ≤ length s) × (drop (at + 2) s ≡ rest)
  name_next n at rest h f e = number_next 2 n at rest h f (rw (name_two n f) at e)

  -- a definition
  pub definition_back : (d : Definition) → DefinitionOk d → (at : ℕ) (rest : List ℕ) → Starts s at (definition_bytes d) rest → read_definition s at ≡ ok d (at + length (definition_bytes d))
  unfolding read_definition definition_bytes lookup
  definition_back d o at rest e =
      let xs = name_bytes d.name in
      let ys = type_bytes d.type in
      let b = starts_byte s at 0x61 (xs ++ ys ++ rest) e in
      let n = name_next d.name (at + 1) (ys ++ rest) (omega (arith, b.1)) o.0 (b.2 ∙ append_assoc xs ys rest) in
      rw (opening_back 0x61 0 1 0 at (xs ++ ys ++ rest) refl e n.1, n.0, ty_back d.type s o.1 depth_limit (at + 1 + 2) rest o.2 n.2)
      (ap (ok d) (omega (arith, length-append xs ys, length_name d.name)))

  -- an edge
  pub edge_back : (x : Edge) → EdgeOk x → (at : ℕ) (rest : List ℕ) → Starts s at (edge_bytes x) rest → read_edge s at ≡ ok x (at + length (edge_bytes x))
  unfolding read_edge edge_bytes lookup
  edge_back x o at rest e =
      let xs = name_bytes x.from in
      let ys = name_bytes x.to in
      let zs = x.kind ∷ [] in
      let b = starts_byte s at 0x62 (xs ++ ys ++ zs ++ rest) e in
      let q : drop (at + 1) s ≡ xs ++ (ys ++ (zs ++ rest)) = b.2 ∙ append_assoc (xs ++ ys) zs rest ∙ append_assoc xs ys (zs ++ rest) in
      let n = name_next x.from (at + 1) (ys ++ (zs ++ rest)) (omega (arith, b.1)) o.0 q in
      let m = name_next x.to (at + 1 + 2) (zs ++ rest) n.1 o.1 n.2 in
      let k = starts_byte s (at + 1 + 2 + 2) x.kind rest m.2 in
      rw (opening_back 0x62 0 2 1 at (xs ++ ys ++ zs ++ rest) refl e (omega (arith, k.1)), n.0, m.0, k.0, le-leb x.kind 3 o.2)
      (ap (ok x) (omega (arith, length-append (xs ++ ys) zs, length-append xs ys, length_name x.from, length_name x.to)))

  -- a list of records
  pub list_back : {A : Type 0} (r : Reader A) (one : A → List ℕ) (Ok : A → Type 0)
      → ((a : A) → Ok a → (at : ℕ) (rest : List ℕ) → Starts s at (one a) rest → r s at ≡ ok a (at + length (one a)))
      → (l : List A) → Each Ok l → (at : ℕ) (rest : List ℕ) → Starts s at (each_bytes one l) rest → many ◌∷◌ [] r (length l) s at ≡ ok l (at + length (each_bytes one l))
  unfolding many each_bytes
  list_back r one Ok law [] o at rest e = ap (ok []) (omega arith)
  list_back r one Ok law (a ∷ l) o at rest e =
      let q : Starts s at (one a) (each_bytes one l ++ rest) = e ∙ append_assoc (one a) (each_bytes one l) rest in
      rw (law a o.0 at (each_bytes one l ++ rest) q, list_back r one Ok law l o.1 (at + length (one a)) rest (follows s at (one a) (each_bytes one l ++ rest) q))
      (ap (ok (a ∷ l)) (omega (arith, length-append (one a) (each_bytes one l))))

-- the bytes of a header
abbrev pub header_bytes : Header → List ℕ
header_bytes h = 0x60 ∷ bytes_of 2 h.definitions ++ bytes_of 2 h.edges ++ name_bytes h.current

length_header : (h : Header) → length (header_bytes h) ≡ 7
length_header h =
    let xs = bytes_of 2 h.definitions in
    let ys = bytes_of 2 h.edges in
    let zs = name_bytes h.current in
    omega (arith, length-append (xs ++ ys) zs, length-append xs ys, length_bytes_of 2 h.definitions, length_bytes_of 2 h.edges, length_name h.current)

-- a header
pub header_back : (s : List ℕ) (h : Header) → h.definitions ≤ definition_limit → h.edges ≤ edge_limit → Fits 2 h.current → (at : ℕ) (rest : List ℕ) → Starts s at (header_bytes h) rest → read_header s at ≡ ok h (at + length (header_bytes h))
unfolding read_header lookup
header_back s h d e f at rest p =
    let xs = bytes_of 2 h.definitions in
    let ys = bytes_of 2 h.edges in
    let zs = name_bytes h.current in
    let b = starts_byte s at 0x60 (xs ++ ys ++ zs ++ rest) p in
    let q : drop (at + 1) s ≡ xs ++ (ys ++ (zs ++ rest)) = b.2 ∙ append_assoc (xs ++ ys) zs rest ∙ append_assoc xs ys (zs ++ rest) in
    let n = number_next s 2 h.definitions (at + 1) (ys ++ (zs ++ rest)) (omega (arith, b.1)) (omega arith) q in
    let m = number_next s 2 h.edges (at + 1 + 2) (zs ++ rest) n.1 (omega arith) n.2 in
    let k = name_next s h.current (at + 1 + 2 + 2) rest m.1 f m.2 in
    rw (opening_back s 0x60 4 1 0 at (xs ++ ys ++ zs ++ rest) refl p (omega (arith, k.1)), n.0, m.0, k.0, le-leb h.definitions definition_limit d, le-leb h.edges edge_limit e)
    (ap (ok h) (omega (arith, length_header h)))

-- the header of a bundle
abbrev header_of : Bundle → Header
header_of b = record { definitions = length b.definitions; edges = length b.edges; current = b.current }

written_read_back : (b : Bundle) → BundleOk b → read_bundle (written_bytes b) ≡ ok b (length (written_bytes b))
unfolding read_bundle read_records read_rest read_edges end written_bytes
written_read_back b o =
    let s = written_bytes b in
    let xs = header_bytes (header_of b) in
    let ys = each_bytes definition_bytes b.definitions in
    let zs = each_bytes edge_bytes b.edges in
    let p : Starts s 0 xs (ys ++ (zs ++ [])) = append_assoc xs ys zs ∙ ap (λ (l : List ℕ). xs ++ (ys ++ l)) (sym (append-nil zs)) in
    let q : Starts s (0 + length xs) ys (zs ++ []) = follows s 0 xs (ys ++ (zs ++ [])) p in
    let r : Starts s (0 + length xs + length ys) zs [] = follows s (0 + length xs) ys (zs ++ []) q in
    let l : 0 + length xs + length ys + length zs ≡ length s = omega (arith, length-append (xs ++ ys) zs, length-append xs ys) in
    rw (
      le-leb (length s) size_limit (rw bundle_written at o.size),
      header_back s (header_of b) o.definitions.0 o.edges.0 o.current 0 (ys ++ (zs ++ [])) p,
      list_back s read_definition definition_bytes DefinitionOk (definition_back s) b.definitions o.definitions.1 (0 + length xs) (zs ++ []) q,
      list_back s read_edge edge_bytes EdgeOk (edge_back s) b.edges o.edges.1 (0 + length xs + length ys) [] r,
      l,
      le-leb (length s) (length s) (omega arith),
    )

-- every tree within the limits is read back from its encoding
pub bundle_read_back : (b : Bundle) → BundleOk b → read_bundle (bundle_bytes b) ≡ ok b (length (bundle_bytes b))
bundle_read_back b o = rw (bundle_written b) (written_read_back b o)
