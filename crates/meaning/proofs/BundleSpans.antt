-- The law of the format: a bundle that was read from bytes is written as those bytes.
use Prim.Native.Nat.{ℕ, ◌+◌, ◌*◌, ◌≤◌}
use native.Mathlib.Omega.{arith}
use mathlib.Core.Bool.{Bool, true, false, cond, ◌&&◌}
use mathlib.Core.Path.{◌≡◌, refl, sym, ◌∙◌}
use mathlib.Core.List.{List, [], ◌∷◌, ◌++◌, append_assoc, append-nil}
use lib.ListN.{length, get_or, drop_of_length-le}
use lib.Dec.{leb, eqb}
use borrow.Author.Tests.{leb-true}
use Rattle.meaning.specs.Limits.{size_limit, definition_limit, edge_limit, depth_limit}
use Rattle.meaning.specs.Kinds.{OfRecord}
use Rattle.meaning.specs.Kinds.{form_of, lookup}
use Rattle.meaning.specs.Tree.{Definition, Edge, Bundle}
use Rattle.meaning.specs.ReadBundle.{record_body, opening, read_definition, read_edge, Header, read_header, end, read_edges, read_rest, read_records, read_bundle}
use Rattle.meaning.specs.ReadType.{read_ty}
use Rattle.meaning.specs.ReadExpr.{kind}
use Rattle.meaning.specs.Reader.{ok, refused, Reader, after, check, many, little}
use Rattle.meaning.specs.Encoding.{Bytes, bundle_bytes}
use Rattle.meaning.proofs.Written.{bytes_of, type_bytes, definition_bytes, edge_bytes, each_bytes, written_bytes, name_bytes, bundle_written}
use Rattle.meaning.proofs.Readings.{went, there}
use Rattle.meaning.proofs.ExprSpans.{Spans, both, byte_spans, number_spans, name_spans, settle, no}
use Rattle.meaning.proofs.TypeSpans.{passed, expected, many_spans, type_spans}

module _ (s : List ℕ) (bytes : Bytes s) where
  -- the kind byte of a record, whose body is there
  pub opening_spans : (m a b c : ℕ) → OfRecord a b c ≡ form_of m → (at n : ℕ) (u : Unit {0}) → opening m s at ≡ ok u n → Spans s at (m ∷ []) n × (n + (a + 2 * b + c) ≤ length s)
  unfolding opening record_body
  opening_spans m a b d f at n u e =
      let g = went (kind s at) _ s u n e in
      let c = went (check (eqb g.value m) 3 s g.middle) _ s u n g.then in
      let x = expected s bytes m at g.value g.middle c.middle c.value g.first c.first in
      whole g.value c.middle x.0 x.1 c.then
    where
      whole : (k i : ℕ) → k ≡ m → Spans s at (m ∷ []) i → record_body (form_of k) s i ≡ ok u n → Spans s at (m ∷ []) n × (n + (a + 2 * b + d) ≤ length s)
      whole k i z p q =
          let t = there (a + 2 * b + d) i s u n (rw (z, ← f) at q) in
          (rw t.same p, rw t.same t.bound)

  -- a definition
  pub definition_spans : (at n : ℕ) (d : Definition) → read_definition s at ≡ ok d n → Spans s at (definition_bytes d) n
  unfolding read_definition definition_bytes lookup
  definition_spans at n d e =
      let o = went (opening 0x61 s at) _ s d n e in
      let p = opening_spans 0x61 0 1 0 refl at o.middle o.value o.first in
      let b = o.middle in
      let g = went (read_ty depth_limit s (b + 2)) _ s d n o.then in
      settle (λ (d : Definition) n. Spans s at (0x61 ∷ name_bytes d.name ++ type_bytes d.type) n) g.then
      (both s at (b + 2) g.middle (0x61 ∷ name_bytes (little s b 2)) (type_bytes g.value)
      (both s at b (b + 2) (0x61 ∷ []) (name_bytes (little s b 2)) p.0 (name_spans s bytes b p.1))
      (type_spans s bytes depth_limit (b + 2) g.middle g.value g.first))

  -- an edge
  pub edge_spans : (at n : ℕ) (x : Edge) → read_edge s at ≡ ok x n → Spans s at (edge_bytes x) n
  unfolding read_edge edge_bytes lookup
  edge_spans at n x e =
      let o = went (opening 0x62 s at) _ s x n e in
      let p = opening_spans 0x62 0 2 1 refl at o.middle o.value o.first in
      parts o.middle p.0 p.1 o.then
    where
      parts : (b : ℕ) → Spans s at (0x62 ∷ []) b → b + 5 ≤ length s
          → after (check (leb (get_or s (b + 2 + 2) 0) 3) 4 s (b + 2 + 2 + 1)) (λ u t j. ok (record { from = little s b 2; to = little s (b + 2) 2; kind = get_or s (b + 2 + 2) 0 }) j) s ≡ ok x n
          → Spans s at (0x62 ∷ name_bytes x.from ++ name_bytes x.to ++ x.kind ∷ []) n
      parts b p h q =
          let c = went (check (leb (get_or s (b + 2 + 2) 0) 3) 4 s (b + 2 + 2 + 1)) _ s x n q in
          let t = passed (leb (get_or s (b + 2 + 2) 0) 3) 4 s (b + 2 + 2 + 1) c.value c.middle c.first in
          settle (λ (x : Edge) n. Spans s at (0x62 ∷ name_bytes x.from ++ name_bytes x.to ++ x.kind ∷ []) n) c.then
          (rw t.1
          (both s at (b + 2 + 2) (b + 2 + 2 + 1) (0x62 ∷ name_bytes (little s b 2) ++ name_bytes (little s (b + 2) 2)) (get_or s (b + 2 + 2) 0 ∷ [])
          (both s at (b + 2) (b + 2 + 2) (0x62 ∷ name_bytes (little s b 2)) (name_bytes (little s (b + 2) 2))
          (both s at b (b + 2) (0x62 ∷ []) (name_bytes (little s b 2)) p (name_spans s bytes b (omega arith)))
          (name_spans s bytes (b + 2) (omega arith)))
          (byte_spans s bytes (b + 2 + 2) (omega arith))))

  -- the header
  pub header_spans : (at n : ℕ) (h : Header) → read_header s at ≡ ok h n → Spans s at (0x60 ∷ bytes_of 2 h.definitions ++ bytes_of 2 h.edges ++ name_bytes h.current) n
  unfolding read_header lookup
  header_spans at n h e =
      let o = went (opening 0x60 s at) _ s h n e in
      let p = opening_spans 0x60 4 1 0 refl at o.middle o.value o.first in
      parts o.middle p.0 p.1 o.then
    where
      parts : (b : ℕ) → Spans s at (0x60 ∷ []) b → b + 6 ≤ length s
          → after (check (leb (little s b 2) definition_limit && leb (little s (b + 2) 2) edge_limit) 5 s (b + 2 + 2 + 2)) (λ u t j. ok (record { definitions = little s b 2; edges = little s (b + 2) 2; current = little s (b + 2 + 2) 2 }) j) s ≡ ok h n
          → Spans s at (0x60 ∷ bytes_of 2 h.definitions ++ bytes_of 2 h.edges ++ name_bytes h.current) n
      parts b p z q =
          let c = went (check (leb (little s b 2) definition_limit && leb (little s (b + 2) 2) edge_limit) 5 s (b + 2 + 2 + 2)) _ s h n q in
          let t = passed (leb (little s b 2) definition_limit && leb (little s (b + 2) 2) edge_limit) 5 s (b + 2 + 2 + 2) c.value c.middle c.first in
          settle (λ (h : Header) n. Spans s at (0x60 ∷ bytes_of 2 h.definitions ++ bytes_of 2 h.edges ++ name_bytes h.current) n) c.then
          (rw t.1
          (both s at (b + 2 + 2) (b + 2 + 2 + 2) (0x60 ∷ bytes_of 2 (little s b 2) ++ bytes_of 2 (little s (b + 2) 2)) (name_bytes (little s (b + 2 + 2) 2))
          (both s at (b + 2) (b + 2 + 2) (0x60 ∷ bytes_of 2 (little s b 2)) (bytes_of 2 (little s (b + 2) 2))
          (both s at b (b + 2) (0x60 ∷ []) (bytes_of 2 (little s b 2)) p (number_spans s bytes 2 b (omega arith)))
          (number_spans s bytes 2 (b + 2) (omega arith)))
          (name_spans s bytes (b + 2 + 2) (omega arith))))

  -- the end is the end of the byte string
  pub end_is : (at n : ℕ) (u : Unit {0}) → end s at ≡ ok u n → (n ≡ at) × (length s ≤ at)
  unfolding end
  end_is at n u e = go (leb (length s) at) refl e
    where
      go : (t : Bool) → leb (length s) at ≡ t → cond t (ok tt at) (refused 7) ≡ ok u n → (n ≡ at) × (length s ≤ at)
      go true p q = (cc, leb-true (length s) at p)
      go false p q = no q

  -- a list of records
  pub list_spans : {A : Type 0} (r : Reader A) (one : A → List ℕ) → ((at n : ℕ) (a : A) → r s at ≡ ok a n → Spans s at (one a) n)
      → (n at m : ℕ) (l : List A) → many ◌∷◌ [] r n s at ≡ ok l m → Spans s at (each_bytes one l) m × (length l ≡ n)
  unfolding each_bytes
  list_spans r one law = many_spans s ◌∷◌ [] r one (each_bytes one) length law refl (λ a b. refl) refl (λ a b. refl)

  -- the edges and the end
  pub edges_spans : (m at n : ℕ) (es : List Edge) → read_edges m s at ≡ ok es n → Spans s at (each_bytes edge_bytes es) n × (length es ≡ m) × (length s ≤ n)
  unfolding read_edges
  edges_spans m at n es e =
      let g = went (many ◌∷◌ [] read_edge m s at) _ s es n e in
      let c = went (end s g.middle) _ s es n g.then in
      let p = list_spans read_edge edge_bytes edge_spans m at g.middle g.value g.first in
      let q = end_is g.middle c.middle c.value c.first in
      settle (λ (es : List Edge) n. Spans s at (each_bytes edge_bytes es) n × (length es ≡ m) × (length s ≤ n)) c.then
      (rw q.0 p.0, p.1, rw q.0 q.1)

  -- the definitions, the edges and the end
  pub rest_spans : (d m at n : ℕ) (r : List Definition × List Edge) → read_rest d m s at ≡ ok r n
      → Spans s at (each_bytes definition_bytes r.0 ++ each_bytes edge_bytes r.1) n × (length r.0 ≡ d) × (length r.1 ≡ m) × (length s ≤ n)
  unfolding read_rest
  rest_spans d m at n r e =
      let g = went (many ◌∷◌ [] read_definition d s at) _ s r n e in
      let c = went (read_edges m s g.middle) _ s r n g.then in
      let p = list_spans read_definition definition_bytes definition_spans d at g.middle g.value g.first in
      let q = edges_spans m g.middle c.middle c.value c.first in
      settle (λ (r : List Definition × List Edge) n. Spans s at (each_bytes definition_bytes r.0 ++ each_bytes edge_bytes r.1) n × (length r.0 ≡ d) × (length r.1 ≡ m) × (length s ≤ n)) c.then
      (both s at g.middle c.middle (each_bytes definition_bytes g.value) (each_bytes edge_bytes c.value) p.0 q.0, p.1, q.1, q.2)

-- three parts that make up s
joins : (s x y z : List ℕ) → s ≡ (x ++ (y ++ z)) ++ [] → x ++ y ++ z ≡ s
joins s x y z e = append_assoc x y z ∙ sym (append-nil (x ++ (y ++ z))) ∙ sym e

written_law : (s : List ℕ) → Bytes s → (b : Bundle) (n : ℕ) → read_bundle s ≡ ok b n → written_bytes b ≡ s
unfolding read_bundle read_records written_bytes
written_law s bytes b n e = records (leb (length s) size_limit) e
  where
    joined : (h : Header) (r : List Definition × List Edge) (m i : ℕ)
        → Spans s 0 (0x60 ∷ bytes_of 2 h.definitions ++ bytes_of 2 h.edges ++ name_bytes h.current) m
        → Spans s m (each_bytes definition_bytes r.0 ++ each_bytes edge_bytes r.1) i × (length r.0 ≡ h.definitions) × (length r.1 ≡ h.edges) × (length s ≤ i)
        → written_bytes (record { current = h.current; definitions = r.0; edges = r.1 }) ≡ s
    joined h r m i p q =
        let w = both s 0 m i (0x60 ∷ bytes_of 2 h.definitions ++ bytes_of 2 h.edges ++ name_bytes h.current) (each_bytes definition_bytes r.0 ++ each_bytes edge_bytes r.1) p q.0 in
        rw (q.1, q.2) (joins s (0x60 ∷ bytes_of 2 h.definitions ++ bytes_of 2 h.edges ++ name_bytes h.current) (each_bytes definition_bytes r.0) (each_bytes edge_bytes r.1) (rw (drop_of_length-le s q.3) at w))

    records : (t : Bool) → cond t (read_records s 0) (refused 1) ≡ ok b n → written_bytes b ≡ s
    records true q =
        let g = went (read_header s 0) _ s b n q in
        let c = went (read_rest g.value.definitions g.value.edges s g.middle) _ s b n g.then in
        settle (λ (b : Bundle) n. written_bytes b ≡ s) c.then
        (joined g.value c.value g.middle c.middle (header_spans s bytes 0 g.middle g.value g.first)
        (rest_spans s bytes g.value.definitions g.value.edges g.middle c.middle c.value c.first))
    records false q = no q

-- what is read encodes back to the bytes read
pub bundle_law : (s : List ℕ) → Bytes s → (b : Bundle) (n : ℕ) → read_bundle s ≡ ok b n → bundle_bytes b ≡ s
bundle_law s bytes b n e = bundle_written b ∙ written_law s bytes b n e
