-- 7 is the number exactly of a bundle with bytes behind it.
use Prim.Native.Nat.{ℕ, ◌+◌, ◌≤◌, ◌<◌}
use native.Mathlib.Omega.{arith}
use mathlib.Core.Bool.{Bool, true, false, cond}
use mathlib.Core.Logic.{◌↔◌}
use mathlib.Core.Path.{◌≡◌, refl, sym, ap, ◌∙◌}
use mathlib.Core.List.{List, [], ◌∷◌, ◌++◌, append_assoc}
use lib.ListN.{length, take, drop, length-append, length-drop, length-take, take-append-drop}
use lib.Seq.{take_at}
use lib.Dec.{leb}
use borrow.Author.Tests.{leb-true, leb-false, le-leb, lt-leb}
use Rattle.meaning.specs.Limits.{size_limit}
use Rattle.meaning.specs.Tree.{Definition, Edge, Bundle}
use Rattle.meaning.specs.Encoding.{Bytes, bundle_bytes}
use Rattle.meaning.specs.Within.{DefinitionOk, EdgeOk}
use Rattle.meaning.specs.Reader.{Read, ok, refused, Reader, after, many}
use Rattle.meaning.specs.ReadBundle.{read_definition, read_edge, Header, read_header, end, read_edges, read_rest, read_records, read_bundle}
use Rattle.meaning.proofs.Written.{definition_bytes, edge_bytes, each_bytes, written_bytes, bundle_written}
use Rattle.meaning.proofs.ExprSpans.{Spans, both}
use Rattle.meaning.proofs.ExprBack.{Starts, follows}
use Rattle.meaning.proofs.BundleSpans.{header_spans, definition_spans, edge_spans, list_spans}
use Rattle.meaning.proofs.BundleBack.{header_bytes, header_back, definition_back, edge_back, list_back}
use Rattle.refusals.specs.Numbers.{Only, fault_of, number_of, Trailing}
use Rattle.refusals.proofs.Faults.{Among, definitions_only, edges_only, header_only}
use Rattle.meaning.proofs.ReadWithin.{list_within, definition_within, edge_within, header_within}

-- where a reading that goes on after another was refused
pub data Stopped {A B : Type 0} (x : Read A) (f : A → Reader B) (s : List ℕ) (k : ℕ) : Type 0 where
  first : x ≡ refused k → Stopped x f s k
  then : (a : A) (n : ℕ) → x ≡ ok a n → f a s n ≡ refused k → Stopped x f s k

pub stopped : {A B : Type 0} (x : Read A) (f : A → Reader B) (s : List ℕ) (k : ℕ) → after x f s ≡ refused k → Stopped x f s k
stopped (ok a n) f s k e = then a n refl e
stopped (refused j) f s k e = first (cc)

-- no fault but 7
abbrev Other : ℕ → Type 0
Other k = k ≡ 7 → ⊥

others : Among Other
others = record { short = λ z. omega arith; stranger = λ z. omega arith; off = λ z. omega arith; buried = λ z. omega arith }

pub never : {A B : Type 0} {a : A} {n k : ℕ} → ok a n ≡ refused k → B
never e = let z : ◌≡◌ {A = ℕ} 0 1 = cc in absurd (omega arith)

not_seven : {A B : Type 0} (x : Read A) → Only Other x → x ≡ refused 7 → B
not_seven (ok a n) o e = never e
not_seven (refused k) o e = let f : k ≡ 7 = cc in absurd (o f)

module _ (s : List ℕ) where
  -- the edges were read, and bytes are left
  record EdgesLeft (m at : ℕ) : Type 0 where
    edges : List Edge
    end : ℕ
    read : many ◌∷◌ [] read_edge m s at ≡ ok edges end
    left : end < length s

  end_left : (at : ℕ) → end s at ≡ refused 7 → at < length s
  unfolding end
  end_left at e = go (leb (length s) at) refl e
    where
      go : (t : Bool) → leb (length s) at ≡ t → cond {A = Read (Unit {0})} t (ok tt at) (refused 7) ≡ refused 7 → at < length s
      go true p q = never q
      go false p q = leb-false (length s) at p

  edges_left : (m at : ℕ) → read_edges m s at ≡ refused 7 → EdgesLeft m at
  unfolding read_edges
  edges_left m at e = go (stopped (many ◌∷◌ [] read_edge m s at) _ s 7 e)
    where
      inner : (es : List Edge) (n : ℕ) → many ◌∷◌ [] read_edge m s at ≡ ok es n → Stopped (end s n) (λ u t i. ok es i) s 7 → EdgesLeft m at
      inner es n p (first q) = record { edges = es; end = n; read = p; left = end_left n q }
      inner es n p (then u i q r) = never r

      go : Stopped (many ◌∷◌ [] read_edge m s at) (λ es t n. after (end t n) (λ u w i. ok es i) t) s 7 → EdgesLeft m at
      go (first p) = not_seven (many ◌∷◌ [] read_edge m s at) (edges_only Other others s m at) p
      go (then es n p q) = inner es n p (stopped (end s n) _ s 7 q)

  -- so were the definitions
  record RestLeft (d m at : ℕ) : Type 0 where
    definitions : List Definition
    middle : ℕ
    read : many ◌∷◌ [] read_definition d s at ≡ ok definitions middle
    edges : EdgesLeft m middle

  rest_left : (d m at : ℕ) → read_rest d m s at ≡ refused 7 → RestLeft d m at
  unfolding read_rest
  rest_left d m at e = go (stopped (many ◌∷◌ [] read_definition d s at) _ s 7 e)
    where
      inner : (ds : List Definition) (n : ℕ) → many ◌∷◌ [] read_definition d s at ≡ ok ds n → Stopped {B = List Definition × List Edge} (read_edges m s n) (λ es t i. ok (ds, es) i) s 7 → RestLeft d m at
      inner ds n p (first q) = record { definitions = ds; middle = n; read = p; edges = edges_left m n q }
      inner ds n p (then es i q r) = never r

      go : Stopped {B = List Definition × List Edge} (many ◌∷◌ [] read_definition d s at) (λ ds t n. after (read_edges m t n) (λ es w i. ok (ds, es) i) t) s 7 → RestLeft d m at
      go (first p) = not_seven (many ◌∷◌ [] read_definition d s at) (definitions_only Other others s d at) p
      go (then ds n p q) = inner ds n p (stopped (read_edges m s n) _ s 7 q)

  -- and the header
  record AllLeft : Type 0 where
    header : Header
    start : ℕ
    read : read_header s 0 ≡ ok header start
    rest : RestLeft header.definitions header.edges start

  abbrev bundle_of : Header → List Definition × List Edge → Bundle
  bundle_of h r = record { current = h.current; definitions = r.0; edges = r.1 }

  all_left : read_records s 0 ≡ refused 7 → AllLeft
  unfolding read_records
  all_left e = go (stopped (read_header s 0) _ s 7 e)
    where
      inner : (h : Header) (n : ℕ) → read_header s 0 ≡ ok h n → Stopped (read_rest h.definitions h.edges s n) (λ r t i. ok (bundle_of h r) i) s 7 → AllLeft
      inner h n p (first q) = record { header = h; start = n; read = p; rest = rest_left h.definitions h.edges n q }
      inner h n p (then r i q z) = never z

      go : Stopped (read_header s 0) (λ h t n. after (read_rest h.definitions h.edges t n) (λ r w i. ok (bundle_of h r) i) t) s 7 → AllLeft
      go (first p) = not_seven (read_header s 0) (header_only Other others s (λ z. omega arith) 0) p
      go (then h n p q) = inner h n p (stopped (read_rest h.definitions h.edges s n) _ s 7 q)

  module _ (bytes : Bytes s) (small : length s ≤ size_limit) where
    behind : AllLeft → Trailing s
    unfolding written_bytes
    behind a =
        let h = a.header in
        let ds = a.rest.definitions in
        let es = a.rest.edges.edges in
        let m = a.rest.middle in
        let n = a.rest.edges.end in
        let b = bundle_of h (ds, es) in
        let p = header_spans s bytes 0 a.start h a.read in
        let q = list_spans s bytes read_definition definition_bytes (definition_spans s bytes) h.definitions a.start m ds a.rest.read in
        let r = list_spans s bytes read_edge edge_bytes (edge_spans s bytes) h.edges m n es a.rest.edges.read in
        let xs = header_bytes h in
        let ys = each_bytes definition_bytes ds in
        let zs = each_bytes edge_bytes es in
        let w : Spans s 0 (xs ++ (ys ++ zs)) n = both s 0 a.start n xs (ys ++ zs) p (both s a.start m n ys zs q.0 r.0) in
        let l : length (xs ++ (ys ++ zs)) ≡ n = omega (arith, ap length w, length-append (xs ++ (ys ++ zs)) (drop n s), length-drop n s, a.rest.edges.left) in
        let written : written_bytes b ≡ take n s = rw (q.1, r.1) (append_assoc xs ys zs ∙ sym (ap (take n) w ∙ take_at (xs ++ (ys ++ zs)) (drop n s) n l)) in
        let same : bundle_bytes b ≡ take n s = bundle_written b ∙ written in
        let hw = header_within s bytes 0 a.start h a.read in
        let dw = list_within s read_definition DefinitionOk (definition_within s bytes) h.definitions a.start m ds a.rest.read in
        let ew = list_within s read_edge EdgeOk (edge_within s bytes) h.edges m n es a.rest.edges.read in
        record {
          small = small;
          end = n;
          more = a.rest.edges.left;
          tree = b;
          bundle = record {
            layout = same;
            limits = record {
              definitions = (rw dw.1 hw.0, dw.0);
              edges = (rw ew.1 hw.1, ew.0);
              current = hw.2;
              size = rw same (omega (arith, length-take n s));
            };
          };
        }

trailing_seven : (s : List ℕ) → Trailing s → number_of s ≡ 7
unfolding read_bundle read_records read_rest read_edges end written_bytes
trailing_seven s c =
    let b = c.tree in
    let o = c.bundle.limits in
    let h : Header = record { definitions = length b.definitions; edges = length b.edges; current = b.current } in
    let xs = header_bytes h in
    let ys = each_bytes definition_bytes b.definitions in
    let zs = each_bytes edge_bytes b.edges in
    let rest = drop c.end s in
    let e : take c.end s ≡ xs ++ ys ++ zs = sym c.bundle.layout ∙ bundle_written b in
    let p : Starts s 0 xs (ys ++ (zs ++ rest)) =
    sym (take-append-drop c.end s) ∙ ap (λ l. l ++ rest) (e ∙ append_assoc xs ys zs) ∙ append_assoc xs (ys ++ zs) rest ∙ ap (λ l. xs ++ l) (append_assoc ys zs rest) in
    let q : Starts s (0 + length xs) ys (zs ++ rest) = follows s 0 xs (ys ++ (zs ++ rest)) p in
    let r : Starts s (0 + length xs + length ys) zs rest = follows s (0 + length xs) ys (zs ++ rest) q in
    let l : 0 + length xs + length ys + length zs < length s =
    omega (arith, ap length e, length-take c.end s, c.more, length-append (xs ++ ys) zs, length-append xs ys) in
    rw (
      le-leb (length s) size_limit c.small,
      header_back s h o.definitions.0 o.edges.0 o.current 0 (ys ++ (zs ++ rest)) p,
      list_back s read_definition definition_bytes DefinitionOk (definition_back s) b.definitions o.definitions.1 (0 + length xs) (zs ++ rest) q,
      list_back s read_edge edge_bytes EdgeOk (edge_back s) b.edges o.edges.1 (0 + length xs + length ys) rest r,
      lt-leb (length s) (0 + length xs + length ys + length zs) l,
    ) refl

pub trailing : (s : List ℕ) → Bytes s → (number_of s ≡ 7) ↔ Trailing s
unfolding read_bundle
trailing s bytes = (λ e. there (leb (length s) size_limit) refl e, trailing_seven s)
  where
    seven : (x : Read Bundle) → fault_of x ≡ 7 → x ≡ refused 7
    seven (ok b n) e = absurd (omega arith)
    seven (refused k) e = ap refused e

    there : (t : Bool) → leb (length s) size_limit ≡ t → fault_of (cond t (read_records s 0) (refused 1)) ≡ 7 → Trailing s
    there true p e = behind s bytes (leb-true (length s) size_limit p) (all_left s (seven (read_records s 0) e))
    there false p e = absurd (omega arith)
