-- The meaning of a bundle's bytes.
use Rattle.std.specs.Prelude.{ℕ, ◌+◌, ◌*◌, cond, ◌&&◌, List, [], ◌∷◌, length, leb}
use Rattle.meaning.specs.Kinds.{Form}
use Rattle.meaning.specs.Kinds.{OfExpr, OfType, OfMember, OfRecord, Unknown}
use Rattle.meaning.specs.Limits.{size_limit, definition_limit, edge_limit, depth_limit}
use Rattle.meaning.specs.Tree.{Definition, Edge, Bundle}
use Rattle.meaning.specs.Reader.{Read, ok, refused, Reader, done, refuse, due, byte, number, check, many, ◌>>=◌, ◌>>◌}
use Rattle.meaning.specs.ReadExpr.{node, only}
use Rattle.meaning.specs.ReadType.{read_ty}

-- the whole body of a header, definition or edge, which is not read yet
unfoldable pub record_body : Form → Reader (Unit {0})
record_body (OfRecord before names behind) = due (before + 2 * names + behind)
record_body (OfExpr f) = refuse 3
record_body (OfType f) = refuse 3
record_body (OfMember w) = refuse 3
record_body Unknown = refuse 3

-- the kind byte m and the body behind it
unfoldable pub opening : ℕ → Reader (Unit {0})
opening m = node (only m record_body)

-- a definition
unfoldable pub read_definition : Reader Definition
read_definition = do
  opening 0x61
  name ← number 2
  type ← read_ty depth_limit
  done (record { name = name; type = type })

-- an edge
unfoldable pub read_edge : Reader Edge
read_edge = do
  opening 0x62
  from ← number 2
  to ← number 2
  k ← byte
  check (leb k 3) 4
  done (record { from = from; to = to; kind = k })

-- the counts of definitions and edges, and the current name
pub record Header : Type 0 where
  pub definitions : ℕ
  pub edges : ℕ
  pub current : ℕ

unfoldable pub read_header : Reader Header
read_header = do
  opening 0x60
  definitions ← number 2
  edges ← number 2
  current ← number 2
  check (leb definitions definition_limit && leb edges edge_limit) 5
  done (record { definitions = definitions; edges = edges; current = current })

-- the end of the byte string: fault 7 where bytes are left
unfoldable pub end : Reader (Unit {0})
end s at = cond (leb (length s) at) (ok tt at) (refused 7)

-- m edges, and then the end
unfoldable pub read_edges : ℕ → Reader (List Edge)
read_edges m = do
  edges ← many ◌∷◌ [] read_edge m
  end
  done edges

-- n definitions, m edges and the end
unfoldable pub read_rest : ℕ → ℕ → Reader (List Definition × List Edge)
read_rest n m = do
  definitions ← many ◌∷◌ [] read_definition n
  edges ← read_edges m
  done (definitions, edges)

-- a bundle, from its header to its end
unfoldable pub read_records : Reader Bundle
read_records = do
  h ← read_header
  r ← read_rest h.definitions h.edges
  done (record { current = h.current; definitions = r.0; edges = r.1 })

-- a whole byte string as a bundle
unfoldable pub read_bundle : List ℕ → Read Bundle
read_bundle s = cond (leb (length s) size_limit) (read_records s 0) (refused 1)
