-- The edges that stand in a bundle's bytes are those of its tree.
--     graph_read         the edges in the bytes have the names of the tree's
--     chain_read         the chain over the edges of the tree is that over the edges in the bytes
use Prim.Native.Nat.{ℕ, zero, suc, ◌+◌, ◌*◌}
use mathlib.Core.Path.{◌≡◌, refl, ap, ◌∙◌}
use mathlib.Core.List.{List, [], ◌∷◌, map}
use mathlib.Core.Option.{some}
use native.Mathlib.Omega.{arith}
use lib.ListN.{length, get_or, get_elem?}
use Rattle.meaning.specs.Tree.{Edge, Bundle}
use Rattle.meaning.specs.Chain.{chain_of}
use Rattle.meaning.specs.Violations.{graph}
use Rattle.meaning.proofs.Chains.{Renamed, chain_of_same}
use Rattle.bundle.specs.Definitions.{edge_at, EdgesFrom}
use Rattle.chain.specs.Edges.{graph_at}
use Rattle.chain.proofs.Numbers.{name_read}

-- what stands at a place of a list, put through f
at_place : (f : Edge → ℕ) (es : List Edge) (i : ℕ) (x : Edge) → get_elem? es i ≡ some x → get_or (map f es) i 0 ≡ f x
at_place f [] i x e = let z : ◌≡◌ {A = ℕ} 0 1 = cc in absurd (omega arith)
at_place f (y ∷ es) zero x e = ap f (cc)
at_place f (y ∷ es) (suc i) x e = at_place f es i x e

-- the edges in the bytes have the names of the tree's
pub graph_read : (s : List ℕ) (b : Bundle) (at : ℕ) → EdgesFrom s b.edges at → Renamed (λ n. n) (graph_at s at (length b.edges)) (graph b)
unfolding edge_at
graph_read s b at edges =
    record {
      count = refl;
      from = λ e l. at_place (λ x. x.from) b.edges e _ (edges.each e l) ∙ name_read s (at + 6 * e + 1);
      to = λ e l. at_place (λ x. x.to) b.edges e _ (edges.each e l) ∙ name_read s (at + 6 * e + 3);
    }

pub chain_read : (s : List ℕ) (b : Bundle) (at : ℕ) → EdgesFrom s b.edges at → (a c : ℕ)
    → chain_of (graph b) a c ≡ chain_of (graph_at s at (length b.edges)) a c
chain_read s b at edges a c = chain_of_same (graph_at s at (length b.edges)) (graph b) (graph_read s b at edges) a c
