-- The edges that stand in a bundle's bytes.
use Rattle.std.specs.Prelude.{ℕ, zero, suc, ◌+◌, ◌*◌, ◌/◌, ◌%◌, ◌≤◌, List, length, get_or}
use Rattle.meaning.specs.Chain.{Graph}
use Rattle.chain.specs.declared.Direction.{Direction}
use Rattle.chain.specs.declared.Direction.TheVariants.{Forth, Back}

-- the name at place i, low byte first
abbrev pub name_at : List ℕ → ℕ → ℕ
name_at bytes i = get_or bytes i 0 + 256 * get_or bytes (i + 1) 0

-- count edge records of 6 bytes from place `at` on: 62 hexadecimal, from in two bytes, to in two bytes, kind
abbrev pub graph_at : List ℕ → ℕ → ℕ → Graph
graph_at bytes at count = record { count = count; from = λ e. name_at bytes (at + 6 * e + 1); to = λ e. name_at bytes (at + 6 * e + 3) }

-- count edge records, at most 1,024, lie in the bytes from place `at` on
pub record HasEdges (bytes : List ℕ) (at count : ℕ) : Type 0 where
  pub few : count ≤ 1024
  pub lie : at + 6 * count ≤ length bytes

-- how often the edges are turned
abbrev pub turn_of : Direction → ℕ
turn_of Forth = 0
turn_of Back = 1

-- the edges as they are, or each the other way round
abbrev pub turned : ℕ → Graph → Graph
turned zero g = g
turned (suc t) g = record { count = g.count; from = g.to; to = g.from }

-- end i of the edges, two to an edge: from before to, or to before from where they are turned
abbrev pub end_at : List ℕ → ℕ → ℕ → ℕ → ℕ
end_at bytes at turn i = name_at bytes (at + 6 * (i / 2) + 2 * ((i + turn) % 2) + 1)
