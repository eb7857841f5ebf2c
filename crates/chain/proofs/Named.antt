-- A chain between numbers, said of their names.
--     chain_named          the chain between names is the chain between their numbers, named
--     name_of              what names it
--     renamed_turned       the edges between numbers and between names, turned round
--     prepared_same        prepared edges are the edges that were prepared
--     prepared_chain       a chain over prepared edges
use Prim.Native.Nat.{ℕ, ◌+◌, ◌*◌, ◌≤◌, ◌<◌}
use mathlib.Core.Path.{◌≡◌, refl, sym, ap, ap₂, ◌∙◌}
use mathlib.Core.Logic.{◌⊎◌, ⊎_elim, by_cases}
use mathlib.Core.Bool.{cond}
use mathlib.Core.List.{List, map}
use mathlib.Core.Option
use native.Mathlib.Omega.{arith}
use native.Mathlib.Decide.{dec_lt}
use borrow.Author.Tests.{eq-eqb, ne_eqb, lt-ltb, le-ltb}
use lib.Dec.{eqb, ltb}
use lib.ListN.{get_or}
use Rattle.meaning.specs.Chain.{Graph, chain_of}
use Rattle.meaning.proofs.Chains.{Renamed, chain_of_map, chain_of_same}
use Rattle.meaning.proofs.Walks.{order}
use Rattle.chain.specs.Edges.{turned}
use Rattle.chain.specs.Index.{names_in, name_in, from_in, to_in, numbered, named, Indexed, Prepared}

-- the name of the number x, and beyond the numbers one that is no name
name_for : ℕ → List ℕ → ℕ → ℕ
name_for count edges x = cond (ltb x (names_in edges)) (name_in count edges x) (65536 + x)

module _ {count : ℕ} {edges : List ℕ} (s : Indexed count edges) (small : (i : ℕ) → get_or edges i 0 < 65536) where
  pub f : ℕ → ℕ
  f = name_for count edges

  pub name_of : (x : ℕ) → x < names_in edges → f x ≡ name_in count edges x
  unfolding f name_for
  name_of x l = rw (lt-ltb x (names_in edges) l)

  outside : (x : ℕ) → names_in edges ≤ x → f x ≡ 65536 + x
  unfolding f name_for
  outside x l = rw (le-ltb x (names_in edges) l)

  apart : (i j : ℕ) → i < j → f i ≡ f j → ⊥
  apart i j l e =
      by_cases (dec_lt j (names_in edges))
      (λ (b : j < names_in edges). s.members.apart i j l b (sym (name_of i (omega arith)) ∙ e ∙ name_of j b))
      (λ (b : ¬ (j < names_in edges)).
      by_cases (dec_lt i (names_in edges)) (λ (a : i < names_in edges). omega (arith, small (5 * count + 1 + 256 + 2 * i), name_of i a, outside j (omega arith)))
      (λ (a : ¬ (i < names_in edges)). omega (arith, outside i (omega arith), outside j (omega arith))))

  pub keeps : (i j : ℕ) → eqb (f i) (f j) ≡ eqb i j
  keeps i j =
      ⊎_elim (λ (p : i < j). ne_eqb (f i) (f j) (apart i j p) ∙ sym (ne_eqb i j (omega arith)))
      (λ (t : (i ≡ j) ⊎ (j < i)).
      ⊎_elim (λ (p : i ≡ j). eq-eqb (f i) (f j) (ap f p) ∙ sym (eq-eqb i j p))
      (λ (p : j < i). ne_eqb (f i) (f j) (λ e. apart j i p (sym e)) ∙ sym (ne_eqb i j (omega arith)))
      t)
      (order i j)

  renamed : Renamed f (numbered count edges) (named count edges)
  renamed =
      record {
        count = refl;
        from = λ e l. sym (name_of (from_in edges e) (s.froms e l));
        to = λ e l. sym (name_of (to_in edges e) (s.tos e l));
      }

  -- the same edges, turned round
  pub renamed_turned : Renamed f (turned 1 (numbered count edges)) (turned 1 (named count edges))
  renamed_turned = record { count = refl; from = renamed.to; to = renamed.from }

  pub chain_named : (a b : ℕ) → a < names_in edges → b < names_in edges
      → chain_of (named count edges) (name_in count edges a) (name_in count edges b) ≡ Option.map (map f) (chain_of (numbered count edges) a b)
  chain_named a b l k =
      ap₂ (chain_of (named count edges)) (sym (name_of a l)) (sym (name_of b k)) ∙ chain_of_map f keeps (numbered count edges) (named count edges) renamed a b

-- prepared edges are the edges that were prepared
pub prepared_same : {g : Graph} {count : ℕ} {edges : List ℕ} → Prepared g count edges → Renamed (λ n. n) g (named count edges)
prepared_same p =
    record { count = sym p.counted; from = λ e l. p.froms e (omega (arith, p.counted)); to = λ e l. p.tos e (omega (arith, p.counted)) }

-- and so are their chains
pub prepared_chain : {g : Graph} {count : ℕ} {edges : List ℕ} → Prepared g count edges → (a b : ℕ) → chain_of (named count edges) a b ≡ chain_of g a b
prepared_chain {g} {count} {edges} p a b = chain_of_same g (named count edges) (prepared_same p) a b
