-- The chain call: demand 1, with demand 2's chain.
use Prim.Native.Nat.{ℕ}
use native.Mathlib.Omega.{arith}
use mathlib.Core.Logic.{◌⊎◌, inl, inr}
use mathlib.Core.Option.{Option, none, some}
use mathlib.Core.Path.{◌≡◌, refl, sym, ap, ◌∙◌}
use mathlib.Core.List.{List, [], ◌∷◌}
use Rattle.meaning.specs.Tree.{Bundle}
use Rattle.meaning.specs.Within.{BundleOk}
use Rattle.meaning.specs.Encoding.{Bytes}
use Rattle.meaning.specs.Chain.{Earlier, names_on}
use Rattle.meaning.specs.Violations.{graph, find_layout_dependency_chain}
use Rattle.meaning.specs.Calls.{Answer, Call}
use Rattle.meaning.specs.Due.{chain_names, chaining}
use Rattle.meaning.proofs.ChainLaws.{walk_reaches, chain_none, chain_some, first_shortest, first_earliest}
use Rattle.demands.specs.Demands.{FirstPath, ChainOf, OneChain, Demand1}
use Rattle.demands.proofs.Answering.{demand_1}

first_path : (b : Bundle) (from to : ℕ) (names : List ℕ) → find_layout_dependency_chain b from to ≡ some names → FirstPath b from to names
unfolding find_layout_dependency_chain
first_path b from to names e =
    let w = chain_some (graph b) from to names e in
    record {
      path = w.0;
      leads = w.1.walk;
      on = sym w.2;
      fewest = λ other walk. first_shortest (graph b) from to w.0 other w.1 walk;
      first = λ other walk same. first_earliest (graph b) from to w.0 other w.1 walk same;
    }

chain_of_lem : (from to : ℕ) (b : Bundle) → BundleOk b → ChainOf from to b (chain_names (find_layout_dependency_chain b from to))
unfolding find_layout_dependency_chain
chain_of_lem from to b o = go (find_layout_dependency_chain b from to) refl
  where
    go : (o : Option (List ℕ)) → find_layout_dependency_chain b from to ≡ o → ChainOf from to b (chain_names o)
    go none e = inl ((chain_none (graph b) from to).0 e, refl)
    go (some names) e = inr (first_path b from to names e)

-- There is one chain.

earlier_once : (es fs : List ℕ) → Earlier es fs → Earlier fs es → ⊥
earlier_once [] [] p q = p
earlier_once [] (f ∷ fs) p q = q
earlier_once (e ∷ es) [] p q = p
earlier_once (e ∷ es) (f ∷ fs) (inl p) (inl q) = omega arith
earlier_once (e ∷ es) (f ∷ fs) (inl p) (inr q) = omega (arith, q.0)
earlier_once (e ∷ es) (f ∷ fs) (inr p) (inl q) = omega (arith, p.0)
earlier_once (e ∷ es) (f ∷ fs) (inr p) (inr q) = earlier_once es fs p.1 q.1

one_path : (b : Bundle) (from to : ℕ) (xs ys : List ℕ) → FirstPath b from to xs → FirstPath b from to ys → xs ≡ ys
one_path b from to xs ys p q = let l = p.fewest q.path q.leads in let m = q.fewest p.path p.leads in go (p.first q.path q.leads (omega arith)) (q.first p.path p.leads (omega arith))
  where
    go : (p.path ≡ q.path) ⊎ Earlier p.path q.path → (q.path ≡ p.path) ⊎ Earlier q.path p.path → xs ≡ ys
    go (inl e) r = p.on ∙ ap (names_on (graph b) from) e ∙ sym q.on
    go (inr e) (inl r) = p.on ∙ ap (names_on (graph b) from) (sym r) ∙ sym q.on
    go (inr e) (inr r) = absurd (earlier_once p.path q.path e r)

pub one_chain : OneChain
one_chain = record { one = one }
  where
    one : (from to : ℕ) (b : Bundle) (xs ys : List ℕ) → ChainOf from to b xs → ChainOf from to b ys → xs ≡ ys
    one from to b xs ys (inl p) (inl q) = p.1 ∙ sym q.1
    one from to b xs ys (inl p) (inr q) = absurd (p.0 (walk_reaches (graph b) from to q.path q.leads))
    one from to b xs ys (inr p) (inl q) = absurd (q.0 (walk_reaches (graph b) from to p.path p.leads))
    one from to b xs ys (inr p) (inr q) = one_path b from to xs ys p q

pub chain_demand : (from to : ℕ) (s before after : List ℕ) (a : Answer) → Bytes s → Call (chaining from to s) before after a → Demand1 (ChainOf from to) s before after a
unfolding chaining
chain_demand from to = demand_1 (ChainOf from to) (λ b. chain_names (find_layout_dependency_chain b from to)) (chain_of_lem from to)
