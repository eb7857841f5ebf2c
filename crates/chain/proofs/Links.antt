-- The edges linked by the number that they lead to.
use Prim.Native.Nat.{ℕ, ◌≤◌, ◌<◌}
use mathlib.Core.Path.{◌≡◌, sym, ◌∙◌}
use native.Mathlib.Omega.{arith}
use Rattle.meaning.specs.Chain.{Graph}
use Rattle.chain.specs.Index.{NextTo, Linked}

-- linked edges where all places are as they were
pub linked_same : {g g' : Graph} {m m' e : ℕ} {first next first' next' : ℕ → ℕ} → Linked g m e first next → g'.count ≡ g.count → ((d : ℕ) → d < g.count → g'.to d ≡ g.to d) → m' ≤ m
    → ((x : ℕ) → x < m' → first' x ≡ first x) → ((d : ℕ) → d < g.count → next' d ≡ next d) → Linked g' m' e first' next'
linked_same {g} {g'} s count tos l firsts nexts =
    record {
      firsts = λ x a. rw (firsts x a) (next (s.firsts x (omega arith)));
      nexts = λ d a c. let k : d < g.count = omega arith in rw (nexts d k, tos d k) (next (s.nexts d a k));
    }
  where
    next : {x d f : ℕ} → NextTo g x d f → NextTo g' x d f
    next {f = f} o =
        record {
          past = o.past;
          small = omega (arith, o.small);
          here = λ a. tos f (omega arith) ∙ o.here (omega arith);
          none = λ c a b u is. o.none c a b (omega arith) (sym (tos c (omega arith)) ∙ is);
        }
