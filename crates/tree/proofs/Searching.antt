-- The search for a number by its bits.
--     searching_next, -unfound   the loop of the search
--     few_steps                  a search ends within 17 steps
use Prim.Native.Nat.{ℕ, zero, suc, ◌+◌, ◌-◌, ◌/◌, ◌%◌, ◌≤◌, ◌<◌}
use native.Mathlib.Omega.{arith}
use native.Mathlib.Decide.{ℕ_discrete}
use mathlib.Core.List.{List}
use mathlib.Core.Logic.{◌⊎◌, inl, inr, by_cases}
use mathlib.Core.Path.{◌≡◌, refl, sym, ap, subst, ◌∙◌}
use lib.ListN.{get_or}
use borrow.Author.Tests.{eq-eqb, ne_eqb}
use Rattle.tree.specs.Tree.{number_at, link_at, onward, seek, upper, SameBits, OneDeeper, Tree, Extends, Unfound}
use Rattle.tree.proofs.Bits.{same_bits_turned}

-- one step
module _ (u : List ℕ) (a x f k b : ℕ) where
  pub seek_here : number_at u a k ≡ x → seek u a x (suc f) k b ≡ suc k
  unfolding seek
  seek_here e = rw (eq-eqb (number_at u a k) x e) refl

  pub seek_other : (number_at u a k ≡ x → ⊥) → seek u a x (suc f) k b ≡ onward (λ j. seek u a x f j (b / 2)) (get_or u (link_at a k b) 0)
  unfolding seek
  seek_other ne = rw (ne_eqb (number_at u a k) x ne) refl

extends_self : (t : List ℕ) (a n : ℕ) → Extends t t a n
extends_self t a n = record { numbers = λ k l. refl; links = λ k b l ne. refl }

-- after some steps the search for x is at number k, with the bits b left
pub record Searching (t : List ℕ) (a n x k b : ℕ) : Type 0 where
  pub steps : ℕ
  pub few : steps ≤ k
  pub bound : k ≤ n
  pub below : k ≡ n → n ≡ 0
  pub along : (tree : Tree t a n) → (upper (tree.depth k) x ≡ b) × SameBits (tree.depth k) (number_at t a k) x
  pub same : (u : List ℕ) → Extends t u a n → (f : ℕ) → seek u a x (steps + f) 0 x ≡ seek u a x f k b

module _ {t : List ℕ} {a n x k b : ℕ} (o : Searching t a n x k b) (tree : Tree t a n) (l : k < n) (ne : number_at t a k ≡ x → ⊥) where
  -- where another search goes from here
  from_here : (u : List ℕ) → Extends t u a n → (f : ℕ) → seek u a x (o.steps + suc f) 0 x ≡ onward (λ j. seek u a x f j (b / 2)) (get_or u (link_at a k b) 0)
  from_here u extends f = o.same u extends (suc f) ∙ seek_other u a x f k b (λ e. ne (sym (extends.numbers k l) ∙ e))

  pub link_later : {next : ℕ} → get_or t (link_at a k b) 0 ≡ next → (next ≡ 0 → ⊥) → (suc k < next) × (next ≤ n)
  link_later {next} e nz = go (tree.links k b l)
    where
      go : (get_or t (link_at a k b) 0 ≡ 0) ⊎ OneDeeper t a n tree.depth k b → (suc k < next) × (next ≤ n)
      go (inl z) = absurd (nz (sym e ∙ z))
      go (inr q) = (omega (arith, q.here, q.later, e), omega (arith, q.here, q.below, e))

  -- the bits that are left, and those in which the next number is like x
  along_next : {next : ℕ} → get_or t (link_at a k b) 0 ≡ next → (next ≡ 0 → ⊥) → (any : Tree t a n)
      → (upper (any.depth (next - 1)) x ≡ b / 2) × SameBits (any.depth (next - 1)) (number_at t a (next - 1)) x
  along_next {next} e nz any = go (any.links k b l)
    where
      go : (get_or t (link_at a k b) 0 ≡ 0) ⊎ OneDeeper t a n any.depth k b → (upper (any.depth (next - 1)) x ≡ b / 2) × SameBits (any.depth (next - 1)) (number_at t a (next - 1)) x
      go (inl z) = absurd (nz (sym e ∙ z))
      go (inr q) =
          let is : next - 1 ≡ q.to = omega (arith, q.here, e) in
          let h = o.along any in
          rw (is, q.down) (ap (◌/ 2) h.0, (same_bits_turned (any.depth k) (number_at t a k) x (number_at t a q.to) q.same h.1, q.bit ∙ sym (ap (◌% 2) h.0)))

  pub searching_next : {next : ℕ} → get_or t (link_at a k b) 0 ≡ next → (next ≡ 0 → ⊥) → Searching t a n x (next - 1) (b / 2)
  searching_next {next} e nz =
      let q = link_later e nz in
      record {
        steps = suc o.steps;
        few = omega (arith, o.few, q.0);
        bound = omega (arith, q.1);
        below = λ z. omega (arith, z, q.0, q.1);
        along = along_next e nz;
        same = λ u extends f.
            let more : suc o.steps + f ≡ o.steps + suc f = omega arith in
            let on : get_or u (link_at a k b) 0 ≡ suc (next - 1) = extends.links k b l (λ z. nz (sym e ∙ z)) ∙ e ∙ omega (arith, q.0) in
            ap (λ g. seek u a x g 0 x) more ∙ from_here u extends f ∙ ap (onward (λ j. seek u a x f j (b / 2))) on;
      }

  pub searching_unfound : get_or t (link_at a k b) 0 ≡ 0 → Unfound t a n x (link_at a k b)
  searching_unfound z =
      record {
        owner = k;
        bits = b;
        below = l;
        here = refl;
        ends = z;
        none = λ j c e.
            let all : n ≡ o.steps + suc (n - 1 - o.steps) = omega (arith, o.few) in
            let is : seek t a x n 0 x ≡ suc j = subst (λ y. seek t a y n 0 y ≡ suc j) e (tree.found j c) in
            let no : seek t a x n 0 x ≡ 0 =
            ap (λ g. seek t a x g 0 x) all ∙ from_here t (extends_self t a n) (n - 1 - o.steps) ∙ ap (onward (λ i. seek t a x (n - 1 - o.steps) i (b / 2))) z in
            let w : 0 ≡ suc j = sym no ∙ is in
            omega (arith, w);
        along = o.along;
        new = λ u extends at here.
            let f = n - 1 - o.steps in
            let all : n + 1 ≡ o.steps + suc (suc f) = omega (arith, o.few) in
            ap (λ g. seek u a x g 0 x) all ∙ from_here u extends (suc f) ∙ ap (onward (λ i. seek u a x (suc f) i (b / 2))) at ∙ seek_here u a x f n (b / 2) here;
      }

-- a search that starts where so many steps may be left ends within them
module _ {t : List ℕ} {a n : ℕ} (tree : Tree t a n) (x e : ℕ) where
  enough : (f k b : ℕ) → k < n → 17 ≤ f + tree.depth k → seek t a x (f + e) k b ≡ seek t a x f k b
  enough zero k b l h = absurd (omega (arith, h, tree.low k l))
  enough (suc f) k b l h =
      let more : suc f + e ≡ suc (f + e) = omega arith in
      ap (λ g. seek t a x g k b) more ∙ go (λ i c d. enough f i (b / 2) c d)
    where
      go : ((i : ℕ) → i < n → 17 ≤ f + tree.depth i → seek t a x (f + e) i (b / 2) ≡ seek t a x f i (b / 2)) → seek t a x (suc (f + e)) k b ≡ seek t a x (suc f) k b
      go later =
          by_cases (ℕ_discrete (number_at t a k) x)
          (λ (c : number_at t a k ≡ x). seek_here t a x (f + e) k b c ∙ sym (seek_here t a x f k b c))
          (λ (c : ¬ (number_at t a k ≡ x)). seek_other t a x (f + e) k b c ∙ on (tree.links k b l) ∙ sym (seek_other t a x f k b c))
        where
          on : (get_or t (link_at a k b) 0 ≡ 0) ⊎ OneDeeper t a n tree.depth k b
              → onward (λ j. seek t a x (f + e) j (b / 2)) (get_or t (link_at a k b) 0) ≡ onward (λ j. seek t a x f j (b / 2)) (get_or t (link_at a k b) 0)
          on (inl z) = rw z refl
          on (inr w) = rw w.here (later w.to w.below (omega (arith, h, w.down)))

  pub few_steps : 0 < n → seek t a x (17 + e) 0 x ≡ seek t a x 17 0 x
  few_steps l = enough 17 0 x l (omega arith)
