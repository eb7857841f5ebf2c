-- A slice is a tree in one way at most, so that a fact about it can be a field of a struct.
use Rattle.std.specs.Prelude.{ℕ, zero, suc, ◌+◌, ◌*◌, ◌/◌, ◌%◌, ◌≤◌, ◌<◌, cond, Bool, true, false, List, ◌≡◌, ◌⊎◌, eqb, length, get_or}
use Rattle.std.proofs.Props.{props}
use mathlib.Core.HLevel.{is_prop→PathP, Π_prop, ×_prop}
use mathlib.Core.Logic.{inl, inr, by_cases}
use mathlib.Core.Path.{refl, sym, ap, subst, ◌∙◌}
use native.Mathlib.Decide.{dec_lt}
use native.Mathlib.Omega.{arith}
use Rattle.tree.specs.Tree.{number_at, link_at, onward, seek, upper, SameBits, OneDeeper, Low, Tree}

sum_prop : {A B : Type 0} → IsProp A → IsProp B → (A → B → ⊥) → IsProp (A ⊎ B)
sum_prop a b both (inl x) (inl y) = ap inl (a x y)
sum_prop a b both (inl x) (inr y) = absurd (both x y)
sum_prop a b both (inr x) (inl y) = absurd (both y x)
sum_prop a b both (inr x) (inr y) = ap inr (b x y)

SameBits-prop : (d x y : ℕ) → IsProp (SameBits d x y)
SameBits-prop zero x y = Prim.hlevel (props)
SameBits-prop (suc d) x y = ×_prop (SameBits-prop d x y) (Prim.hlevel (props))

OneDeeper-prop : {t : List ℕ} {a n : ℕ} {depth : ℕ → ℕ} {k b : ℕ} → IsProp (OneDeeper t a n depth k b)
OneDeeper-prop {t} {a} {n} {depth} {k} {b} x y =
    let p : x.to ≡ y.to = omega (arith, x.here, y.here) in
    λ i. record {
      to = p i;
      here = is_prop→PathP (λ i. get_or t (link_at a k b) 0 ≡ suc (p i)) (λ i. Prim.hlevel (props)) x.here y.here i;
      later = is_prop→PathP (λ i. k < p i) (λ i. Prim.hlevel (props)) x.later y.later i;
      below = is_prop→PathP (λ i. p i < n) (λ i. Prim.hlevel (props)) x.below y.below i;
      down = is_prop→PathP (λ i. depth (p i) ≡ suc (depth k)) (λ i. Prim.hlevel (props)) x.down y.down i;
      same = is_prop→PathP (λ i. SameBits (depth k) (number_at t a k) (number_at t a (p i))) (λ i. SameBits-prop _ _ _) x.same y.same i;
      bit = is_prop→PathP (λ i. upper (depth k) (number_at t a (p i)) % 2 ≡ b % 2) (λ i. Prim.hlevel (props)) x.bit y.bit i;
    }

module _ {t : List ℕ} {a n : ℕ} (x y : Tree t a n) where
  -- a number that is found is as deep in both
  along : (number f j b k : ℕ) → j < n → seek t a number f j b ≡ suc k → x.depth j ≡ y.depth j → x.depth k ≡ y.depth k
  unfolding seek
  along number zero j b k l e d = absurd (omega (arith, e))
  along number (suc f) j b k l e d = go (λ i. along number f i (b / 2) k) (eqb (number_at t a j) number) e
    where
      Later : Type 0
      Later = (i : ℕ) → i < n → seek t a number f i (b / 2) ≡ suc k → x.depth i ≡ y.depth i → x.depth k ≡ y.depth k

      on : Later → (v : ℕ) → get_or t (link_at a j b) 0 ≡ v → onward (λ i. seek t a number f i (b / 2)) v ≡ suc k → x.depth k ≡ y.depth k
      on later zero q r = absurd (omega (arith, r))
      on later (suc i) q r = both (x.links j b l) (y.links j b l)
        where
          both : (get_or t (link_at a j b) 0 ≡ 0) ⊎ OneDeeper t a n x.depth j b → (get_or t (link_at a j b) 0 ≡ 0) ⊎ OneDeeper t a n y.depth j b → x.depth k ≡ y.depth k
          both (inl z) w = absurd (omega (arith, z, q))
          both (inr w) (inl z) = absurd (omega (arith, z, q))
          both (inr v) (inr w) =
              let to : v.to ≡ i = omega (arith, v.here, q) in
              let to' : w.to ≡ i = omega (arith, w.here, q) in
              later i (omega (arith, v.below, to)) r (ap x.depth (sym to) ∙ v.down ∙ ap suc d ∙ sym w.down ∙ ap y.depth to')

      go : Later → (c : Bool) → cond c (suc j) (onward (λ i. seek t a number f i (b / 2)) (get_or t (link_at a j b) 0)) ≡ suc k → x.depth k ≡ y.depth k
      go later true p = let z : j ≡ k = omega (arith, p) in subst (λ i. x.depth i ≡ y.depth i) z d
      go later false p = on later (get_or t (link_at a j b) 0) refl p

  depths : x.depth ≡ y.depth
  depths =
      λ i k.
      by_cases (dec_lt k n) (λ (l : k < n). along (number_at t a k) n 0 (number_at t a k) k (omega arith) (x.found k l) (x.root ∙ sym y.root))
      (λ (l : ¬ (k < n)). x.beyond k (omega arith) ∙ sym (y.beyond k (omega arith))) i

pub Tree-prop : (t : List ℕ) (a n : ℕ) → IsProp (Tree t a n)
Tree-prop t a n x y =
    let p = depths x y in
    let links : (depth : ℕ → ℕ) → IsProp ((k b : ℕ) → k < n → (get_or t (link_at a k b) 0 ≡ 0) ⊎ OneDeeper t a n depth k b) =
    λ depth. Π_prop (λ k. Π_prop (λ b. Π_prop (λ l. sum_prop (Prim.hlevel (props)) OneDeeper-prop (λ z w. omega (arith, z, w.here))))) in
    λ i. record {
      within = is_prop→PathP (λ i. a + 3 * n ≤ length t) (λ i. Prim.hlevel (props)) x.within y.within i;
      small = is_prop→PathP (λ i. (k : ℕ) → k < n → number_at t a k < 65536) (λ i. Prim.hlevel (props)) x.small y.small i;
      depth = p i;
      root = is_prop→PathP (λ i. p i 0 ≡ 0) (λ i. Prim.hlevel (props)) x.root y.root i;
      beyond = is_prop→PathP (λ i. (k : ℕ) → n ≤ k → p i k ≡ 0) (λ i. Prim.hlevel (props)) x.beyond y.beyond i;
      low = is_prop→PathP (λ i. Low (p i) n) (λ i. Prim.hlevel (props)) x.low y.low i;
      links = is_prop→PathP (λ i. (k b : ℕ) → k < n → (get_or t (link_at a k b) 0 ≡ 0) ⊎ OneDeeper t a n (p i) k b) (λ i. links (p i)) x.links y.links i;
      found = is_prop→PathP (λ i. (k : ℕ) → k < n → seek t a (number_at t a k) n 0 (number_at t a k) ≡ suc k) (λ i. Prim.hlevel (props)) x.found y.found i;
    }

-- two places of one number are the same
pub same_place : {t : List ℕ} {a n : ℕ} → Tree t a n → (j k : ℕ) → j < n → k < n → number_at t a j ≡ number_at t a k → j ≡ k
same_place {t} {a} {n} tree j k l m e =
    let z : suc j ≡ suc k = sym (tree.found j l) ∙ ap (λ x. seek t a x n 0 x) e ∙ tree.found k m in
    omega (arith, z)
