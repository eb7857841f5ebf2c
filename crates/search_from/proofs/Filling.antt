-- The names on a chain written into a list from the back.
--     filling_start, -turn, -end      before the first name, one name more, and all of them
use Prim.Native.Nat.{ℕ, zero, suc, ◌+◌, ◌-◌, ◌≤◌, ◌<◌}
use mathlib.Core.Path.{◌≡◌, refl, sym, ap, ◌∙◌, subst}
use mathlib.Core.List.{List, [], ◌∷◌, ◌++◌, map}
use native.Mathlib.Omega.{arith}
use native.Mathlib.Numerals.{add-one}
use lib.ListN.{length, length-append, length-map, length-set, get_or, get_or-append, take, drop, set, take-append-drop}
use lib.Seq.{length-take-le, take-length, take-suc, drop_at, drop-cons, append_snoc, set_at, take-take, take_at, get_or_at, get_or-take}
use Rattle.search_from.specs.Queue.{leading, LeadingBelow}

-- the places before k are those of c and the others those of f: one place more of f
back : (c f : List ℕ) (k v : ℕ) → k < length c → k < length f → get_or f k 0 ≡ v → set (take (k + 1) c ++ drop (k + 1) f) k v ≡ take k c ++ drop k f
back c f k v l m e =
    rw (add-one k, take-suc c k 0 l, append_snoc (take k c) (get_or c k 0) (drop (suc k) f))
    (set_at (take k c) (get_or c k 0) (drop (suc k) f) v k (length-take-le k c (omega arith))
    ∙ ap (λ (x : List ℕ). take k c ++ x) (ap (λ (x : ℕ). x ∷ drop (suc k) f) (sym e) ∙ sym (drop-cons f k 0 m)))

get_d_map : (f : ℕ → ℕ) (xs : List ℕ) (i : ℕ) → i < length xs → get_or (map f xs) i 0 ≡ f (get_or xs i 0)
get_d_map f [] i l = absurd (omega arith)
get_d_map f (x ∷ xs) zero l = refl
get_d_map f (x ∷ xs) (suc i) l = get_d_map f xs i (omega arith)

module _ (before : ℕ → ℕ) where
  pub leading_length : (k x : ℕ) → length (leading before k x) ≡ suc k
  unfolding leading
  leading_length zero x = refl
  leading_length (suc k) x = length-append (leading before k (before x)) (x ∷ []) ∙ omega (arith, leading_length k (before x))

  pub leads_inside : (m k x : ℕ) → LeadingBelow before m k x → x < m
  unfolding LeadingBelow
  leads_inside m zero x l = l
  leads_inside m (suc k) x l = l.0

-- i of the n names on the chain of x are still to be written, the next that of y
pub record Filling (name before : ℕ → ℕ) (m x n : ℕ) (list₀ list : List ℕ) (y i : ℕ) : Type 0 where
  pub within : i ≤ n
  pub size : length list ≡ length list₀
  pub inside : 0 < i → y < m
  pub leads : (j : ℕ) → i ≡ suc j → LeadingBelow before m j y
  pub part : (k j : ℕ) → n ≡ suc k → i ≡ suc j → take i (leading before k x) ≡ leading before j y
  pub held : (k : ℕ) → n ≡ suc k → list ≡ take i list₀ ++ drop i (map name (leading before k x) ++ drop n list₀)
  pub empty : n ≡ 0 → list ≡ list₀

module _ (name before : ℕ → ℕ) (m x n : ℕ) (list₀ : List ℕ) (fits : n ≤ length list₀) where
  written_length : (k : ℕ) → n ≡ suc k → length (map name (leading before k x)) ≡ n
  written_length k p = length-map (leading before k x) name ∙ leading_length before k x ∙ sym p

  pub filling_start : ((k : ℕ) → n ≡ suc k → LeadingBelow before m k x) → Filling name before m x n list₀ list₀ x n
  filling_start leads =
      record {
        within = omega arith;
        size = refl;
        inside = λ l. leads_inside before m (n - 1) x (leads (n - 1) (omega arith));
        leads = leads;
        part = λ k j p q.
            let same : k ≡ j = omega arith in
            ap (λ (i : ℕ). take i (leading before k x)) (p ∙ sym (leading_length before k x)) ∙ take-length (leading before k x) ∙ ap (λ (i : ℕ). leading before i x) same;
        held = λ k p.
            sym (ap (λ (ys : List ℕ). take n list₀ ++ ys) (drop_at (map name (leading before k x)) (drop n list₀) n (written_length k p)) ∙ take-append-drop n list₀);
        empty = λ _. refl;
      }

  module _ (list : List ℕ) (y i : ℕ) (f : Filling name before m x n list₀ list y (i + 1)) where
    -- the number y stands at place i of the chain, behind what leads to it
    module _ (k : ℕ) (p : n ≡ suc k) where
      chain : List ℕ
      chain = leading before k x

      long : length chain ≡ n
      unfolding chain
      long = leading_length before k x ∙ sym p

      -- what leads to y has i names
      stands : (ys : List ℕ) → leading before i y ≡ ys ++ y ∷ [] → (get_or chain i 0 ≡ y) × (take i chain ≡ ys)
      unfolding chain
      stands ys e =
          let is : take (i + 1) chain ≡ ys ++ y ∷ [] = f.part k i p (add-one i) ∙ e in
          let few : length ys ≡ i = omega (arith, length-take-le (i + 1) chain (omega (arith, long, f.within)), ap length is, length-append ys (y ∷ [])) in (
            sym (get_or-take (i + 1) chain i 0 (omega arith)) ∙ ap (λ (zs : List ℕ). get_or zs i 0) is ∙ get_or_at ys y [] 0 i few,
            sym (take-take i (i + 1) chain (omega arith)) ∙ ap (take i) is ∙ take_at ys (y ∷ []) i few,
          )

      here : get_or chain i 0 ≡ y
      unfolding leading
      here = go i refl
        where
          go : (j : ℕ) → i ≡ j → get_or chain i 0 ≡ y
          go zero q = (stands [] (ap (λ (z : ℕ). leading before z y) q)).0
          go (suc j) q = (stands (leading before j (before y)) (ap (λ (z : ℕ). leading before z y) q)).0

    pub filling_turn : Filling name before m x n list₀ (set list i (name y)) (before y) i
    unfolding leading LeadingBelow chain
    filling_turn =
        record {
          within = omega (arith, f.within);
          size = length-set list i (name y) ∙ f.size;
          inside = λ l. leads_inside before m (i - 1) (before y) (leads (i - 1) (omega arith));
          leads = leads;
          part = λ k j p q. (stands k p (leading before j (before y)) (ap (λ (z : ℕ). leading before z y) q)).1;
          held = λ k p.
              rw (f.held k p)
              (back list₀ (map name (leading before k x) ++ drop n list₀) i (name y) (omega (arith, f.within))
              (omega (arith, f.within, written_length k p, length-append (map name (leading before k x)) (drop n list₀)))
              (get_or-append (map name (leading before k x)) (drop n list₀) 0 i (omega (arith, f.within, written_length k p))
              ∙ get_d_map name (leading before k x) i (omega (arith, f.within, long k p))
              ∙ ap name (here k p)));
          empty = λ z. absurd (omega (arith, f.within));
        }
      where
        leads : (j : ℕ) → i ≡ suc j → LeadingBelow before m j (before y)
        leads j q = let t : LeadingBelow before m (suc j) y = subst (λ (z : ℕ). LeadingBelow before m z y) q (f.leads i (add-one i)) in t.1

  pub filling_end : (list : List ℕ) (y i : ℕ) → Filling name before m x n list₀ list y i → i ≡ 0
      → ((k : ℕ) → n ≡ suc k → list ≡ map name (leading before k x) ++ drop n list₀) × (n ≡ 0 → list ≡ list₀)
  filling_end list y i f z = (
    λ k p. subst (λ (j : ℕ). list ≡ take j list₀ ++ drop j (map name (leading before k x) ++ drop n list₀)) z (f.held k p),
    f.empty,
  )
