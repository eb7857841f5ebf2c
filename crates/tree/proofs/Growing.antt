-- One number more in a tree.
--     tree_of                     the depths of other places ask nothing
--     tree_same, tree_none        a tree stays where its places do; no number
--     entered_first, -new         x is the first of all, or one more
--     place_at                    the place of x, by where the search ends
use Prim.Native.Nat.{ℕ, zero, suc, ◌+◌, ◌*◌, ◌/◌, ◌%◌, ◌≤◌, ◌<◌}
use native.Mathlib.Omega.{arith}
use native.Mathlib.Decide.{dec_lt, ℕ_discrete}
use mathlib.Core.Bool.{cond}
use mathlib.Core.List.{List}
use lib.Dec.{eqb, ltb}
use mathlib.Core.Logic.{◌⊎◌, inl, inr, by_cases}
use mathlib.Core.Path.{◌≡◌, refl, sym, ap, subst, ◌∙◌}
use lib.ListN.{length, length-set, get_or, set}
use lib.Seq.{get_or-set_same, get_or-set_other}
use borrow.Author.Tests.{eq-eqb, ne_eqb, lt-ltb, le-ltb}
use Rattle.std.specs.Prelude.{Option, Some, None, Result, Ok, Err}
use Rattle.std.specs.Result.{result_ok}
use Rattle.table.specs.Table.{PlaceIn}
use Rattle.tree.specs.Tree.{number_at, link_at, onward, seek, SameBits, OneDeeper, Low, Tree, Extends, Unfound, EndOf, PlaceOf, Node, Entered}
use Rattle.tree.specs.Facts.{same_place}
use Rattle.tree.proofs.Bits.{bit, same_bits_equal}
use Rattle.tree.proofs.Searching.{seek_here, seek_other, few_steps}

-- a number that is found in t is found in u, with some steps more
module _ {t u : List ℕ} {a n : ℕ} (tree : Tree t a n) (extends : Extends t u a n) (x e : ℕ) where
  seek_kept : (f k b j : ℕ) → k < n → seek t a x f k b ≡ suc j → seek u a x (f + e) k b ≡ suc j
  unfolding seek
  seek_kept zero k b j l p = absurd (omega (arith, p))
  seek_kept (suc f) k b j l p =
      let more : suc f + e ≡ suc (f + e) = omega arith in
      ap (λ g. seek u a x g k b) more ∙ go (λ i. seek_kept f i (b / 2) j)
    where
      on : (v : ℕ) → get_or t (link_at a k b) 0 ≡ v → onward (λ i. seek t a x f i (b / 2)) v ≡ suc j → (number_at t a k ≡ x → ⊥)
          → ((i : ℕ) → i < n → seek t a x f i (b / 2) ≡ suc j → seek u a x (f + e) i (b / 2) ≡ suc j) → seek u a x (suc (f + e)) k b ≡ suc j
      on zero q r ne later = absurd (omega (arith, r))
      on (suc i) q r ne later =
          let there : i < n = further (tree.links k b l) in
          seek_other u a x (f + e) k b (λ z. ne (sym (extends.numbers k l) ∙ z))
          ∙ ap (onward (λ i. seek u a x (f + e) i (b / 2))) (extends.links k b l (λ z. omega (arith, z, q)) ∙ q)
          ∙ later i there r
        where
          further : (get_or t (link_at a k b) 0 ≡ 0) ⊎ OneDeeper t a n tree.depth k b → i < n
          further (inl z) = absurd (omega (arith, z, q))
          further (inr w) = omega (arith, w.here, w.below, q)

      go : ((i : ℕ) → i < n → seek t a x f i (b / 2) ≡ suc j → seek u a x (f + e) i (b / 2) ≡ suc j) → seek u a x (suc (f + e)) k b ≡ suc j
      go later =
          by_cases (ℕ_discrete (number_at t a k) x)
          (λ (c : number_at t a k ≡ x). seek_here u a x (f + e) k b (extends.numbers k l ∙ c) ∙ sym (seek_here t a x f k b c) ∙ p)
          (λ (c : ¬ (number_at t a k ≡ x)). on (get_or t (link_at a k b) 0) refl (sym (seek_other t a x f k b c) ∙ p) c later)

-- a link that stays leads where it did
deeper_same : {t u : List ℕ} {a n m : ℕ} {depth : ℕ → ℕ} → Extends t u a n → (deep : ℕ → ℕ) → ((i : ℕ) → i < n → deep i ≡ depth i) → n ≤ m → (k b : ℕ) → k < n
    → get_or u (link_at a k b) 0 ≡ get_or t (link_at a k b) 0 → (get_or t (link_at a k b) 0 ≡ 0) ⊎ OneDeeper t a n depth k b → (get_or u (link_at a k b) 0 ≡ 0) ⊎ OneDeeper u a m deep k b
deeper_same extends deep is more k b l e (inl z) = inl (e ∙ z)
deeper_same extends deep is more k b l e (inr w) =
    inr
    (record {
      to = w.to;
      here = e ∙ w.here;
      later = w.later;
      below = omega (arith, w.below);
      down = is w.to w.below ∙ w.down ∙ ap suc (sym (is k l));
      same = rw (is k l, extends.numbers k l, extends.numbers w.to w.below) w.same;
      bit = rw (is k l, extends.numbers w.to w.below) w.bit;
    })

-- a tree without what it says of the depths of other places
pub record Rooted (t : List ℕ) (a n : ℕ) : Type 0 where
  pub within : a + 3 * n ≤ length t
  pub small : (k : ℕ) → k < n → number_at t a k < 65536
  pub depth : ℕ → ℕ
  pub root : depth 0 ≡ 0
  pub low : Low depth n
  pub links : (k b : ℕ) → k < n → (get_or t (link_at a k b) 0 ≡ 0) ⊎ OneDeeper t a n depth k b
  pub found : (k : ℕ) → k < n → seek t a (number_at t a k) n 0 (number_at t a k) ≡ suc k

-- it is a tree, with the depth 0 at other places
pub tree_of : {t : List ℕ} {a n : ℕ} → Rooted t a n → Tree t a n
tree_of {t} {a} {n} g =
    record {
      within = g.within;
      small = g.small;
      depth = deep;
      root = by_cases (dec_lt 0 n) (λ (c : 0 < n). deep_old 0 c ∙ g.root) (λ (c : ¬ (0 < n)). deep_other 0 (omega arith));
      beyond = deep_other;
      low = λ k l. rw (deep_old k l) (g.low k l);
      links = λ k b l. deeper_same (record { numbers = λ _ _. refl; links = λ _ _ _ _. refl }) deep deep_old (omega arith) k b l refl (g.links k b l);
      found = g.found;
    }
  where
    deep : ℕ → ℕ
    deep k = cond (ltb k n) (g.depth k) 0

    deep_old : (k : ℕ) → k < n → deep k ≡ g.depth k
    deep_old k l = rw (lt-ltb k n l)

    deep_other : (k : ℕ) → n ≤ k → deep k ≡ 0
    deep_other k l = rw (le-ltb k n l)

-- a tree stays where its places do
pub tree_same : {t : List ℕ} (u : List ℕ) {a n : ℕ} → Tree t a n → ((i : ℕ) → a ≤ i → i < a + 3 * n → get_or u i 0 ≡ get_or t i 0) → length t ≤ length u → Tree u a n
tree_same {t} u {a} {n} tree same long =
    record {
      within = omega (arith, tree.within);
      small = λ k l. rw (number_same k l) (tree.small k l);
      depth = tree.depth;
      root = tree.root;
      beyond = tree.beyond;
      low = tree.low;
      links = λ k b l. deeper_same extends tree.depth (λ i c. refl) (omega arith) k b l (same (link_at a k b) (omega arith) (omega (arith, bit b))) (tree.links k b l);
      found = λ k l.
          let more : n + 0 ≡ n = omega arith in
          rw (number_same k l)
          (subst (λ g. seek u a (number_at t a k) g 0 (number_at t a k) ≡ suc k) more
          (seek_kept tree extends (number_at t a k) 0 n 0 (number_at t a k) k (omega arith) (tree.found k l)));
    }
  where
    number_same : (k : ℕ) → k < n → number_at u a k ≡ number_at t a k
    number_same k l = same (a + 3 * k) (omega arith) (omega arith)

    extends : Extends t u a n
    extends = record { numbers = number_same; links = λ k b l _. same (link_at a k b) (omega arith) (omega (arith, bit b)) }

-- no number
pub tree_none : (t : List ℕ) (a : ℕ) → a ≤ length t → Tree t a 0
tree_none t a l =
    record {
      within = omega arith;
      small = λ k c. absurd (omega arith);
      depth = λ k. 0;
      root = refl;
      beyond = λ k c. refl;
      low = λ k c. absurd (omega arith);
      links = λ k b c. absurd (omega arith);
      found = λ k c. absurd (omega arith);
    }

-- x is put as number n where the search for it ended
module _ {t : List ℕ} {a n x p : ℕ} (tree : Tree t a n) (m : Unfound t a n x p) (fits : x < 65536) {u : List ℕ} (w : Node (set t p (n + 1)) a n x u) where
  place : (p < a + 3 * n) × (a ≤ p)
  place = (omega (arith, m.here, m.below, bit m.bits), omega (arith, m.here))

  front : (i : ℕ) → i < a + 3 * n → (i ≡ p → ⊥) → get_or u i 0 ≡ get_or t i 0
  front i l ne = w.before i l ∙ get_or-set_other t p i (n + 1) 0 ne

  linked : get_or u p 0 ≡ n + 1
  linked = w.before p place.0 ∙ get_or-set_same t p (n + 1) 0 (omega (arith, place.0, tree.within))

  numbers : (k : ℕ) → k < n → number_at u a k ≡ number_at t a k
  numbers k l = front (a + 3 * k) (omega arith) (λ z. omega (arith, z, m.here, bit m.bits))

  extends : Extends t u a n
  extends =
      record {
        numbers = numbers;
        links = λ k b l nz. front (link_at a k b) (omega (arith, bit b)) (λ z. nz (ap (λ i. get_or t i 0) z ∙ m.ends));
      }

  -- how deep the numbers are, x one deeper than the number whose link leads to it
  depth : ℕ → ℕ
  depth k = cond (eqb k n) (suc (tree.depth m.owner)) (tree.depth k)

  depth_other : (k : ℕ) → (k ≡ n → ⊥) → depth k ≡ tree.depth k
  unfolding depth
  depth_other k ne = rw (ne_eqb k n ne)

  depth_old : (k : ℕ) → k < n → depth k ≡ tree.depth k
  depth_old k l = depth_other k (λ z. omega (arith, z))

  depth_new : depth n ≡ suc (tree.depth m.owner)
  unfolding depth
  depth_new = rw (eq-eqb n n refl)

  -- a number that is 16 deep and like x would be x
  owner_low : tree.depth m.owner < 16
  owner_low =
      by_cases (dec_lt (tree.depth m.owner) 16) (λ (c : tree.depth m.owner < 16). c)
      (λ (c : ¬ (tree.depth m.owner < 16)).
      let z : tree.depth m.owner ≡ 16 = omega (arith, tree.low m.owner m.below) in
      let like : SameBits 16 (number_at t a m.owner) x = subst (λ d. SameBits d (number_at t a m.owner) x) z (m.along tree).1 in
      absurd (m.none m.owner m.below (same_bits_equal (tree.small m.owner m.below) fits like)))

  -- the link that leads to x
  link_new : (k b : ℕ) → link_at a k b ≡ p → OneDeeper u a (n + 1) depth k b
  link_new k b z =
      let own : k ≡ m.owner = omega (arith, z, m.here, bit b, bit m.bits) in
      let same : b % 2 ≡ m.bits % 2 = omega (arith, z, m.here, own) in
      let at : depth k ≡ tree.depth m.owner = ap depth own ∙ depth_old m.owner m.below in
      record {
        to = n;
        here = ap (λ i. get_or u i 0) z ∙ linked ∙ omega arith;
        later = omega (arith, own, m.below);
        below = omega arith;
        down = depth_new ∙ ap suc (sym at);
        same = rw (at, own, numbers m.owner m.below, w.here) (m.along tree).1;
        bit = rw (at, w.here) (ap (◌% 2) (m.along tree).0 ∙ sym same);
      }

  links : (k b : ℕ) → k < n + 1 → (get_or u (link_at a k b) 0 ≡ 0) ⊎ OneDeeper u a (n + 1) depth k b
  links k b l =
      by_cases (dec_lt k n)
      (λ (c : k < n).
      by_cases (ℕ_discrete (link_at a k b) p) (λ (z : link_at a k b ≡ p). inr (link_new k b z))
      (λ (z : ¬ (link_at a k b ≡ p)). deeper_same extends depth depth_old (omega arith) k b c (front (link_at a k b) (omega (arith, bit b)) z) (tree.links k b c)))
      (λ (c : ¬ (k < n)). let z : k ≡ n = omega arith in inl (ap (λ i. get_or u (link_at a i b) 0) z ∙ w.links b))

  -- a fact of the old numbers and of x
  each : (P : ℕ → Type 0) → ((k : ℕ) → k < n → P k) → P n → (k : ℕ) → k < n + 1 → P k
  each P old new k l =
      by_cases (dec_lt k n) (λ (c : k < n). old k c)
      (λ (c : ¬ (k < n)). let z : n ≡ k = omega arith in subst P z new)

  found : (k : ℕ) → k < n + 1 → seek u a (number_at u a k) (n + 1) 0 (number_at u a k) ≡ suc k
  found k l =
      by_cases (dec_lt k n)
      (λ (c : k < n). rw (numbers k c) (seek_kept tree extends (number_at t a k) 1 n 0 (number_at t a k) k (omega arith) (tree.found k c)))
      (λ (c : ¬ (k < n)).
      let z : k ≡ n = omega arith in
      rw (z, w.here) (m.new u extends (linked ∙ omega arith) w.here))

  pub entered_new : a + 3 * n + 3 ≤ length t → Entered t a n x n u
  entered_new room =
      record {
        within = omega arith;
        all = rw (eq-eqb n n refl)
            (record {
              within = omega (arith, w.size, length-set t p (n + 1));
              small = each (λ k. number_at u a k < 65536) (λ k l. rw (numbers k l) (tree.small k l)) (rw w.here fits);
              depth = depth;
              root = depth_old 0 (omega (arith, m.below)) ∙ tree.root;
              beyond = λ k l. depth_other k (λ z. omega (arith, z)) ∙ tree.beyond k (omega arith);
              low = each (λ k. depth k ≤ 16) (λ k l. rw (depth_old k l) (tree.low k l)) (rw depth_new owner_low);
              links = links;
              found = found;
            });
        here = w.here;
        old = numbers;
        only = record {
          size = w.size ∙ length-set t p (n + 1);
          before = λ i c. front i (omega arith) (λ z. omega (arith, z, place.1));
          behind = λ i c. w.behind i c ∙ get_or-set_other t p i (n + 1) 0 (λ z. omega (arith, z, place.0));
        };
      }

-- x is the first of all
pub entered_first : {t : List ℕ} {a n x : ℕ} {u : List ℕ} → n ≡ 0 → x < 65536 → Node t a n x u → a + 3 * n + 3 ≤ length t → Entered t a n x n u
entered_first {t} {a} {n} {x} {u} z fits w room =
    record {
      within = omega arith;
      all = rw (eq-eqb n n refl)
          (record {
            within = omega (arith, w.size);
            small = λ k l. let q : k ≡ n = omega (arith, z) in rw (q, w.here) fits;
            depth = λ k. 0;
            root = refl;
            beyond = λ k l. refl;
            low = λ k l. omega arith;
            links = λ k b l. let q : k ≡ n = omega (arith, z) in inl (ap (λ i. get_or u (link_at a i b) 0) q ∙ w.links b);
            found = λ k l.
                let q : k ≡ 0 = omega (arith, z) in
                let one : n + 1 ≡ suc 0 = omega (arith, z) in
                rw (q, one) (seek_here u a (number_at u a 0) 0 0 (number_at u a 0) refl);
          });
      here = w.here;
      old = λ k c. absurd (omega (arith, z));
      only = record { size = w.size; before = λ i c. w.before i (omega arith); behind = w.behind };
    }

-- where x stands, by where the search ends
pub place_at : {t : List ℕ} {a n x : ℕ} {o : Option ℕ} → Tree t a n → (r : Result ℕ (Option ℕ)) → EndOf t a n x r → o ≡ result_ok r → PlaceOf t a n x o
place_at {t} {a} {n} {x} tree r end e = record { few = λ some j. few_steps tree x j some; place = rw e (go r end) }
  where
    go : (r : Result ℕ (Option ℕ)) → EndOf t a n x r → PlaceIn (number_at t a) n x (result_ok r)
    go (Ok k) f = record { within = f.0; here = f.1; only = λ i c q. same_place tree i k c f.0 (q ∙ sym f.1) }
    go (Err (Some p)) m = m.none
    go (Err None) z = λ i c q. absurd (omega (arith, z))
