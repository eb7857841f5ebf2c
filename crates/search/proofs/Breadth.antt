-- A breadth-first search backwards from a number, step by step.
--     seeking_start          the number alone is an entry
--     seeking_room           there is room for a number that is not reached
--     seeking_push           it becomes an entry, by edge e to entry h
--     seeking_known          edge e to entry h leads from a number that is reached
--     seeking_skip           on to the next edge that leads to entry h
--     seeking_next           on to the next entry
--     seeking_back           back to the first edge to entry h
--     seeking_same           it hangs on how far each number is, and on the entries
--     seeking_far, -none     how far what is marked is; where every entry is followed, no walk leads from what is not
use Prim.Native.Nat.{ℕ, suc, ◌+◌, ◌≤◌, ◌<◌}
use mathlib.Core.Path.{◌≡◌, refl, sym, ap, ◌∙◌, subst}
use mathlib.Core.Logic.{◌⊎◌, inl, inr, ⊎_elim, by_cases}
use mathlib.Core.List.{List, [], ◌∷◌}
use native.Mathlib.Omega.{arith}
use native.Mathlib.Decide.{ℕ_discrete, dec_lt}
use borrow.Author.Tests.{eq-eqb, ne_eqb}
use mathlib.Core.Bool.{cond}
use lib.Dec.{eqb}
use lib.ListN.{length}
use Rattle.meaning.specs.Chain.{Graph, IsWalk}
use Rattle.meaning.proofs.Pigeonhole.{pigeonhole}
use Rattle.search.specs.Seeking.{Passed, Off, Seeking, Pushed}

-- how far each of m numbers is from b, of those that are marked: the nearest are
pub record Far (g : Graph) (b m : ℕ) (far : ℕ → ℕ) : Type 0 where
  pub walks : (x : ℕ) → x < m → 0 < far x → Off g b x (far x)
  pub small : (x : ℕ) → x < m → far x ≤ m
  pub least : (x : ℕ) → x < m → 0 < far x → (es : List ℕ) → IsWalk g x es b → far x ≤ length es + 1
  pub nearest : (x y : ℕ) → x < m → y < m → (es : List ℕ) → IsWalk g x es b → length es + 1 < far y → 0 < far x

-- one more number: it is below n, or n
below_one_more : {i n : ℕ} → i < n + 1 → (i < n) ⊎ (i ≡ n)
below_one_more {i} {n} l = by_cases (dec_lt i n) (λ (p : i < n). inl p) (λ (p : ¬ (i < n)). inr (omega arith))

module _ {g : Graph} {b m : ℕ} where
  pub seeking_start : {far queue far' queue' : ℕ → ℕ} → ((d : ℕ) → d < g.count → (g.from d < m) × (g.to d < m)) → b < m
      → ((x : ℕ) → x < m → far x ≡ 0) → Pushed far queue 0 b 1 far' queue' → Seeking g b m far' queue' 1 0 0
  seeking_start {far} {queue} {far'} {queue'} ends l cleared p =
      record {
        ends = ends;
        target = (l, p.here);
        walks = λ x a q. let e = only x a q in ([], e, rw (e, p.here));
        inside = λ i a. rw (root i a) l;
        apart = λ i j u v _. omega arith;
        reached = λ i a. rw (root i a, p.here) (omega arith, omega arith);
        rising = λ i j u v. absurd (omega arith);
        near = λ _ i a. rw (root i a, root 0 (omega arith)) (omega arith);
        entered = λ x a q. (0, omega arith, root 0 (omega arith) ∙ sym (only x a q));
        covered = λ j d u v w. ⊎_elim (λ (z : j < 0). absurd (omega arith)) (λ (z : (j ≡ 0) × (d < 0)). absurd (omega (arith, z.1)));
        head = omega arith;
      }
    where
      only : (x : ℕ) → x < m → 0 < far' x → x ≡ b
      only x a q = by_cases (ℕ_discrete x b) (λ (e : x ≡ b). e) (λ (e : ¬ (x ≡ b)). absurd (omega (arith, p.others x e, cleared x a)))

      root : (i : ℕ) → i < 1 → queue' i ≡ b
      root i a = let e : i ≡ 0 = omega arith in ap queue' e ∙ p.last

  module _ {far queue : ℕ → ℕ} {n h e : ℕ} (s : Seeking g b m far queue n h e) where
    module _ (y : ℕ) (small : y < m) (fresh : far y ≡ 0) where
      new : (i : ℕ) → i < n → queue i ≡ y → ⊥
      new i l q = omega (arith, (s.reached i l).0, ap far q)

      -- the queue with y behind it
      f : ℕ → ℕ
      f i = cond (eqb i n) y (queue i)

      pub seeking_room : n < m
      unfolding f
      seeking_room = omega (arith, pigeonhole (n + 1) m f inside apart)
        where
          at_end : f n ≡ y
          at_end = rw (eq-eqb n n refl)

          below : (i : ℕ) → i < n → f i ≡ queue i
          below i l = rw (ne_eqb i n (omega arith))

          inside : (i : ℕ) → i < n + 1 → f i < m
          inside i l =
              ⊎_elim (λ (a : i < n). rw (below i a) (s.inside i a)) (λ (a : i ≡ n). rw (a, at_end) small) (below_one_more l)

          apart : (i j : ℕ) → i < j → j < n + 1 → f i ≡ f j → ⊥
          apart i j l k q =
              ⊎_elim (λ (a : j < n). s.apart i j l a (sym (below i (omega arith)) ∙ q ∙ below j a))
              (λ (a : j ≡ n). new i (omega arith) (sym (below i (omega arith)) ∙ q ∙ ap f a ∙ at_end)) (below_one_more k)

      module _ {far' queue' : ℕ → ℕ} {v : ℕ} (p : Pushed far queue n y v far' queue') (l : h < n) (far-off : v ≡ far (queue h) + 1)
          (here : e < g.count) (from : g.from e ≡ y) (to : g.to e ≡ queue h) where
        -- what was reached is as far off as it was
        kept : (x : ℕ) → 0 < far x → far' x ≡ far x
        kept x a = p.others x (λ q. omega (arith, ap far q))

        old : (i : ℕ) → i < n → far' (queue' i) ≡ far (queue i)
        old i a = ap far' (p.before i a) ∙ kept (queue i) (s.reached i a).0

        last : far' (queue' n) ≡ v
        last = ap far' p.last ∙ p.here

        step : Off g b y v
        step = let w = s.walks (queue h) (s.inside h l) (s.reached h l).0 in
            (e ∷ w.0, (here, from, subst (λ (x : ℕ). IsWalk g x w.0 b) (sym to) w.1), omega (arith, w.2))

        pub seeking_push : Seeking g b m far' queue' (n + 1) h e
        seeking_push =
            record {
              ends = s.ends;
              target = (s.target.0, kept b (omega (arith, s.target.1)) ∙ s.target.1);
              walks = walks;
              inside = λ i a. ⊎_elim (λ (q : i < n). rw (p.before i q) (s.inside i q)) (λ (q : i ≡ n). rw (q, p.last) small) (below_one_more a);
              apart = apart;
              reached = reached;
              rising = rising;
              near = λ _. near;
              entered = entered;
              covered = covered;
              head = omega arith;
            }
          where
            walks : (x : ℕ) → x < m → 0 < far' x → Off g b x (far' x)
            walks x a q =
                by_cases (ℕ_discrete x y) (λ (z : x ≡ y). rw (z, p.here) step)
                (λ (z : ¬ (x ≡ y)). rw (p.others x z) (s.walks x a (omega (arith, p.others x z))))

            apart : (i j : ℕ) → i < j → j < n + 1 → queue' i ≡ queue' j → ⊥
            apart i j a c q =
                ⊎_elim (λ (z : j < n). s.apart i j a z (sym (p.before i (omega arith)) ∙ q ∙ p.before j z))
                (λ (z : j ≡ n). new i (omega arith) (sym (p.before i (omega arith)) ∙ q ∙ ap queue' z ∙ p.last)) (below_one_more c)

            reached : (i : ℕ) → i < n + 1 → (0 < far' (queue' i)) × (far' (queue' i) ≤ i + 1)
            reached i a =
                ⊎_elim (λ (z : i < n). rw (old i z) (s.reached i z))
                (λ (z : i ≡ n). rw (z, last) (omega arith, omega (arith, (s.reached h l).1))) (below_one_more a)

            near : (i : ℕ) → i < n + 1 → far' (queue' i) ≤ far' (queue' h) + 1
            near i a =
                ⊎_elim (λ (z : i < n). rw (old i z, old h l) (s.near l i z)) (λ (z : i ≡ n). rw (z, last, old h l) (omega arith)) (below_one_more a)

            rising : (i j : ℕ) → i < j → j < n + 1 → far' (queue' i) ≤ far' (queue' j)
            rising i j a c =
                ⊎_elim (λ (z : j < n). rw (old i (omega arith), old j z) (s.rising i j a z))
                (λ (z : j ≡ n). rw (z, last) (omega (arith, near i (omega arith), old h l))) (below_one_more c)

            entered : (x : ℕ) → x < m → 0 < far' x → (i : ℕ) × (i < n + 1) × (queue' i ≡ x)
            entered x a q =
                by_cases (ℕ_discrete x y) (λ (z : x ≡ y). (n, omega arith, p.last ∙ sym z))
                (λ (z : ¬ (x ≡ y)).
                let t = s.entered x a (omega (arith, p.others x z)) in
                (t.0, omega (arith, t.1), p.before t.0 t.1 ∙ t.2))

            covered : (j d : ℕ) → j < n + 1 → d < g.count → g.to d ≡ queue' j → Passed j d h e
                → (0 < far' (g.from d)) × (far' (g.from d) ≤ far' (queue' j) + 1)
            covered j d a c q z =
                let k : j < n = ⊎_elim (λ (w : j < h). omega arith) (λ (w : (j ≡ h) × (d < e)). omega (arith, w.0)) z in
                let t = s.covered j d k c (q ∙ p.before j k) z in
                rw (kept (g.from d) t.0, old j k) t

    -- every edge before edge f to entry k leads from a number that is reached, and near enough
    abbrev Covers : ℕ → ℕ → Type 0
    Covers k f = (j d : ℕ) → j < n → d < g.count → g.to d ≡ queue j → Passed j d k f → (0 < far (g.from d)) × (far (g.from d) ≤ far (queue j) + 1)

    -- the queue and the distances stay, and the search stands at edge f to entry k
    moved : {k f : ℕ} → (k < n → (i : ℕ) → i < n → far (queue i) ≤ far (queue k) + 1) → Covers k f → k ≤ n → Seeking g b m far queue n k f
    moved near covered head =
        record {
          ends = s.ends;
          target = s.target;
          walks = s.walks;
          inside = s.inside;
          apart = s.apart;
          reached = s.reached;
          rising = s.rising;
          near = near;
          entered = s.entered;
          covered = covered;
          head = head;
        }

    pub seeking_known : h < n → e < g.count → g.to e ≡ queue h → 0 < far (g.from e) → Seeking g b m far queue n h (e + 1)
    seeking_known l here to known = moved s.near covered s.head
      where
        covered : Covers h (e + 1)
        covered j d a c q =
            ⊎_elim (λ (z : j < h). s.covered j d a c q (inl z))
            (λ (z : (j ≡ h) × (d < e + 1)).
            ⊎_elim (λ (w : d < e). s.covered j d a c q (inr (z.0, w)))
            (λ (w : d ≡ e).
            let t = s.entered (g.from e) (s.ends e here).0 known in
            let k : far (g.from e) ≤ far (queue h) + 1 = subst (λ (x : ℕ). far x ≤ far (queue h) + 1) t.2 (s.near l t.0 t.1) in
            rw (w, z.0) (known, k))
            (below_one_more z.1))

    pub seeking_skip : (f : ℕ) → e ≤ f → ((d : ℕ) → e ≤ d → d < f → d < g.count → g.to d ≡ queue h → ⊥) → Seeking g b m far queue n h f
    seeking_skip f past none = moved s.near covered s.head
      where
        covered : Covers h f
        covered j d a c q =
            ⊎_elim (λ (z : j < h). s.covered j d a c q (inl z))
            (λ (z : (j ≡ h) × (d < f)).
            by_cases (dec_lt d e) (λ (w : d < e). s.covered j d a c q (inr (z.0, w)))
            (λ (w : ¬ (d < e)). absurd (none d (omega arith) z.1 c (q ∙ ap queue z.0))))

    pub seeking_next : h < n → g.count ≤ e → Seeking g b m far queue n (h + 1) 0
    seeking_next l all = moved (λ k i a. omega (arith, s.near l i a, s.rising h (h + 1) (omega arith) k)) covered (omega arith)
      where
        covered : Covers (h + 1) 0
        covered j d a c q =
            ⊎_elim
            (λ (z : j < h + 1).
            s.covered j d a c q (⊎_elim (λ (w : j < h). inl w) (λ (w : j ≡ h). inr (w, omega arith)) (below_one_more z)))
            (λ (z : (j ≡ h + 1) × (d < 0)). absurd (omega (arith, z.1)))

    pub seeking_back : Seeking g b m far queue n h 0
    seeking_back = moved s.near covered s.head
      where
        covered : Covers h 0
        covered j d a c q =
            ⊎_elim (λ (z : j < h). s.covered j d a c q (inl z)) (λ (z : (j ≡ h) × (d < 0)). absurd (omega (arith, z.1)))

    pub seeking_few : n ≤ m
    seeking_few = pigeonhole n m queue s.inside s.apart

    pub seeking_same : {far' queue' : ℕ → ℕ} → ((x : ℕ) → x < m → far' x ≡ far x) → ((i : ℕ) → i < m → queue' i ≡ queue i) → Seeking g b m far' queue' n h e
    seeking_same {far'} {queue'} same entries =
        record {
          ends = s.ends;
          target = (s.target.0, same b s.target.0 ∙ s.target.1);
          walks = λ x a. subst (λ (k : ℕ). 0 < k → Off g b x k) (sym (same x a)) (s.walks x a);
          inside = λ i a. rw (at i a) (s.inside i a);
          apart = λ i j a c q. s.apart i j a c (sym (at i (omega arith)) ∙ q ∙ at j c);
          reached = λ i a. rw (off i a) (s.reached i a);
          rising = λ i j a c. rw (off i (omega arith), off j c) (s.rising i j a c);
          near = λ k i a. rw (off i a, off h k) (s.near k i a);
          entered = λ x a q. let t = s.entered x a (omega (arith, same x a)) in (t.0, t.1, at t.0 t.1 ∙ t.2);
          covered = λ j d a c q z. rw (same (g.from d) (s.ends d c).0, off j a) (s.covered j d a c (q ∙ at j a) z);
          head = s.head;
        }
      where
        at : (i : ℕ) → i < n → queue' i ≡ queue i
        at i a = entries i (omega (arith, seeking_few))

        off : (i : ℕ) → i < n → far' (queue' i) ≡ far (queue i)
        off i a = ap far' (at i a) ∙ same (queue i) (s.inside i a)

    -- a walk from x: x is marked, and near enough; or the walk leads through an entry that is not followed, and so it is long
    left : (x : ℕ) → x < m → (es : List ℕ) → IsWalk g x es b → ((0 < far x) × (far x ≤ length es + 1)) ⊎ ((h < n) × (far (queue h) ≤ length es))
    left x a [] w = inl (omega (arith, ap far w, s.target.1), omega (arith, ap far w, s.target.1))
    left x a (d ∷ es) w =
        let k = s.ends d w.0 in
        ⊎_elim (λ (r : (0 < far (g.to d)) × (far (g.to d) ≤ length es + 1)).
        let t = s.entered (g.to d) k.1 r.0 in
        let is : far (queue t.0) ≡ far (g.to d) = ap far t.2 in
        by_cases (dec_lt t.0 h)
        (λ (l : t.0 < h).
        let c = s.covered t.0 d t.1 w.0 (sym t.2) (inl l) in
        inl (subst (λ (y : ℕ). (0 < far y) × (far y ≤ suc (length es) + 1)) w.1 (c.0, omega (arith, c.1, r.1))))
        (λ (l : ¬ (t.0 < h)). inr (omega (arith, t.1), omega (arith, first t.0 (omega arith) t.1, r.1))))
        (λ (r : (h < n) × (far (queue h) ≤ length es)). inr (r.0, omega (arith, r.1)))
        (left (g.to d) k.1 es w.2)
      where
        first : (i : ℕ) → h ≤ i → i < n → far (queue h) ≤ far (queue i)
        first i p q = by_cases (ℕ_discrete h i) (λ (e : h ≡ i). rw e (omega arith)) (λ (e : ¬ (h ≡ i)). s.rising h i (omega arith) q)

    -- nothing is marked that is farther off than one edge from the entry that is next
    marked_near : h < n → (x : ℕ) → x < m → far x ≤ far (queue h) + 1
    marked_near l x a =
        by_cases (dec_lt 0 (far x)) (λ (p : 0 < far x). let t = s.entered x a p in omega (arith, s.near l t.0 t.1, ap far t.2))
        (λ (p : ¬ (0 < far x)). omega arith)

    pub seeking_far : Far g b m far
    seeking_far =
        record {
          walks = s.walks;
          small = λ x a.
              by_cases (dec_lt 0 (far x))
              (λ (l : 0 < far x). let t = s.entered x a l in omega (arith, (s.reached t.0 t.1).1, ap far t.2, t.1, seeking_few))
              (λ (l : ¬ (0 < far x)). omega arith);
          least = λ x a l es w.
              ⊎_elim (λ (r : (0 < far x) × (far x ≤ length es + 1)). r.1)
              (λ (r : (h < n) × (far (queue h) ≤ length es)). omega (arith, r.1, marked_near r.0 x a)) (left x a es w);
          nearest = λ x y a c es w l.
              ⊎_elim (λ (r : (0 < far x) × (far x ≤ length es + 1)). r.0)
              (λ (r : (h < n) × (far (queue h) ≤ length es)). absurd (omega (arith, r.1, marked_near r.0 y c))) (left x a es w);
        }

    pub seeking_none : n ≤ h → (x : ℕ) → x < m → far x ≡ 0 → (es : List ℕ) → IsWalk g x es b → ⊥
    seeking_none all x a e es w =
        ⊎_elim (λ (r : (0 < far x) × (far x ≤ length es + 1)). omega (arith, r.0))
        (λ (r : (h < n) × (far (queue h) ≤ length es)). omega (arith, r.0)) (left x a es w)
