-- Breadth-first search finds first walks: mathematics of `Queue`, with no code in it.
--     start_queue                     the queue of one entry
--     skip, known, push               past edges that are not from this entry, past one to a number that has an entry, past one to a new number
--     next_head                       on to the next entry
--     entry_first                     every entry has the first walk to its number
--     entry_of                        the entries up to h are the numbers reached no later than that of h
--     first_found, all_found, none_found   what the search finds
use Prim.Native.Nat.{ℕ, ◌+◌, ◌≤◌, ◌<◌}
use mathlib.Core.Path.{◌≡◌, refl, sym, ap, ◌∙◌, subst}
use mathlib.Core.Logic.{◌⊎◌, inl, inr, ⊎_elim, by_cases}
use mathlib.Core.List.{List, [], ◌∷◌, ◌++◌, map, append-nil}
use mathlib.Core.Bool.{cond}
use native.Mathlib.Omega.{arith}
use native.Mathlib.Decide.{dec_lt}
use borrow.Author.Tests.{eq-eqb, ne_eqb}
use lib.Dec.{eqb}
use lib.Seq.{append_snoc}
use Rattle.meaning.specs.Chain.{Graph, IsWalk, Before, IsFirstWalk, names_on}
use Rattle.meaning.proofs.Order.{before_trans, before_irrefl}
use Rattle.meaning.proofs.Walks.{order}
use Rattle.followed.proofs.Order.{AtMost, before_snoc, before_last, before_longer, before_at_most, at_most_trans, at_most_snoc, at_most_last}
use Rattle.followed.proofs.FirstWalks.{walk_more}
use Rattle.search_from.specs.Queue.{Passed, HasEntry, Queue}

-- a function, changed at one place
pub put : {A : Type 0} → (ℕ → A) → ℕ → A → ℕ → A
put f n v i = cond (eqb i n) v (f i)

pub put_here : {A : Type 0} (f : ℕ → A) (n : ℕ) (v : A) → put f n v n ≡ v
unfolding put
put_here f n v = rw (eq-eqb n n refl)

pub put_below : {A : Type 0} (f : ℕ → A) (n : ℕ) (v : A) (i : ℕ) → i < n → put f n v i ≡ f i
unfolding put
put_below f n v i l = rw (ne_eqb i n (omega arith))

-- one more number: it is below n, or n
pub below_one_more : {i n : ℕ} → i < n + 1 → (i < n) ⊎ (i ≡ n)
below_one_more {i} {n} l = by_cases (dec_lt i n) (λ (p : i < n). inl p) (λ (p : ¬ (i < n)). inr (omega arith))

-- either edge f from entry j is before edge e from entry h, or it is not
passed : (j f h e : ℕ) → Passed j f h e ⊎ ((h < j) ⊎ ((h ≡ j) × (e ≤ f)))
passed j f h e =
    by_cases (dec_lt j h) (λ (p : j < h). inl (inl p))
    (λ (p : ¬ (j < h)).
    by_cases (dec_lt h j) (λ (q : h < j). inr (inl q))
    (λ (q : ¬ (h < j)).
    by_cases (dec_lt f e) (λ (r : f < e). inl (inr (omega arith, r))) (λ (r : ¬ (f < e)). inr (inr (omega arith, omega arith)))))

prefix : (p es : List ℕ) (f : ℕ) → AtMost (p ++ f ∷ []) (p ++ f ∷ es)
prefix p [] f = inl refl
prefix p (x ∷ es) f = inr (subst (λ (l : List ℕ). Before (p ++ f ∷ []) l) (append_snoc p f (x ∷ es)) (before_longer (p ++ f ∷ []) es x))

-- the names on a walk with one edge more
pub names_snoc : (g : Graph) (a : ℕ) (es : List ℕ) (e : ℕ) → names_on g a (es ++ e ∷ []) ≡ names_on g a es ++ g.to e ∷ []
names_snoc g a es e = ap (λ (l : List ℕ). a ∷ l) (go es)
  where
    go : (ds : List ℕ) → map g.to (ds ++ e ∷ []) ≡ map g.to ds ++ g.to e ∷ []
    go [] = refl
    go (d ∷ ds) = ap (λ (l : List ℕ). g.to d ∷ l) (go ds)

-- a walk to an entry's number and one edge more
walk_snoc : (g : Graph) (a b e : ℕ) (es : List ℕ) → IsWalk g a es b → e < g.count → g.from e ≡ b → IsWalk g a (es ++ e ∷ []) (g.to e)
walk_snoc g a b e es w l s = walk_more g a e es (subst (λ (x : ℕ). IsWalk g a es x) (sym s) w) l

module _ (g : Graph) (start : ℕ) (name : ℕ → ℕ) (path : ℕ → List ℕ) (n h e : ℕ) (q : Queue g start name path n h e) where
  -- some edge that is not yet followed, from an entry, gives a walk that is es or comes before es
  Ahead : List ℕ → Type 0
  Ahead es = (j : ℕ) × (f : ℕ) × (j < n) × ((h < j) ⊎ ((h ≡ j) × (e ≤ f))) × AtMost (path j ++ f ∷ []) es

  -- a walk goes to an entry's name, and not before that entry's walk, or it leaves what has been followed
  reach : (p es : List ℕ) (a b : ℕ) → HasEntry name path n a p → IsWalk g a es b → HasEntry name path n b (p ++ es) ⊎ Ahead (p ++ es)
  unfolding Ahead
  reach p [] a b t w = inl (t.0, t.1, t.2 ∙ w, subst (λ (l : List ℕ). AtMost (path t.0) l) (sym (append-nil p)) t.3)
  reach p (f ∷ es) a b t w =
      ⊎_elim
      (λ (s : Passed t.0 f h e).
      let u = q.covered t.0 f t.1 w.0 (w.1 ∙ sym t.2) s in
      let r = reach (p ++ f ∷ []) es (g.to f) b (u.0, u.1, u.2, at_most_trans u.3 (at_most_snoc f t.3)) w.2 in
      subst (λ (l : List ℕ). HasEntry name path n b l ⊎ Ahead l) (append_snoc p f es) r)
      (λ (s : (h < t.0) ⊎ ((h ≡ t.0) × (e ≤ f))).
      inr (t.0, f, t.1, s, at_most_trans (at_most_snoc f t.3) (prefix p es f)))
      (passed t.0 f h e)

  start_entry : HasEntry name path n start []
  start_entry = (0, q.root.0, sym (rw q.root.1 at (q.walks 0 q.root.0)), inl q.root.1)

  ahead_first : h < n → (es : List ℕ) → Ahead es → AtMost (path h ++ e ∷ []) es
  unfolding Ahead
  ahead_first l es t =
      ⊎_elim
      (λ (s : h < t.0). at_most_trans (inr (before_snoc e t.1 (q.rising h t.0 s t.2))) t.4)
      (λ (s : (h ≡ t.0) × (e ≤ t.1)).
      at_most_trans (subst (λ (j : ℕ). AtMost (path h ++ e ∷ []) (path j ++ t.1 ∷ [])) s.0 (at_most_last (path h) s.1)) t.4)
      t.3

  -- every edge from every entry has been followed, so each name that is reached has an entry
  pub all_found : n ≤ h → (b : ℕ) (es : List ℕ) → IsWalk g start es b → (i : ℕ) × (i < n) × (name i ≡ b)
  unfolding Ahead
  all_found l b es w =
      ⊎_elim
      (λ (t : HasEntry name path n b es). (t.0, t.1, t.2))
      (λ (t : Ahead es).
      absurd (⊎_elim (λ (s : h < t.0). omega (arith, t.2)) (λ (s : (h ≡ t.0) × (e ≤ t.1)). omega (arith, t.2)) t.3))
      (reach [] es start b start_entry w)

  -- and a name without an entry is not reached
  pub none_found : n ≤ h → (b : ℕ) → ((i : ℕ) → i < n → name i ≡ b → ⊥) → (es : List ℕ) → IsWalk g start es b → ⊥
  none_found l b absent es w = let t = all_found l b es w in absent t.0 t.1 t.2

  -- every entry has the first walk to its name
  pub entry_first : (i : ℕ) → i < n → IsFirstWalk g start (name i) (path i)
  unfolding Ahead
  entry_first i l =
      record {
        walk = q.walks i l;
        first = λ fs w.
            ⊎_elim
            (λ (t : HasEntry name path n (name i) fs). subst (λ (k : ℕ). AtMost (path k) fs) (one t.0 t.1 t.2) t.3)
            (λ (t : Ahead fs). inr (before_at_most (q.below (left t) i l) (ahead_first (left t) fs t)))
            (reach [] fs start (name i) start_entry w);
      }
    where
      left : {fs : List ℕ} → Ahead fs → h < n
      left t = ⊎_elim (λ (s : h < t.0). omega (arith, t.2)) (λ (s : (h ≡ t.0) × (e ≤ t.1)). omega (arith, t.2)) t.3

      one : (k : ℕ) → k < n → name k ≡ name i → k ≡ i
      one k a p =
          ⊎_elim (λ (s : k < i). absurd (q.apart k i s l p))
          (λ (s : (k ≡ i) ⊎ (i < k)). ⊎_elim (λ (r : k ≡ i). r) (λ (r : i < k). absurd (q.apart i k r a (sym p))) s)
          (order k i)

  -- a name that is reached by a walk that does not come after that of entry h is the name of an entry up to h
  pub entry_of : h < n → (x : ℕ) (es : List ℕ) → IsWalk g start es x → AtMost es (path h) → (i : ℕ) × (i ≤ h) × (name i ≡ x)
  entry_of l x es w s =
      ⊎_elim
      (λ (t : HasEntry name path n x es). (t.0, up_to t, t.2))
      (λ (t : Ahead es).
      absurd (before_irrefl (before_at_most (before_longer (path h) [] e) (at_most_trans (ahead_first l es t) s))))
      (reach [] es start x start_entry w)
    where
      up_to : (t : HasEntry name path n x es) → t.0 ≤ h
      up_to t =
          by_cases (dec_lt h t.0)
          (λ (r : h < t.0). absurd (before_irrefl (before_at_most (q.rising h t.0 r t.1) (at_most_trans t.3 s))))
          (λ (r : ¬ (h < t.0)). omega arith)

  module _ (l : h < n) (m : e < g.count) (from : g.from e ≡ name h) (absent : (i : ℕ) → i < n → name i ≡ g.to e → ⊥) where
    -- the edge e from entry h ends at a name that has no entry: its walk is the first
    pub first_found : IsFirstWalk g start (g.to e) (path h ++ e ∷ [])
    first_found =
        record {
          walk = walk_snoc g start (name h) e (path h) (q.walks h l) m from;
          first = λ fs w.
              ⊎_elim
              (λ (t : HasEntry name path n (g.to e) fs). absurd (absent t.0 t.1 t.2))
              (λ (t : Ahead fs). ahead_first l fs t)
              (reach [] fs start (g.to e) start_entry w);
        }

  -- on to edge k from entry h, where each edge passed that is from the entry's name ends at a name that has an entry
  pub advance : (k : ℕ) → h < n → e ≤ k
      → ((f : ℕ) → e ≤ f → f < k → f < g.count → g.from f ≡ name h → HasEntry name path n (g.to f) (path h ++ f ∷ [])) → Queue g start name path n h k
  advance k l m ends =
      record {
        root = q.root;
        walks = q.walks;
        apart = q.apart;
        rising = q.rising;
        below = λ _ i s. before_at_most (q.below l i s) (at_most_last (path h) m);
        covered = λ j f s u from p.
            ⊎_elim (λ (r : j < h). q.covered j f s u from (inl r))
            (λ (r : (j ≡ h) × (f < k)).
            by_cases (dec_lt f e) (λ (v : f < e). q.covered j f s u from (inr (r.0, v)))
            (λ (v : ¬ (f < e)).
            subst (λ (x : ℕ). HasEntry name path n (g.to f) (path x ++ f ∷ [])) (sym r.0)
            (ends f (omega arith) r.1 u (from ∙ ap name r.0))))
            p;
      }

  -- past edges that are not from the name of entry h
  pub skip : (k : ℕ) → h < n → e ≤ k → ((f : ℕ) → e ≤ f → f < k → f < g.count → g.from f ≡ name h → ⊥) → Queue g start name path n h k
  skip k l m none = advance k l m (λ f a b c from. absurd (none f a b c from))

  -- past the edge e from entry h, which ends at the name of entry i
  pub known : (i : ℕ) → h < n → i < n → name i ≡ g.to e → Queue g start name path n h (e + 1)
  known i l m end =
      advance (e + 1) l (omega arith)
      (λ f a b c from.
      subst (λ (x : ℕ). HasEntry name path n (g.to x) (path h ++ x ∷ [])) (omega arith)
      (i, m, end, inr (q.below l i m)))

  -- past all edges from entry h
  pub next_head : h < n → g.count ≤ e → Queue g start name path n (h + 1) 0
  next_head l m =
      record {
        root = q.root;
        walks = q.walks;
        apart = q.apart;
        rising = q.rising;
        below = λ k i s. before_trans (q.below l i s) (before_snoc e 0 (q.rising h (h + 1) (omega arith) k));
        covered = λ j f s r from p.
            ⊎_elim
            (λ (v : j < h + 1).
            ⊎_elim (λ (u : j < h). q.covered j f s r from (inl u)) (λ (u : j ≡ h). q.covered j f s r from (inr (u, omega arith)))
            (below_one_more v))
            (λ (v : (j ≡ h + 1) × (f < 0)). absurd (omega arith))
            p;
      }

  -- past the edge e from entry h, whose end is new: one entry more
  module _ (l : h < n) (m : e < g.count) (from : g.from e ≡ name h) (absent : (i : ℕ) → i < n → name i ≡ g.to e → ⊥) where
    pub push : (name' : ℕ → ℕ) → ((i : ℕ) → i < n → name' i ≡ name i) → name' n ≡ g.to e
        → Queue g start name' (put path n (path h ++ e ∷ [])) (n + 1) h (e + 1)
    push name' old-name last_name = record { root = root; walks = walks; apart = apart; rising = rising; below = below; covered = covered }
      where
        path' : ℕ → List ℕ
        path' = put path n (path h ++ e ∷ [])

        new_name : (i : ℕ) → i ≡ n → name' i ≡ g.to e
        new_name i s = ap name' s ∙ last_name

        old_path : (i : ℕ) → i < n → path' i ≡ path i
        old_path i s = put_below path n (path h ++ e ∷ []) i s

        new_path : (i : ℕ) → i ≡ n → path' i ≡ path h ++ e ∷ []
        new_path i s = ap path' s ∙ put_here path n (path h ++ e ∷ [])

        root : (0 < n + 1) × (path' 0 ≡ [])
        root = (omega arith, old_path 0 q.root.0 ∙ q.root.1)

        walks : (i : ℕ) → i < n + 1 → IsWalk g start (path' i) (name' i)
        walks i s =
            ⊎_elim (λ (t : i < n). rw (old_path i t, old-name i t) (q.walks i t))
            (λ (t : i ≡ n). rw (new_path i t, new_name i t) (walk_snoc g start (name h) e (path h) (q.walks h l) m from))
            (below_one_more s)

        apart : (i j : ℕ) → i < j → j < n + 1 → name' i ≡ name' j → ⊥
        apart i j r s p =
            ⊎_elim (λ (t : j < n). q.apart i j r t (sym (old-name i (omega arith)) ∙ p ∙ old-name j t))
            (λ (t : j ≡ n). absent i (omega arith) (sym (old-name i (omega arith)) ∙ p ∙ new_name j t))
            (below_one_more s)

        rising : (i j : ℕ) → i < j → j < n + 1 → Before (path' i) (path' j)
        rising i j r s =
            ⊎_elim (λ (t : j < n). rw (old_path i (omega arith), old_path j t) (q.rising i j r t))
            (λ (t : j ≡ n). rw (old_path i (omega arith), new_path j t) (q.below l i (omega arith)))
            (below_one_more s)

        below : h < n + 1 → (i : ℕ) → i < n + 1 → Before (path' i) (path' h ++ (e + 1) ∷ [])
        below k i s =
            ⊎_elim
            (λ (t : i < n). rw (old_path i t, old_path h l) (before_trans (q.below l i t) (before_last (path h) (omega arith))))
            (λ (t : i ≡ n). rw (new_path i t, old_path h l) (before_last (path h) (omega arith)))
            (below_one_more s)

        kept : (j f : ℕ) → f < g.count → g.from f ≡ name' j → j < n → Passed j f h e → HasEntry name' path' (n + 1) (g.to f) (path' j ++ f ∷ [])
        kept j f u v s p =
            let t = q.covered j f s u (v ∙ old-name j s) p in
            (t.0, omega (arith, t.1), old-name t.0 t.1 ∙ t.2, rw (old_path t.0 t.1, old_path j s) t.3)

        same : (j f : ℕ) → j ≡ h → f ≡ e → path h ++ e ∷ [] ≡ path' j ++ f ∷ []
        same j f r t = rw (t, r, old_path h l)

        covered : (j f : ℕ) → j < n + 1 → f < g.count → g.from f ≡ name' j → Passed j f h (e + 1) → HasEntry name' path' (n + 1) (g.to f) (path' j ++ f ∷ [])
        covered j f s u v p =
            ⊎_elim (λ (r : j < h). kept j f u v (omega arith) (inl r))
            (λ (r : (j ≡ h) × (f < e + 1)).
            ⊎_elim (λ (t : f < e). kept j f u v (omega arith) (inr (r.0, t)))
            (λ (t : f ≡ e). (n, omega arith, new_name n refl ∙ ap g.to (sym t), inl (new_path n refl ∙ same j f r.0 t)))
            (below_one_more r.1))
            p

-- the queue of one entry, `start`
pub start_queue : (g : Graph) (name : ℕ → ℕ) → Queue g (name 0) name (λ i. []) 1 0 0
start_queue g name =
    record {
      root = (omega arith, refl);
      walks = λ i l. ap name (omega arith);
      apart = λ i j l m. absurd (omega arith);
      rising = λ i j l m. absurd (omega arith);
      below = λ l i m. before_longer [] [] 0;
      covered = λ j f l m from p. absurd (⊎_elim (λ (s : j < 0). omega arith) (λ (s : (j ≡ 0) × (f < 0)). omega arith) p);
    }
