-- The steps of a search from a number, with its marks.
--     searching_start                   the first entry
--     searching_few, searching_room     there are no more entries than numbers, and room for one that is not marked
--     searching_push, -known            one edge followed
--     searching_skip, -next             on to another edge, and to the next entry
--     last_marked                       nothing that is marked comes after the last entry
--     searching_over, -gone             what the marks say where the search is over
use Prim.Native.Nat.{ℕ, zero, suc, ◌+◌, ◌≤◌, ◌<◌}
use mathlib.Core.Path.{◌≡◌, refl, sym, ap, ap₂, ◌∙◌, subst}
use mathlib.Core.Logic.{inl, inr, ⊎_elim, by_cases}
use mathlib.Core.List.{List, [], ◌∷◌, ◌++◌}
use mathlib.Core.Option.{Option, some}
use native.Mathlib.Omega.{arith}
use native.Mathlib.Decide.{ℕ_discrete}
use lib.ListN.{length, length-append}
use Rattle.meaning.specs.Chain.{Graph, IsWalk, IsFirstWalk, names_on, chain_of}
use Rattle.meaning.proofs.ChainLaws.{first_walk_is, first_walk_no}
use Rattle.meaning.proofs.Pigeonhole.{pigeonhole}
use Rattle.followed.specs.Followed.{followed_count}
use Rattle.followed.proofs.FirstWalks.{first_one}
use Rattle.search_from.specs.Queue.{NotAfter, Queue, Back, Searching, Marked, leading, LeadingBelow, Over}
use Rattle.search_from.proofs.Breadth as breadth
use Rattle.search_from.proofs.Breadth.{put, put_here, put_below, below_one_more, names_snoc, start_queue, entry_first, none_found}
use Rattle.search_from.proofs.FollowedEntries.{followed_found, followed_none}

module _ {g : Graph} {start m : ℕ} where
  pub searching_start : {long name before : ℕ → ℕ} → ((d : ℕ) → d < g.count → (g.from d < m) × (g.to d < m)) → start < m
      → long start ≡ 1 → ((x : ℕ) → (x ≡ start → ⊥) → long x ≡ 0) → name 0 ≡ start → Searching g start m long name before 1 0 0
  searching_start {long} {name} {before} ends small one others root =
      record {
        path = λ i. [];
        queue = subst (λ (a : ℕ). Queue g a name (λ i. []) 1 0 0) root (start_queue g name);
        ends = ends;
        inside = λ i l. rw (first i l) small;
        marked = λ i l. ap long (first i l) ∙ one;
        short = λ i l. omega arith;
        entered = λ x l. (0, omega arith, root ∙ sym (only x l));
        back = λ i a b. absurd (omega arith);
      }
    where
      first : (i : ℕ) → i < 1 → name i ≡ start
      first i l = let z : i ≡ 0 = omega arith in ap name z ∙ root

      only : (x : ℕ) → 0 < long x → x ≡ start
      only x l = by_cases (ℕ_discrete x start) (λ (p : x ≡ start). p) (λ (p : ¬ (x ≡ start)). absurd (omega (arith, others x p)))

  module _ {long name before : ℕ → ℕ} {n h e : ℕ} (s : Searching g start m long name before n h e) where
    -- a number that is not marked is no entry
    pub absent : (y : ℕ) → long y ≡ 0 → (i : ℕ) → i < n → name i ≡ y → ⊥
    absent y fresh i l p = omega (arith, s.marked i l, ap long p)

    pub searching_few : n ≤ m
    searching_few = pigeonhole n m name s.inside s.queue.apart

    pub searching_room : (y : ℕ) → y < m → long y ≡ 0 → n < m
    searching_room y small fresh = omega (arith, pigeonhole (n + 1) m (put name n y) inside apart)
      where
        inside : (i : ℕ) → i < n + 1 → put name n y i < m
        inside i l =
            ⊎_elim (λ (a : i < n). rw (put_below name n y i a) (s.inside i a)) (λ (a : i ≡ n). rw (a, put_here name n y) small) (below_one_more l)

        apart : (i j : ℕ) → i < j → j < n + 1 → put name n y i ≡ put name n y j → ⊥
        apart i j l k p =
            ⊎_elim (λ (a : j < n). s.queue.apart i j l a (sym (put_below name n y i (omega arith)) ∙ p ∙ put_below name n y j a))
            (λ (a : j ≡ n). absent y fresh i (omega arith) (sym (put_below name n y i (omega arith)) ∙ p ∙ ap (put name n y) a ∙ put_here name n y)) (below_one_more k)

    -- the search stands at another edge
    moved : {k f : ℕ} → Queue g start name s.path n k f → Searching g start m long name before n k f
    moved q =
        record {
          path = s.path;
          queue = q;
          ends = s.ends;
          inside = s.inside;
          marked = s.marked;
          short = s.short;
          entered = s.entered;
          back = s.back;
        }

    pub searching_known : h < n → 0 < long (g.to e) → Searching g start m long name before n h (e + 1)
    searching_known l known =
        let t = s.entered (g.to e) known in
        moved (breadth.known g start name s.path n h e s.queue t.0 l t.1 t.2)

    pub searching_skip : (f : ℕ) → h < n → e ≤ f → ((d : ℕ) → e ≤ d → d < f → d < g.count → g.from d ≡ name h → ⊥) → Searching g start m long name before n h f
    searching_skip f l past others = moved (breadth.skip g start name s.path n h e s.queue f l past others)

    pub searching_next : h < n → g.count ≤ e → Searching g start m long name before n (h + 1) 0
    searching_next l all = moved (breadth.next_head g start name s.path n h e s.queue l all)

    -- the chain of entry i can be read off the marks
    abbrev Read : ℕ → Type 0
    Read i = (leading before (length (s.path i)) (name i) ≡ names_on g start (s.path i)) × LeadingBelow before m (length (s.path i)) (name i)

    root : 0 < n → Read 0
    unfolding leading LeadingBelow
    root l =
        let empty = s.queue.root.1 in
        let first : start ≡ name 0 = subst (λ (es : List ℕ). IsWalk g start es (name 0)) empty (s.queue.walks 0 l) in
        rw empty (ap (λ (x : ℕ). x ∷ []) (sym first), s.inside 0 l)

    leads : (k i : ℕ) → i ≤ k → i < n → Read i
    unfolding leading LeadingBelow
    leads zero zero a l = root l
    leads zero (suc i) a l = absurd (omega arith)
    leads (suc k) zero a l = root l
    leads (suc k) (suc i) a l =
        let b = s.back (suc i) (omega arith) l in
        let t = leads k b.entry (omega (arith, b.lower)) (omega (arith, b.lower)) in
        let size : length (s.path (suc i)) ≡ suc (length (s.path b.entry)) = ap length b.on ∙ simp length-append (omega arith) in (
          rw (size, b.is)
              (ap₂ (λ (xs : List ℕ) (x : ℕ). xs ++ x ∷ []) t.0 (sym b.to) ∙ sym (names_snoc g start (s.path b.entry) b.edge) ∙ ap (names_on g start) (sym b.on)),
          rw (size, b.is) (s.inside (suc i) l, t.1),
        )

    pub entry_chain : (i k : ℕ) → i < n → long (name i) ≡ suc k → (chain_of g start (name i) ≡ some (leading before k (name i))) × LeadingBelow before m k (name i)
    unfolding chain_of
    entry_chain i k l p =
        let size : length (s.path i) ≡ k = omega (arith, s.marked i l) in
        let t = leads i i (omega arith) l in
        let q = ap (λ (j : ℕ). leading before j (name i)) (sym size) ∙ t.0 in (
          rw (first_walk_is g start (name i) (s.path i) (entry_first g start name s.path n h e s.queue i l)) (ap {B = Option (List ℕ)} some (sym q)),
          subst (λ (j : ℕ). LeadingBelow before m j (name i)) size t.1,
        )

    -- nothing that is marked comes after the last entry
    pub last_marked : (k : ℕ) {y : ℕ} → n ≡ k + 1 → name k ≡ y → (x : ℕ) → 0 < long x → NotAfter g start x y
    last_marked k size last x marked es fs v w =
        let t = s.entered x marked in
        let one : es ≡ s.path t.0 = first_one g v (subst (λ (z : ℕ). IsFirstWalk g start z (s.path t.0)) t.2 (first t.0 t.1)) in
        let two : fs ≡ s.path k = first_one g w (subst (λ (z : ℕ). IsFirstWalk g start z (s.path k)) last (first k (omega arith))) in
        rw (one, two) (by_cases (ℕ_discrete t.0 k) (λ (p : t.0 ≡ k). inl (ap s.path p)) (λ (p : ¬ (t.0 ≡ k)). inr (s.queue.rising t.0 k (omega (arith, t.1)) (omega arith))))
      where
        first : (i : ℕ) → i < n → IsFirstWalk g start (name i) (s.path i)
        first i l = entry_first g start name s.path n h e s.queue i l

    pub searching_gone : n ≤ h → (to : ℕ) → long to ≡ 0 → Over g start to m long before n
    unfolding chain_of
    searching_gone l to fresh =
        record {
          followed = followed_none g start name s.path n h e s.queue l to (absent to fresh);
          ended = λ marked. absurd (omega arith);
          none = λ _. rw (first_walk_no g start to (none_found g start name s.path n h e s.queue l to (absent to fresh)));
          some = λ k p. absurd (omega arith);
        }

    -- the edge e from entry h leads to y, which is not marked and becomes entry n
    module _ {y x v : ℕ} {long' name' before' : ℕ → ℕ} (a : Marked long name before n y x v long' name' before') (l : h < n) (is : name h ≡ x)
        (size : v ≡ long x + 1) (here : e < g.count) (from : g.from e ≡ name h) (to : g.to e ≡ y) (fresh : long y ≡ 0) where
      other : (i : ℕ) → i < n → name i ≡ y → ⊥
      other = absent y fresh

      path' : ℕ → List ℕ
      path' = put s.path n (s.path h ++ e ∷ [])

      old_path : (i : ℕ) → i < n → path' i ≡ s.path i
      unfolding path'
      old_path i b = put_below s.path n (s.path h ++ e ∷ []) i b

      new_path : path' n ≡ s.path h ++ e ∷ []
      unfolding path'
      new_path = put_here s.path n (s.path h ++ e ∷ [])

      one_more : length (s.path h ++ e ∷ []) ≡ length (s.path h) + 1
      one_more = simp length-append

      pub searching_push : Searching g start m long' name' before' (n + 1) h (e + 1)
      unfolding path'
      searching_push =
          record {
            path = path';
            queue = breadth.push g start name s.path n h e s.queue l here from (λ i b p. other i b (p ∙ to)) name' a.old (a.last ∙ sym to);
            ends = s.ends;
            inside = λ i b. ⊎_elim (λ (p : i < n). rw (a.old i p) (s.inside i p)) (λ (p : i ≡ n). rw (p, a.last) (subst (λ (z : ℕ). z < m) to (s.ends e here).1)) (below_one_more b);
            marked = marked;
            short = short;
            entered = entered;
            back = back;
          }
        where
          marked : (i : ℕ) → i < n + 1 → long' (name' i) ≡ length (path' i) + 1
          marked i b =
              ⊎_elim (λ (p : i < n). rw (a.old i p, old_path i p) (a.others (name i) (other i p) ∙ s.marked i p))
              (λ (p : i ≡ n). rw (p, a.last, a.here, new_path) (omega (arith, one_more, s.marked h l, ap long is))) (below_one_more b)

          short : (i : ℕ) → i < n + 1 → length (path' i) ≤ i
          short i b =
              ⊎_elim (λ (p : i < n). rw (old_path i p) (s.short i p)) (λ (p : i ≡ n). rw (p, new_path) (omega (arith, one_more, s.short h l))) (below_one_more b)

          entered : (z : ℕ) → 0 < long' z → (i : ℕ) × (i < n + 1) × (name' i ≡ z)
          entered z b =
              by_cases (ℕ_discrete z y) (λ (p : z ≡ y). (n, omega arith, a.last ∙ sym p))
              (λ (p : ¬ (z ≡ y)).
              let t = s.entered z (omega (arith, a.others z p)) in
              (t.0, omega (arith, t.1), a.old t.0 t.1 ∙ t.2))

          kept : (i : ℕ) → 0 < i → i < n → Back g name' before' path' i
          kept i b c =
              let t = s.back i b c in
              let j : t.entry < n = omega (arith, t.lower) in
              record {
                entry = t.entry;
                edge = t.edge;
                lower = t.lower;
                on = old_path i c ∙ t.on ∙ ap (λ (es : List ℕ). es ++ t.edge ∷ []) (sym (old_path t.entry j));
                to = t.to ∙ sym (a.old i c);
                is = ap before' (a.old i c) ∙ a.kept (name i) (other i c) ∙ t.is ∙ sym (a.old t.entry j);
              }

          last : Back g name' before' path' n
          last = record {
            entry = h;
            edge = e;
            lower = l;
            on = new_path ∙ ap (λ (es : List ℕ). es ++ e ∷ []) (sym (old_path h l));
            to = to ∙ sym a.last;
            is = ap before' a.last ∙ a.from ∙ sym is ∙ sym (a.old h l);
          }

          back : (i : ℕ) → 0 < i → i < n + 1 → Back g name' before' path' i
          back i b c = ⊎_elim (λ (p : i < n). kept i b p) (λ (p : i ≡ n). subst (Back g name' before' path') (sym p) last) (below_one_more c)

      -- y is looked for: the search is over
      pub searching_over : (0 < long' y) × Over g start y m long' before' (h + 1)
      searching_over = (
        omega (arith, a.here),
        record {
          followed = subst (λ (z : ℕ). followed_count g start z ≡ h + 1) to (followed_found g start name s.path n h e s.queue l here from (λ i b p. other i b (p ∙ to)));
          ended = λ _ x marked es fs v w. Rattle.search_from.proofs.Steps.last_marked searching_push n refl a.last x marked es fs v w;
          none = λ p. absurd (omega (arith, a.here));
          some = λ k p.
              subst (λ (z : ℕ). (chain_of g start z ≡ some (leading before' k z)) × LeadingBelow before' m k z) a.last
              (Rattle.search_from.proofs.Steps.entry_chain searching_push n k (omega arith) (ap long' a.last ∙ p));
        },
      )
