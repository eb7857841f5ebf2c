-- The search and its hops in the slice that is lent, turn by turn.
--     kept_set, -hops, -list, -less, -far, -entries, -next      what is as it was after a store, after the hops, where only the list changed
--     paused_kept                    so the search is
--     cleared, begun                 before the first entry, and with it
--     follow_turn                    the edges that lead to an entry, one after another
--     follow_early, -all             one from the number that is looked for, or none
--     sizes, follow_room      what the places that are read and written hang on
--     hopped, unhopped               one edge gives a hop, or none
use Prim.Native.Nat.{ℕ, ◌+◌, ◌*◌, ◌≤◌, ◌<◌}
use mathlib.Core.Path.{◌≡◌, refl, sym, ap, ◌∙◌, subst}
use mathlib.Core.Bool.{true, false}
use mathlib.Core.Logic.{◌⊎◌, inr, ⊎_elim}
use mathlib.Core.List.{List}
use native.Mathlib.Omega.{arith}
use lib.ListN.{length, length-set, get_or, set}
use lib.Seq.{get_or-set_same, get_or-set_other}
use Rattle.chain.specs.Index.{names_in, from_in, to_in, link_in, first_in, numbered, NextTo, Indexed}
use Rattle.search.specs.Seeking.{Pushed}
use Rattle.search.specs.Work.{far_in, queue_in, hop_in, entries_in, next_in, Exploring, Paused, Settled, marked, AfterEntry, Hopped, Added, known, new, Below}
use Rattle.search.proofs.Breadth.{seeking_start, seeking_room, seeking_push, seeking_known, seeking_skip, seeking_next, seeking_back, seeking_few, seeking_same}
use Rattle.search.proofs.Distances.{hops_passed, hops_taken}

-- the two stores that make x entry n
pushed : (work : List ℕ) (n x v : ℕ) → 3 * x + 1 < length work → 3 * n + 2 < length work
    → Pushed (far_in work) (queue_in work) n x v (far_in (set (set work (3 * x + 1) v) (3 * n + 2) x)) (queue_in (set (set work (3 * x + 1) v) (3 * n + 2) x))
pushed work n x v a b =
    record {
      here = far x ∙ get_or-set_same work (3 * x + 1) v 0 a;
      others = λ y q. far y ∙ get_or-set_other work (3 * x + 1) (3 * y + 1) v 0 (λ r. q (omega arith));
      last = get_or-set_same (set work (3 * x + 1) v) (3 * n + 2) x 0 (omega (arith, length-set work (3 * x + 1) v));
      before = λ i l.
          get_or-set_other (set work (3 * x + 1) v) (3 * n + 2) (3 * i + 2) x 0 (λ r. omega arith)
          ∙ get_or-set_other work (3 * x + 1) (3 * i + 2) v 0 (λ r. omega arith);
    }
  where
    far : (y : ℕ) → far_in (set (set work (3 * x + 1) v) (3 * n + 2) x) y ≡ far_in (set work (3 * x + 1) v) y
    far y = get_or-set_other (set work (3 * x + 1) v) (3 * n + 2) (3 * y + 1) x 0 (λ r. omega arith)

-- the edges that lead to entry h, which is x, are followed up to edge e; what is reached from x is v off
pub record Following (count : ℕ) (edges : List ℕ) (b : ℕ) (work : List ℕ) (n h x v e : ℕ) : Type 0 where
  pub exploring : Exploring count edges b work n h e
  pub entry : h < n
  pub number : queue_in work h ≡ x
  pub off : v ≡ far_in work x + 1
  pub here : e < count → to_in edges e ≡ x
  pub next : next_in count work ≡ h

-- what the places that are read and written hang on, while the edges that lead to entry h are followed
pub record Sizes (count : ℕ) (edges work : List ℕ) (n h : ℕ) : Type 0 where
  pub few : count ≤ 1024
  pub names : names_in edges ≤ 2 * count
  pub size : 9 * count + 257 ≤ length edges
  pub entries : n ≤ names_in edges
  pub room : 7 * count + 7 ≤ length work
  pub number : queue_in work h < names_in edges
  pub far : far_in work (queue_in work h) ≤ h + 1
  pub first : first_in count edges (queue_in work h) ≤ count

-- a search before its first entry
pub record Cleared (count : ℕ) (edges work : List ℕ) : Type 0 where
  pub begun : get_or work 0 0 ≡ 1
  pub zeros : (x : ℕ) → x < names_in edges → far_in work x ≡ 0
  pub entries : entries_in count work ≡ 0
  pub next : next_in count work ≡ 0
  pub room : 7 * count + 7 ≤ length work

-- below the place `end` all is as it was, but for place 0 and the hops
pub record Kept (end : ℕ) (work work' : List ℕ) : Type 0 where
  pub same : (p : ℕ) → p < end → ((x : ℕ) → p ≡ 3 * x → ⊥) → get_or work' p 0 ≡ get_or work p 0
  pub size : length work' ≡ length work

pub kept_set : {end : ℕ} (work : List ℕ) (p v : ℕ) → (p ≡ 0) ⊎ (end ≤ p) → Kept end work (set work p v)
kept_set {end} work p v out =
    record {
      same = λ q l no. get_or-set_other work p q v 0 (λ e. ⊎_elim (λ (z : p ≡ 0). no 0 (omega arith)) (λ (z : end ≤ p). omega arith) out);
      size = length-set work p v;
    }

kept_on : {end : ℕ} {work work' work'' : List ℕ} → Kept end work work' → Kept end work' work'' → Kept end work work''
kept_on a b = record { same = λ p l no. b.same p l no ∙ a.same p l no; size = b.size ∙ a.size }

pub kept_less : {end less : ℕ} {work work' : List ℕ} → less ≤ end → Kept end work work' → Kept less work work'
kept_less f k = record { same = λ p l. k.same p (omega arith); size = k.size }

pub kept_hops : {count e end : ℕ} {edges work work' : List ℕ} → Hopped count edges work e work' → Kept end work work'
kept_hops h = record { same = λ p _ no. h.same p (λ x e. no (x + 1) (omega arith)); size = h.size }

pub kept_list : {count : ℕ} {work work' : List ℕ} → Below count work work' → Kept (6 * count + 3) work work'
kept_list b = record { same = λ p l _. b.same p l; size = b.size }

module _ {count : ℕ} {edges : List ℕ} (s : Indexed count edges) where
  -- on to the next edge that leads to x
  skip : {b n h x v e f : ℕ} {work : List ℕ} → Exploring count edges b work n h e → h < n → queue_in work h ≡ x → v ≡ far_in work x + 1
      → NextTo (numbered count edges) x e f → next_in count work ≡ h → Following count edges b work n h x v f
  skip {f = f} q l is off y next =
      record {
        exploring = record { state = seeking_skip q.state f y.past (λ d a c u w. y.none d a c u (w ∙ is)); room = q.room };
        entry = l;
        number = is;
        off = off;
        here = y.here;
        next = next;
      }

  module _ {b n h : ℕ} {work : List ℕ} where
    pub sizes : {e : ℕ} → Exploring count edges b work n h e → h < n → Sizes count edges work n h
    sizes q l =
        record {
          few = s.few;
          names = s.small;
          size = s.size;
          entries = seeking_few q.state;
          room = q.room;
          number = q.state.inside h l;
          far = (q.state.reached h l).1;
          first = (s.linked.firsts (queue_in work h) (q.state.inside h l)).small;
        }

    module _ {x v e : ℕ} (q : Following count edges b work n h x v e) where
      pub follow_room : (y : ℕ) → y < names_in edges → far_in work y ≡ 0 → n < names_in edges
      follow_room y l fresh = seeking_room q.exploring.state y l fresh

      next : (l : e < count) → NextTo (numbered count edges) x (e + 1) (link_in edges e)
      next l = subst (λ (y : ℕ). NextTo (numbered count edges) y (e + 1) (link_in edges e)) (q.here l) (s.linked.nexts e (omega arith) l)

      push : (l : e < count) → far_in work (from_in edges e) ≡ 0
          → let work' = set (set work (3 * from_in edges e + 1) v) (3 * n + 2) (from_in edges e) in Pushed (far_in work) (queue_in work) n (from_in edges e) v (far_in work') (queue_in work')
      push l fresh =
          pushed work n (from_in edges e) v (omega (arith, s.froms e l, s.small, q.exploring.room))
          (omega (arith, follow_room (from_in edges e) (s.froms e l) fresh, s.small, q.exploring.room))

      pub follow_turn : {work' : List ℕ} {r : ℕ} → e < count → Added work n (from_in edges e) v work' r
          → Following count edges b work' r h x v (link_in edges e)
      follow_turn l (known reached p k) =
          rw (p, k)
          (skip (record { state = seeking_known q.exploring.state q.entry l (q.here l ∙ sym q.number) reached; room = q.exploring.room })
          q.entry q.number q.off (next l) q.next)
      follow_turn l (new fresh p k) =
          let u = push l fresh in
          let to : to_in edges e ≡ queue_in work h = q.here l ∙ sym q.number in
          let reached = (q.exploring.state.reached h q.entry).0 in
          let pushed-state = seeking_push q.exploring.state (from_in edges e) (s.froms e l) fresh u q.entry (q.off ∙ ap (λ (y : ℕ). far_in work y + 1) (sym q.number)) l refl to in
          let is : queue_in (set (set work (3 * from_in edges e + 1) v) (3 * n + 2) (from_in edges e)) h ≡ x = u.before h q.entry ∙ q.number in
          let far_x : 0 < far_in work x = subst (λ (y : ℕ). 0 < far_in work y) q.number reached in
          rw (p, k)
          (skip
          (record {
            state = seeking_known pushed-state (omega (arith, q.entry)) l (q.here l ∙ sym is) (omega (arith, u.here, q.off));
            room = omega (arith, q.exploring.room, length-set (set work (3 * from_in edges e + 1) v) (3 * n + 2) (from_in edges e), length-set work (3 * from_in edges e + 1) v);
          })
          (omega (arith, q.entry))
          is
          (q.off ∙ ap (λ (y : ℕ). y + 1) (sym (u.others x (λ z. omega (arith, far_x, fresh, ap (far_in work) z)))))
          (next l)
          (get_or-set_other (set work (3 * from_in edges e + 1) v) (3 * n + 2) (6 * count + 2) (from_in edges e) 0 (λ z. omega (arith, follow_room (from_in edges e) (s.froms e l) fresh, s.small))
          ∙ get_or-set_other work (3 * from_in edges e + 1) (6 * count + 2) v 0 (λ z. omega arith)
          ∙ q.next))

  module _ {work work' : List ℕ} where
    pub kept_far : Kept (6 * count + 1) work work' → (x : ℕ) → x < names_in edges → far_in work' x ≡ far_in work x
    kept_far k x l = k.same (3 * x + 1) (omega (arith, s.small)) (λ y e. omega arith)

    pub kept_entries : Kept (6 * count + 3) work work' → entries_in count work' ≡ entries_in count work
    kept_entries k = k.same (6 * count + 1) (omega arith) (λ y e. omega arith)

    pub kept_next : Kept (6 * count + 3) work work' → next_in count work' ≡ next_in count work
    kept_next k = k.same (6 * count + 2) (omega arith) (λ y e. omega arith)

    pub paused_kept : {b n h : ℕ} → Exploring count edges b work n h 0 → Kept (6 * count + 1) work work' → entries_in count work' ≡ n → next_in count work' ≡ h → Paused count edges b work'
    paused_kept q k entries next =
        rw (entries, next)
        (record {
          state = seeking_same q.state (kept_far k) (λ i l. k.same (3 * i + 2) (omega (arith, s.small)) (λ y e. omega arith));
          room = omega (arith, q.room, k.size);
        })

  pub cleared : (work : List ℕ) → 7 * count + 7 ≤ length work → ((x : ℕ) → x < names_in edges → far_in work x ≡ 0)
      → Cleared count edges (set (set (set work 0 1) (6 * count + 1) 0) (6 * count + 2) 0)
  cleared work room zeros =
      record {
        begun = third 0 (λ r. omega arith) ∙ second 0 (λ r. omega arith) ∙ get_or-set_same work 0 1 0 (omega arith);
        zeros = λ x l.
            third (3 * x + 1) (λ r. omega arith) ∙ second (3 * x + 1) (λ r. omega (arith, s.small)) ∙ get_or-set_other work 0 (3 * x + 1) 1 0 (λ r. omega arith) ∙ zeros x l;
        entries = third (6 * count + 1) (λ r. omega arith) ∙ get_or-set_same one (6 * count + 1) 0 0 (omega (arith, length-set work 0 1));
        next = get_or-set_same two (6 * count + 2) 0 0 (omega (arith, length-set one (6 * count + 1) 0, length-set work 0 1));
        room = simp length-set room;
      }
    where
      one : List ℕ
      one = set work 0 1

      two : List ℕ
      two = set one (6 * count + 1) 0

      second : (p : ℕ) → (p ≡ 6 * count + 1 → ⊥) → get_or two p 0 ≡ get_or one p 0
      second p q = get_or-set_other one (6 * count + 1) p 0 0 q

      third : (p : ℕ) → (p ≡ 6 * count + 2 → ⊥) → get_or (set two (6 * count + 2) 0) p 0 ≡ get_or two p 0
      third p q = get_or-set_other two (6 * count + 2) p 0 0 q

  pub begun : {work : List ℕ} → Cleared count edges work → (b : ℕ) → b < names_in edges
      → let work' = set (set (set work (3 * b + 1) 1) 2 b) (6 * count + 1) 1 in
      Paused count edges b work' × (get_or work' 0 0 ≡ 1) × (7 * count + 7 ≤ length work')
  begun {work} c b l = (
    paused_kept
        (record {
          state = seeking_start (λ d k. (s.froms d k, s.tos d k)) l c.zeros (pushed work 0 b 1 (omega (arith, s.small, c.room)) (omega (arith, c.room)));
          room = simp length-set c.room;
        })
        (kept_set two (6 * count + 1) 1 (inr (omega arith)))
        (get_or-set_same two (6 * count + 1) 1 0 (omega (arith, length-set one 2 b, length-set work (3 * b + 1) 1, c.room)))
        (others (6 * count + 2) (λ r. omega arith) (λ r. omega arith) (λ r. omega (arith, s.small)) ∙ c.next),
    others 0 (λ r. omega arith) (λ r. omega arith) (λ r. omega arith) ∙ c.begun,
    simp length-set c.room,
  )
    where
      one : List ℕ
      one = set work (3 * b + 1) 1

      two : List ℕ
      two = set one 2 b

      others : (p : ℕ) → (p ≡ 6 * count + 1 → ⊥) → (p ≡ 2 → ⊥) → (p ≡ 3 * b + 1 → ⊥) → get_or (set two (6 * count + 1) 1) p 0 ≡ get_or work p 0
      others p u v w = get_or-set_other two (6 * count + 1) p 1 0 u ∙ get_or-set_other one 2 p b 0 v ∙ get_or-set_other work (3 * b + 1) p 1 0 w

  -- the edges to the entry that is next, from a search that stands in the slice work₀
  module _ {work₀ work : List ℕ} {n h x v e : ℕ} (p : (b : ℕ) × Paused count edges b work₀) (f : (b : ℕ) → Paused count edges b work₀ → Following count edges b work n h x v e) where
    room : 7 * count + 7 ≤ length work
    room = (f p.0 p.1).exploring.room

    pub follow_early : {until : ℕ} {work' : List ℕ} {r : ℕ} → e < count → Added work n (from_in edges e) v work' r → from_in edges e ≡ until
        → AfterEntry count edges until work₀ (set work' (6 * count + 1) r) true
    follow_early {work' = work'} {r = r} l a is =
        record {
          paused = λ b q.
              let t = follow_turn (f b q) l a in
              paused_kept (record { state = seeking_back t.exploring.state; room = t.exploring.room }) stored (get_or-set_same work' (6 * count + 1) r 0 (omega (arith, t.exploring.room)))
              (get_or-set_other work' (6 * count + 1) (6 * count + 2) r 0 (λ z. omega arith) ∙ t.next);
          found = λ _.
              subst (λ (y : ℕ). Settled count edges y (set work' (6 * count + 1) r)) is
              (marked (s.froms e l) (omega (arith, kept_far stored (from_in edges e) (s.froms e l), reached a)));
          on = λ z. absurd (let o : ◌≡◌ {A = ℕ} 0 1 = cc in omega arith);
        }
      where
        stored : Kept (6 * count + 1) work' (set work' (6 * count + 1) r)
        stored = kept_set work' (6 * count + 1) r (inr (omega arith))

        reached : Added work n (from_in edges e) v work' r → 0 < far_in work' (from_in edges e)
        reached (known q is _) = rw is q
        reached (new fresh is _) = rw is (let q = f p.0 p.1 in omega (arith, (push q l fresh).here, q.off))

    pub follow_all : {until : ℕ} → next_in count work₀ ≡ h → count ≤ e → AfterEntry count edges until work₀ (set (set work (6 * count + 1) n) (6 * count + 2) (h + 1)) false
    follow_all start l =
        record {
          paused = λ b q.
              let t = f b q in
              paused_kept (record { state = seeking_next t.exploring.state t.entry l; room = t.exploring.room }) stored
              (get_or-set_other one (6 * count + 2) (6 * count + 1) (h + 1) 0 (λ z. omega arith) ∙ get_or-set_same work (6 * count + 1) n 0 (omega (arith, room))) last;
          found = λ z. absurd (let o : ◌≡◌ {A = ℕ} 0 1 = cc in omega arith);
          on = λ _. last ∙ ap (λ (k : ℕ). k + 1) (sym start);
        }
      where
        one : List ℕ
        one = set work (6 * count + 1) n

        stored : Kept (6 * count + 1) work (set one (6 * count + 2) (h + 1))
        stored = kept_on (kept_set work (6 * count + 1) n (inr (omega arith))) (kept_set one (6 * count + 2) (h + 1) (inr (omega arith)))

        last : next_in count (set one (6 * count + 2) (h + 1)) ≡ h + 1
        last = get_or-set_same one (6 * count + 2) (h + 1) 0 (omega (arith, room, length-set work (6 * count + 1) n))

-- the hop of x, and how far each number is
hop_stores : (work : List ℕ) (x v : ℕ) → 3 * x + 3 < length work → (hop_in (set work (3 * x + 3) v) x ≡ v) × ((y : ℕ) → (y ≡ x → ⊥) → hop_in (set work (3 * x + 3) v) y ≡ hop_in work y)
hop_stores work x v l = (get_or-set_same work (3 * x + 3) v 0 l, λ y q. get_or-set_other work (3 * x + 3) (3 * y + 3) v 0 (λ r. q (omega arith)))

pub hopped_far : {count e : ℕ} {edges work work' : List ℕ} → Hopped count edges work e work' → (x : ℕ) → far_in work' x ≡ far_in work x
hopped_far h x = h.same (3 * x + 1) (λ y e. omega arith)

module _ {count : ℕ} {edges work₀ : List ℕ} where
  module _ {e k : ℕ} {work : List ℕ} (one : k ≡ e + 1) (h : Hopped count edges work₀ k work) where
    pub hopped : e < count → far_in work (from_in edges e) ≡ far_in work (to_in edges e) + 1 → 3 * from_in edges e + 3 < length work
        → Hopped count edges work₀ e (set work (3 * from_in edges e + 3) (to_in edges e))
    hopped l near fits =
        let t = hop_stores work (from_in edges e) (to_in edges e) fits in
        record {
          hops = hops_taken one h.hops l (sym (hopped_far h (from_in edges e)) ∙ near ∙ ap (λ (y : ℕ). y + 1) (hopped_far h (to_in edges e))) t.0 t.1;
          same = λ p no. get_or-set_other work (3 * from_in edges e + 3) p (to_in edges e) 0 (no (from_in edges e)) ∙ h.same p no;
          size = length-set work (3 * from_in edges e + 3) (to_in edges e) ∙ h.size;
        }

    pub unhopped : (far_in work (from_in edges e) ≡ far_in work (to_in edges e) + 1 → ⊥) → Hopped count edges work₀ e work
    unhopped apart =
        record {
          hops = hops_passed one h.hops (λ p. apart (hopped_far h (from_in edges e) ∙ p ∙ ap (λ (y : ℕ). y + 1) (sym (hopped_far h (to_in edges e)))));
          same = h.same;
          size = h.size;
        }
