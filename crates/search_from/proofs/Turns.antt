-- A search from a number in the slice that it is lent, turn by turn.
--     start                          the first entry
--     follow_start, -turn, -end      the edges from an entry, one after another
--     follow_found                   one that leads to the number that is looked for
--     bounds, entries_few, follow_room      what the places that are read and written hang on
--     explored                       no edge is left
use Prim.Native.Nat.{ℕ, ◌+◌, ◌*◌, ◌≤◌, ◌<◌}
use mathlib.Core.Path.{◌≡◌, refl, sym, ap, ◌∙◌, subst}
use mathlib.Core.List.{List}
use native.Mathlib.Omega.{arith}
use lib.ListN.{length}
use Rattle.chain.specs.Index.{names_in, from_in, to_in, link_in, first_in, numbered, NextTo, Indexed}
use Rattle.search_from.specs.Queue.{Marked, Onward, on, over}
use Rattle.search_from.specs.declared.Place.{Place}
use Rattle.search_from.specs.Work.{long_in, entry_in, before_in, unturned, Exploring, AfterEntry, Explored, Added, known, new}
use Rattle.search_from.proofs.Steps.{searching_start, searching_few, searching_room, searching_push, searching_known, searching_skip, searching_next, searching_over, searching_gone}

-- the edges from entry h, which is x, are followed up to edge e; what is marked from x gets a chain of v names
pub record Following (count : ℕ) (edges : List ℕ) (a : ℕ) (work : List Place) (n h x v e : ℕ) : Type 0 where
  pub exploring : Exploring count edges a work n h e
  pub entry : h < n
  pub number : entry_in work h ≡ x
  pub size : v ≡ long_in work x + 1
  pub here : e < count → to_in edges e ≡ x

-- what the places that are read and written hang on, while the edges from entry h are followed
pub record Bounds (count : ℕ) (edges : List ℕ) (work : List Place) (n h : ℕ) : Type 0 where
  pub few : count ≤ 1024
  pub names : names_in edges ≤ 2 * count
  pub size : 9 * count + 257 ≤ length edges
  pub entries : n ≤ names_in edges
  pub room : 2 * count + 1 ≤ length work
  pub number : entry_in work h < names_in edges
  pub long : long_in work (entry_in work h) ≤ h + 1
  pub first : first_in count edges (entry_in work h) ≤ count

module _ {count : ℕ} {edges : List ℕ} (s : Indexed count edges) where
  pub entries_few : {a n h e : ℕ} {work : List Place} → Exploring count edges a work n h e → n ≤ names_in edges
  entries_few q = searching_few q.state

  pub bounds : {a n h e : ℕ} {work : List Place} → Exploring count edges a work n h e → h < n → Bounds count edges work n h
  bounds {h = h} {work = work} q l =
      record {
        few = s.few;
        names = s.small;
        size = s.size;
        entries = entries_few q;
        room = q.room;
        number = q.state.inside h l;
        long = omega (arith, q.state.marked h l, q.state.short h l);
        first = (s.linked.firsts (entry_in work h) (q.state.inside h l)).small;
      }

  -- on to the next edge from x
  skip : {a n h x v e f : ℕ} {work : List Place} → Exploring count edges a work n h e → h < n → entry_in work h ≡ x → v ≡ long_in work x + 1
      → NextTo (numbered count edges) x e f → Following count edges a work n h x v f
  skip {f = f} q l number size next =
      record {
        exploring = record { state = searching_skip q.state f l next.past (λ d a b c r. next.none d a b c (r ∙ number)); room = q.room };
        entry = l;
        number = number;
        size = size;
        here = next.here;
      }

  pub follow_start : {a n h : ℕ} {work : List Place} → Exploring count edges a work n h 0 → h < n
      → Following count edges a work n h (entry_in work h) (long_in work (entry_in work h) + 1) (first_in count edges (entry_in work h))
  follow_start {h = h} {work = work} q l = skip q l refl refl (s.linked.firsts (entry_in work h) (q.state.inside h l))

  module _ {a n h x v e : ℕ} {work : List Place} (f : Following count edges a work n h x v e) (l : e < count) where
    next : NextTo (numbered count edges) x (e + 1) (link_in edges e)
    next = subst (λ (z : ℕ). NextTo (numbered count edges) z (e + 1) (link_in edges e)) (f.here l) (s.linked.nexts e (omega arith) l)

    from : to_in edges e ≡ entry_in work h
    from = f.here l ∙ sym f.number

    pub follow_room : long_in work (from_in edges e) ≡ 0 → n < names_in edges
    follow_room fresh = searching_room f.exploring.state (from_in edges e) (s.froms e l) fresh

    -- the edge leads to a number that was not marked and is marked now
    module _ (work' : List Place) (fresh : long_in work (from_in edges e) ≡ 0)
        (marked : Marked (long_in work) (entry_in work) (before_in work) n (from_in edges e) x v (long_in work') (entry_in work') (before_in work'))
        (same : length work' ≡ length work) where
      room : 2 * count + 1 ≤ length work'
      room = omega (arith, same, f.exploring.room)

      -- x is marked, and so it is another number
      size : v ≡ long_in work' x + 1
      size =
          f.size
          ∙ ap (λ (k : ℕ). k + 1) (sym (marked.others x (λ p. omega (arith, ap (long_in work) p, ap (long_in work) f.number, f.exploring.state.marked h f.entry))))

      turned_over : AfterEntry count edges a (from_in edges e) work' (n + 1) h
      turned_over =
          let t = searching_over f.exploring.state marked f.entry f.number f.size l from refl fresh in
          record { after = over t.0 t.1; room = room }

      one_more : Following count edges a work' (n + 1) h x v (link_in edges e)
      one_more =
          skip (record { state = searching_push f.exploring.state marked f.entry f.number f.size l from refl fresh; room = room })
          (omega (arith, f.entry)) (marked.old h f.entry ∙ f.number) size next

    module _ {to r : ℕ} {work' : List Place} (unmarked : long_in work to ≡ 0) where
      pub follow_found : from_in edges e ≡ to → Added work n (from_in edges e) x v work' r → AfterEntry count edges a to work' r h
      follow_found is (known p q k) = absurd (omega (arith, ap (long_in work) is))
      follow_found is (new p m q k) = rw k (subst (λ (z : ℕ). AfterEntry count edges a z work' (n + 1) h) is (turned_over work' p m q))

      pub follow_turn : (from_in edges e ≡ to → ⊥) → Added work n (from_in edges e) x v work' r
          → Following count edges a work' r h x v (link_in edges e) × (long_in work' to ≡ 0)
      follow_turn ne (known p q k) =
          rw (q, k)
          (skip (record { state = searching_known f.exploring.state f.entry p; room = f.exploring.room }) f.entry f.number f.size next, unmarked)
      follow_turn ne (new p m q k) = (rw k (one_more work' p m q), m.others to (λ z. ne (sym z)) ∙ unmarked)

  pub follow_end : {a to n h x v e : ℕ} {work : List Place} → Following count edges a work n h x v e → count ≤ e → long_in work to ≡ 0 → AfterEntry count edges a to work n h
  follow_end f all fresh = record { after = on fresh (searching_next f.exploring.state f.entry all); room = f.exploring.room }

  -- the first entry is marked
  pub start : {work work' : List Place} {a r : ℕ} → a < names_in edges → 2 * count + 1 ≤ length work → ((x : ℕ) → long_in work x ≡ 0)
      → Added work 0 a a 1 work' r → Exploring count edges a work' r 0 0 × ((to : ℕ) → (a ≡ to → ⊥) → long_in work' to ≡ 0)
  start {a = a} l small zeros (known p q k) = absurd (omega (arith, zeros a))
  start {a = a} l small zeros (new p m q k) = (
    rw k
        (record {
          state = searching_start (λ d k. (s.tos d k, s.froms d k)) l m.here (λ x ne. m.others x ne ∙ zeros x) m.last;
          room = omega (arith, q);
        }),
    λ to ne. m.others to (λ r. ne (sym r)) ∙ zeros to,
  )

  -- the edges of every entry are followed
  pub explored : {a to n h : ℕ} {work : List Place} → Exploring count edges a work n h 0 → n ≤ h → long_in work to ≡ 0 → Explored count edges a to work n
  explored {to = to} q l fresh = record { over = searching_gone q.state l to fresh }

-- what following the edges of an entry came to
pub followed_over : {count : ℕ} {edges : List ℕ} {a to n h : ℕ} {work : List Place} → AfterEntry count edges a to work n h → (long_in work to ≡ 0 → ⊥) → Explored count edges a to work (h + 1)
followed_over {count} {edges} {a} {to} {n} {h} {work} f marked = go f.after
  where
    go : Onward (unturned count edges) a to (names_in edges) (long_in work) (entry_in work) (before_in work) n h → Explored count edges a to work (h + 1)
    go (on p s) = absurd (marked p)
    go (over p o) = record { over = o }
