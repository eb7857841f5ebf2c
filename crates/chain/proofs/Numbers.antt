-- The names of the edges, numbered one after another.
--     name_read           the two bytes of a name
--     members_kept        a table where its places are as they were
--     numbering_none      before the first name
--     numbering_more      one end of an edge more
--     tied, prepared      what the edges' ends are, and all that `prepare` makes
use Prim.Native.Nat.{ℕ, ◌+◌, ◌-◌, ◌*◌, ◌/◌, ◌%◌, max, ◌≤◌, ◌<◌}
use mathlib.Core.Path.{◌≡◌, refl, sym, ap, ◌∙◌, subst}
use mathlib.Core.Logic.{by_cases}
use mathlib.Core.List.{List}
use native.Mathlib.Omega.{arith}
use native.Mathlib.Decide.{ℕ_discrete}
use native.Mathlib.Numerals.{add-one}
use borrow.Author.Tests.{eq-eqb, ne_eqb}
use lib.ListN.{length, length-set, get_or, set}
use lib.Seq.{get_or-set_same, get_or-set_other}
use Rattle.meaning.specs.Reader.{little}
use Rattle.table.specs.Table.{Last, Members, Entered, grown}
use Rattle.meaning.specs.Chain.{Graph}
use Rattle.chain.specs.Edges.{graph_at, turn_of, turned, end_at, name_at}
use Rattle.chain.specs.declared.Direction.{Direction}
use Rattle.chain.specs.declared.Direction.TheVariants.{Forth, Back}
use Rattle.chain.specs.contracts.Direction.{the_type}
use denote.Enum.Declared.{tag_of}
use Rattle.chain.specs.Index.{names_in, name_in, from_in, to_in, end_in, Named, Numbering, Same, Tied, Linking, Prepared}
use Rattle.chain.proofs.Links.{linked_same}

pub name_read : (bytes : List ℕ) (i : ℕ) → little bytes i 2 ≡ name_at bytes i
unfolding little
name_read bytes i = rw add-one (omega arith)

pub members_kept : {t t' : List ℕ} {a b n : ℕ} → Members t a b n → ((i : ℕ) → a ≤ i → get_or t' i 0 ≡ get_or t i 0) → length t' ≡ length t → Members t' a b n
members_kept {t} {t'} {a} {b} {n} m same size =
    record {
      buckets = m.buckets;
      within = omega (arith, m.within);
      apart = λ i j l k e. m.apart i j l k (sym (same (a + b + 2 * i) (omega arith)) ∙ e ∙ same (a + b + 2 * j) (omega arith));
      heads = λ h l. rw (same (a + h) (omega arith)) (last (m.heads h l));
      links = λ k l. rw (same (a + b + 2 * k) (omega arith), same (a + b + 2 * k + 1) (omega arith)) (last (m.links k l));
    }
  where
    last : {k h v : ℕ} → Last t a b k h v → Last t' a b k h v
    last {v = v} o =
        record {
          within = o.within;
          here = λ l. rw (same (a + b + 2 * (v - 1)) (omega arith)) (o.here l);
          none = λ j l k e. o.none j l k (ap (λ (y : ℕ). y % b) (sym (same (a + b + 2 * j) (omega arith))) ∙ e);
        }

pub numbering_none : (bytes : List ℕ) (at turn : ℕ) {count : ℕ} {edges : List ℕ} → 9 * count + 257 ≤ length edges → Members edges (5 * count + 1) 256 0
    → Numbering bytes at turn 0 count edges 0
numbering_none bytes at turn l m = record { members = m; few = omega arith; ends = λ i a. absurd (omega arith); size = l }

-- one member, or as many, and the place is among them
grown_max : (n r : ℕ) → r ≤ n → grown n r ≡ max n (r + 1)
grown_max n r l =
    by_cases (ℕ_discrete r n) (λ (p : r ≡ n). rw (eq-eqb r n p) (omega arith))
    (λ (p : ¬ (r ≡ n)). rw (ne_eqb r n p) (omega arith))

-- no two ends have one place
place_apart : (i j : ℕ) → 3 * (j / 2) + j % 2 + 1 ≡ 3 * (i / 2) + i % 2 + 1 → j ≡ i
place_apart i j e = omega arith

pub numbering_more : {bytes : List ℕ} {at turn i count : ℕ} {edges : List ℕ} {m x r k : ℕ} {edges' : List ℕ}
    → Numbering bytes at turn i count edges m → i < 2 * count → x ≡ end_at bytes at turn i → Entered edges (5 * count + 1) 256 m x r edges' → k ≡ max m (r + 1)
    → Numbering bytes at turn (i + 1) count (set edges' (3 * (i / 2) + i % 2 + 1) r) k
numbering_more {bytes} {at} {turn} {i} {count} {edges} {m} {x} {r} {k} {edges'} s l is e p =
    record {
      members = rw more (members_kept e.all (λ j a. table j (omega arith)) (length-set edges' place r));
      few = omega (arith, s.few, e.within);
      ends = ends;
      size = omega (arith, length-set edges' place r, e.only.size, s.size);
    }
  where
    place : ℕ
    place = 3 * (i / 2) + i % 2 + 1

    more : k ≡ grown m r
    more = p ∙ sym (grown_max m r e.within)

    table : (j : ℕ) → 5 * count < j → get_or (set edges' place r) j 0 ≡ get_or edges' j 0
    table j a = get_or-set_other edges' place j r 0 (λ q. omega arith)

    ends : (j : ℕ) → j < i + 1 → Named count (set edges' place r) k (end_in (set edges' place r) j) (end_at bytes at turn j)
    ends j a =
        by_cases (ℕ_discrete j i)
        (λ (t : j ≡ i).
        rw (t, get_or-set_same edges' place r 0 (omega (arith, e.only.size, s.size)))
        (omega arith, table (5 * count + 1 + 256 + 2 * r) (omega arith) ∙ e.here ∙ is))
        (λ (t : ¬ (j ≡ i)).
        let o = s.ends j (omega arith) in
        rw (get_or-set_other edges' place (3 * (j / 2) + j % 2 + 1) r 0 (λ q. t (place_apart i j q)), e.only.before (3 * (j / 2) + j % 2 + 1) (omega arith))
        (omega (arith, o.0), table (5 * count + 1 + 256 + 2 * end_in edges j) (omega arith) ∙ e.old (end_in edges j) o.0 ∙ o.1))

-- how often the edges are turned, as the code has it
pub turn_is : (d : Direction) → tag_of the_type d ≡ turn_of d
turn_is Forth = refl
turn_is Back = refl

module _ {bytes : List ℕ} {at count : ℕ} {edges : List ℕ} {m : ℕ} where
  end_of : {turn : ℕ} → Numbering bytes at turn (2 * count) count edges m → (i : ℕ) → i < 2 * count → (p : ℕ) → 3 * (i / 2) + i % 2 + 1 ≡ p
      → (q : ℕ) → at + 6 * (i / 2) + 2 * ((i + turn) % 2) + 1 ≡ q → Named count edges m (get_or edges p 0) (name_at bytes q)
  end_of {turn} s i a p e q f =
      subst (λ (z : ℕ). Named count edges m (get_or edges p 0) (name_at bytes z)) f
      (subst (λ (z : ℕ). Named count edges m (get_or edges z 0) (end_at bytes at turn i)) e (s.ends i a))

  from_of : (d : Direction) → Numbering bytes at (turn_of d) (2 * count) count edges m → (e : ℕ) → e < count
      → Named count edges m (from_in edges e) ((turned (turn_of d) (graph_at bytes at count)).from e)
  from_of Forth s e l = end_of s (2 * e) (omega arith) (3 * e + 1) (omega arith) (at + 6 * e + 1) (omega arith)
  from_of Back s e l = end_of s (2 * e) (omega arith) (3 * e + 1) (omega arith) (at + 6 * e + 3) (omega arith)

  to_of : (d : Direction) → Numbering bytes at (turn_of d) (2 * count) count edges m → (e : ℕ) → e < count
      → Named count edges m (to_in edges e) ((turned (turn_of d) (graph_at bytes at count)).to e)
  to_of Forth s e l = end_of s (2 * e + 1) (omega arith) (3 * e + 2) (omega arith) (at + 6 * e + 3) (omega arith)
  to_of Back s e l = end_of s (2 * e + 1) (omega arith) (3 * e + 2) (omega arith) (at + 6 * e + 1) (omega arith)

same_count : (d : Direction) (g : Graph) → (turned (turn_of d) g).count ≡ g.count
same_count Forth g = refl
same_count Back g = refl

module _ {bytes : List ℕ} {at count : ℕ} {edges : List ℕ} {m : ℕ} (d : Direction) (s : Numbering bytes at (turn_of d) (2 * count) count edges m) where
  pub tied : {edges' : List ℕ} → count ≤ 1024 → Same count edges edges' → Tied count edges'
  tied few same =
      record {
        few = few;
        room = omega (arith, s.size, same.size);
        below = λ e l. rw (same.tos e l) (omega (arith, (to_of d s e l).0, s.few));
      }

  module _ {edges₁ edges₂ : List ℕ} (few : count ≤ 1024) (one : Same count edges edges₁) (two : Linking count edges₁ 0 edges₂) where
    last : List ℕ
    last = set edges₂ 0 m

    place : (i : ℕ) → 0 < i → get_or last i 0 ≡ get_or edges₂ i 0
    unfolding last
    place i l = get_or-set_other edges₂ 0 i m 0 (λ q. omega arith)

    number_of : names_in last ≡ m
    unfolding last
    number_of = get_or-set_same edges₂ 0 m 0 (omega (arith, s.size, one.size, two.same.size))

    froms : (e : ℕ) → e < count → from_in last e ≡ from_in edges e
    froms e l = place (3 * e + 1) (omega arith) ∙ two.same.froms e l ∙ one.froms e l

    tos : (e : ℕ) → e < count → to_in last e ≡ to_in edges e
    tos e l = place (3 * e + 2) (omega arith) ∙ two.same.tos e l ∙ one.tos e l

    table : (i : ℕ) → 5 * count + 1 ≤ i → get_or last i 0 ≡ get_or edges i 0
    table i l = place i (omega arith) ∙ two.same.table i (omega arith) ∙ one.table i (omega arith)

    size : length last ≡ length edges
    unfolding last
    size = length-set edges₂ 0 m ∙ two.same.size ∙ one.size

    -- an end of an edge and its name
    end_named : (x y name : ℕ) → x ≡ y → Named count edges m y name → (x < names_in last) × (name_in count last x ≡ name)
    end_named x y name e t = rw (e, number_of) (t.0, table (5 * count + 1 + 256 + 2 * y) (omega arith) ∙ t.1)

    pub prepared : Prepared (turned (turn_of d) (graph_at bytes at count)) count (set edges₂ 0 m)
    unfolding last
    prepared =
        record {
          index = record {
            few = few;
            size = omega (arith, size, s.size);
            small = rw number_of s.few;
            members = rw number_of (members_kept s.members table size);
            froms = λ e l. (end_named _ _ _ (froms e l) (from_of d s e l)).0;
            tos = λ e l. (end_named _ _ _ (tos e l) (to_of d s e l)).0;
            linked = linked_same two.linked refl (λ e l. place (3 * e + 2) (omega arith) ∙ two.same.tos e l) (omega (arith, number_of, s.few))
                (λ x l. place (3 * count + 1 + x) (omega arith)) (λ c l. place (3 * c + 3) (omega arith));
          };
          counted = same_count d (graph_at bytes at count);
          froms = λ e l. (end_named _ _ _ (froms e l) (from_of d s e l)).1;
          tos = λ e l. (end_named _ _ _ (tos e l) (to_of d s e l)).1;
        }
