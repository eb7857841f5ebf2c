-- Chains read off from what a search leaves.
--     measured_kept, -small, -none   where a search is as it was; no number is too far; one that is not marked has no chain once no entry is left
--     measured_open, -on             a search with an entry that is next, and after its edges were followed
--     sought                         what the hops add
--     measured_chain, -short         what is marked has a chain of as many names as it is far, and is no farther than there are edges
--     settled_for, -kept             a search that is settled for another number, or is as it was
--     filling_next                   the names along the hops, written one after another
--     from_none, from_unmarked, from_marked        the chain from a name that has no number, is not marked, or is
--     from_counted                                 and where it is not read off
--     sought_kept, lent_kept                       what was left stays where only the list changes
--     far_kept, lent_begun, lent_sought            what place 0 says of a search, and after the hops
use Prim.Native.Nat.{ℕ, zero, suc, ◌+◌, ◌-◌, ◌*◌, ◌≤◌, ◌<◌}
use mathlib.Core.Bool.{Bool, false}
use mathlib.Core.Logic.{◌⊎◌, inl, inr}
use mathlib.Core.Path.{◌≡◌, refl, sym, ap, ap₂, ◌∙◌, subst}
use mathlib.Core.List.{List, [], ◌∷◌, ◌++◌, map}
use mathlib.Core.Option
use mathlib.Core.Option.{Option, none, some}
use native.Mathlib.Omega.{arith}
use native.Mathlib.Numerals.{add-one}
use lib.ListN.{length, length-set, length-map, length-drop, length-append, get_or, set, take, drop}
use lib.Seq.{get_or-set_other, drop-set-add, take-suc-set, append_snoc, take_at, length_front, length-take-le}
use Rattle.meaning.specs.Chain.{chain_of}
use Rattle.meaning.proofs.ChainLaws.{none_from, none_to, chain_self}
use Rattle.meaning.proofs.Chains.{chain_length}
use Rattle.std.specs.Prelude.{None}
use Rattle.table.specs.Table.{PlaceOf}
use Rattle.chain.specs.Found.{Stands}
use Rattle.chain.specs.Index.{names_in, name_in, from_in, to_in, numbered, named, Indexed}
use Rattle.chain.proofs.Named.{f, name_of, chain_named}
use Rattle.search.specs.Work.{far_in, hop_in, entries_in, next_in, list_in, along, Paused, Hopped, Below, Measured, nowhere, at, Settled, marked, over, Sought, Lent, IfWanted}
use Rattle.search.proofs.Breadth.{Far, seeking_far, seeking_none}
use Rattle.search.proofs.Distances.{hop_on, chain_along, chain_no, chain_size}
use Rattle.search.proofs.Turns.{Kept, kept_set, kept_less, kept_list, kept_far, kept_entries, kept_next, paused_kept, hopped_far}
use Rattle.search.proofs.Wanted.{wanted_not}

module _ {m : ℕ} {far hop : ℕ → ℕ} (on : (x k : ℕ) → x < m → far x ≡ suc (suc k) → (hop x < m) × (far (hop x) ≡ suc k)) where
  -- functions that are one on the numbers name them alike
  map_along : (p q : ℕ → ℕ) → ((x : ℕ) → x < m → p x ≡ q x) → (k x : ℕ) → x < m → far x ≡ suc k → map p (along hop k x) ≡ map q (along hop k x)
  unfolding along
  map_along p q same zero x l e = ap (λ (y : ℕ). y ∷ []) (same x l)
  map_along p q same (suc k) x l e = let t = on x k l e in ap₂ ◌∷◌ (same x l) (map_along p q same k (hop x) t.0 t.1)

  -- so do hops
  along_same : (hop' : ℕ → ℕ) → ((x : ℕ) → x < m → hop' x ≡ hop x) → (k x : ℕ) → x < m → far x ≡ suc k → along hop' k x ≡ along hop k x
  unfolding along
  along_same hop' same zero x l e = refl
  along_same hop' same (suc k) x l e =
      let t = on x k l e in
      ap (λ (ys : List ℕ). x ∷ ys) (ap (along hop' k) (same x l) ∙ along_same hop' same k (hop x) t.0 t.1)

-- i of n names are written, and y is the number of the next
pub record Filling (count : ℕ) (edges work₀ : List ℕ) (x n : ℕ) (work : List ℕ) (y i : ℕ) : Type 0 where
  pub within : i ≤ n
  pub inside : i < n → (y < names_in edges) × (far_in work₀ y + i ≡ n)
  pub below : Below count work₀ work
  pub left : (j k : ℕ) → n ≡ suc j → n ≡ i + suc k
      → take i (list_in count work) ++ map (name_in count edges) (along (hop_in work₀) k y) ≡ map (name_in count edges) (along (hop_in work₀) j x)
  pub done : (j : ℕ) → n ≡ suc j → n ≡ i → take i (list_in count work) ≡ map (name_in count edges) (along (hop_in work₀) j x)

-- a store into place 0 leaves it as far
pub far_kept : (work : List ℕ) (v x : ℕ) → far_in (set work 0 v) x ≡ far_in work x
far_kept work v x = get_or-set_other work 0 (3 * x + 1) v 0 (λ r. omega arith)

module _ {count : ℕ} {edges : List ℕ} (s : Indexed count edges) where
  ends : (d : ℕ) → d < count → (from_in edges d < names_in edges) × (to_in edges d < names_in edges)
  ends d l = (s.froms d l, s.tos d l)

  pub measured_kept : {to : ℕ} {work work' : List ℕ} → Measured count edges to work → Kept (6 * count + 3) work work' → Measured count edges to work'
  measured_kept (nowhere absent zeros left) k =
      nowhere absent (λ x l. kept_far s (kept_less (omega arith) k) x l ∙ zeros x l) (omega (arith, kept_entries s k, kept_next s k))
  measured_kept (at b is p) k = at b is (paused_kept s p (kept_less (omega arith) k) (kept_entries s k) (kept_next s k))

  pub measured_small : {to : ℕ} {work : List ℕ} → Measured count edges to work → (x : ℕ) → x < names_in edges → far_in work x ≤ 2048
  measured_small (nowhere absent zeros left) x l = omega (arith, zeros x l)
  measured_small (at b is p) x l = omega (arith, (seeking_far p.state).small x l, s.small, s.few)

  module _ {to : ℕ} {work : List ℕ} where
    pub measured_open : Measured count edges to work → next_in count work < entries_in count work → (b : ℕ) × Paused count edges b work
    measured_open (nowhere absent zeros left) l = absurd (omega arith)
    measured_open (at b is p) l = (b, p)

    pub measured_on : {work' : List ℕ} → next_in count work < entries_in count work → ((b : ℕ) → Paused count edges b work → Paused count edges b work') → Measured count edges to work → Measured count edges to work'
    measured_on l on (nowhere absent zeros left) = absurd (omega arith)
    measured_on l on (at b is p) = at b is (on b p)

  module _ (small : (i : ℕ) → get_or edges i 0 < 65536) where
    chain_is : {b to : ℕ} → b < names_in edges → name_in count edges b ≡ to → (x : ℕ) → x < names_in edges
        → chain_of (named count edges) (name_in count edges x) to ≡ Option.map (map (f s small)) (chain_of (numbered count edges) x b)
    chain_is {b} inside is x l = ap (chain_of (named count edges) (name_in count edges x)) (sym is) ∙ chain_named s small x b l inside

    measured_none : {to : ℕ} {work : List ℕ} → Measured count edges to work → entries_in count work ≤ next_in count work → (x : ℕ) → x < names_in edges → far_in work x ≡ 0
        → chain_of (named count edges) (name_in count edges x) to ≡ none
    measured_none {to} (nowhere absent zeros _) all x l e = none_to (named count edges) (name_in count edges x) to (λ d k. absent (to_in edges d) (s.tos d k)) (absent x l)
    measured_none (at b is p) all x l e =
        chain_is p.state.target.0 is x l
        ∙ ap (Option.map (map (f s small))) (chain_no (numbered count edges) x b (seeking_none p.state all x l e))

    measured_chain : {to : ℕ} {work : List ℕ} → Measured count edges to work → (x : ℕ) → x < names_in edges → 0 < far_in work x
        → (names : List ℕ) × (chain_of (named count edges) (name_in count edges x) to ≡ some names) × (length names ≡ far_in work x)
    measured_chain (nowhere absent zeros _) x l e = absurd (omega (arith, zeros x l))
    measured_chain (at b is p) x l e =
        let t = chain_size ends (seeking_far p.state) x l e in
        (map (f s small) t.0, chain_is p.state.target.0 is x l ∙ ap (Option.map (map (f s small))) t.1, length-map t.0 (f s small) ∙ t.2)

    pub measured_short : {to : ℕ} {work : List ℕ} → Measured count edges to work → (x : ℕ) → x < names_in edges → 0 < far_in work x → far_in work x ≤ count + 1
    measured_short {to} q x l e = let t = measured_chain q x l e in omega (arith, t.2, chain_length (named count edges) (name_in count edges x) to t.0 t.1)

    module _ {work work' : List ℕ} (hops : Hopped count edges work 0 work') where
      same : (x : ℕ) → far_in work x ≡ far_in work' x
      same x = sym (hopped_far hops x)

      on : {b : ℕ} → Far (numbered count edges) b (names_in edges) (far_in work) → (x k : ℕ) → x < names_in edges → far_in work' x ≡ suc (suc k)
          → (hop_in work' x < names_in edges) × (far_in work' (hop_in work' x) ≡ suc k)
      on far x k l e = let t = hop_on ends far (hop_in work') hops.hops x k l (same x ∙ e) in (t.0, hopped_far hops (hop_in work' x) ∙ t.1)

      pub sought : {to : ℕ} → Measured count edges to work → Sought count edges to work'
      sought (nowhere absent zeros _) =
          record {
            some = λ x k l e. absurd (omega (arith, same x, zeros x l));
            on = λ x k l e. absurd (omega (arith, same x, zeros x l));
          }
      sought (at b is p) =
          let far = seeking_far p.state in
          record {
            some = λ x k l e.
                chain_is p.state.target.0 is x l ∙ ap (Option.map (map (f s small))) (chain_along ends far (hop_in work') hops.hops k x l (same x ∙ e))
                ∙ ap {B = Option (List ℕ)} some (map_along (on far) (f s small) (name_in count edges) (name_of s small) k x l e);
            on = on far;
          }

  module _ {to : ℕ} {work : List ℕ} (q : Sought count edges to work) where
    sought_kept : {work' : List ℕ} → ((i : ℕ) → 0 < i → i < 6 * count + 3 → get_or work' i 0 ≡ get_or work i 0) → Sought count edges to work'
    sought_kept {work'} same =
        record {
          some = λ x k l e.
              q.some x k l (far x l ∙ e)
              ∙ ap {B = Option (List ℕ)} (λ (ys : List ℕ). some (map (name_in count edges) ys)) (sym (along_same q.on (hop_in work') hop k x l (far x l ∙ e)));
          on = λ x k l e.
              let t = q.on x k l (far x l ∙ e) in
              rw (hop x l) (t.0, sym (far (hop_in work x) t.0) ∙ t.1);
        }
      where
        far : (x : ℕ) → x < names_in edges → far_in work x ≡ far_in work' x
        far x l = sym (same (3 * x + 1) (omega arith) (omega (arith, s.small)))

        hop : (x : ℕ) → x < names_in edges → hop_in work' x ≡ hop_in work x
        hop x l = same (3 * x + 3) (omega arith) (omega (arith, s.small))

  pub lent_kept : {to : ℕ} {work work' : List ℕ} → Lent count edges to work → Below count work work' → Lent count edges to work'
  lent_kept l b =
      let first = b.same 0 (omega arith) in
      record {
        room = omega (arith, l.room, b.size);
        sought = λ made.
            let t = l.sought (λ e. made (first ∙ e)) in
            (measured_kept t.0 (kept_list b), λ more. sought_kept (t.1 (omega (arith, first))) (λ i _ k. b.same i k));
      }

  pub lent_begun : {to : ℕ} {work : List ℕ} → 7 * count + 7 ≤ length work → get_or work 0 0 ≡ 1 → Measured count edges to work → Lent count edges to work × (get_or work 0 0 ≡ 0 → ⊥)
  lent_begun room one q = (record { room = room; sought = λ _. (q, λ more. absurd (omega arith)) }, λ e. omega arith)

  pub lent_sought : {to : ℕ} (work : List ℕ) → 7 * count + 7 ≤ length work → Measured count edges to work → Sought count edges to work → Sought count edges to (set work 0 2) × Lent count edges to (set work 0 2)
  lent_sought {to} work room m q =
      let q' : Sought count edges to (set work 0 2) = sought_kept q (λ i l _. get_or-set_other work 0 i 2 0 (λ r. omega arith)) in
      (q', record { room = omega (arith, length-set work 0 2); sought = λ _. (measured_kept m (kept_set work 0 2 (inl refl)), λ _. q') })

  module _ {work₀ : List ℕ} {x n : ℕ} (room : 7 * count + 7 ≤ length work₀) (short : n ≤ count + 1) where
    module _ {to : ℕ} (sought : Sought count edges to work₀) {work : List ℕ} {y i : ℕ} (l : i < n) (s₀ : Filling count edges work₀ x n work y i) where
      name : ℕ
      name = name_in count edges y

      written : list_in count (set work (6 * count + 3 + i) name) ≡ set (list_in count work) i name
      written = drop-set-add (6 * count + 3) work i name

      fits : i < length (list_in count work)
      fits = omega (arith, length-drop (6 * count + 3) work, s₀.below.size)

      one_more : take (i + 1) (list_in count (set work (6 * count + 3 + i) name)) ≡ take i (list_in count work) ++ name ∷ []
      one_more = rw (add-one i, written) (take-suc-set (list_in count work) i name fits)

      below : Below count work₀ (set work (6 * count + 3 + i) name)
      below =
          record {
            same = λ p a. get_or-set_other work (6 * count + 3 + i) p name 0 (λ r. omega arith) ∙ s₀.below.same p a;
            size = length-set work (6 * count + 3 + i) name ∙ s₀.below.size;
          }

      next : hop_in (set work (6 * count + 3 + i) name) y ≡ hop_in work₀ y
      next = below.same (3 * y + 3) (omega (arith, (s₀.inside l).0, s.small))

      pub filling_next : Filling count edges work₀ x n (set work (6 * count + 3 + i) (name_in count edges y)) (hop_in (set work (6 * count + 3 + i) (name_in count edges y)) y) (i + 1)
      unfolding name along
      filling_next =
          record {
            within = omega arith;
            inside = λ more.
                let t = s₀.inside l in
                let u = sought.on y (n - i - 2) t.0 (omega (arith, t.1)) in
                rw next (u.0, omega (arith, u.1));
            below = below;
            left = λ j k p q.
                rw (next, one_more)
                (append_snoc (take i (list_in count work)) name (map (name_in count edges) (along (hop_in work₀) k (hop_in work₀ y))) ∙ s₀.left j (suc k) p (omega arith));
            done = λ j p q. one_more ∙ s₀.left j 0 p (omega arith);
          }

  -- a name that has no number
  pub from_none : {from to : ℕ} → PlaceOf edges (5 * count + 1) 256 (names_in edges) from None → (from ≡ to → ⊥) → chain_of (named count edges) from to ≡ none
  from_none {from} {to} out ne = none_from (named count edges) from to (λ d k e. out (from_in edges d) (s.froms d k) e) ne

  pub settled_for : {until x : ℕ} {work : List ℕ} → (until ≡ x) ⊎ (names_in edges ≤ until) → Settled count edges until work → Settled count edges x work
  settled_for {work = work} (inl e) q = subst (λ (y : ℕ). Settled count edges y work) e q
  settled_for (inr l) (marked a _) = absurd (omega arith)
  settled_for (inr l) (over q) = over q

  pub settled_kept : {x : ℕ} {work work' : List ℕ} → Settled count edges x work → Kept (6 * count + 3) work work' → Settled count edges x work'
  settled_kept {x} (marked l e) k = marked l (omega (arith, kept_far s (kept_less (omega arith) k) x l))
  settled_kept (over l) k = over (omega (arith, kept_entries s k, kept_next s k))

  module _ {to x : ℕ} (l : x < names_in edges) {work : List ℕ} where
    pub from_unmarked : ((i : ℕ) → get_or edges i 0 < 65536) → Measured count edges to work → Settled count edges x work → far_in work x ≡ 0
        → chain_of (named count edges) (name_in count edges x) to ≡ none
    from_unmarked small q (marked _ a) e = absurd (omega arith)
    from_unmarked small q (over a) e = measured_none small q a x l e

    pub from_marked : Sought count edges to work → (work' : List ℕ) {n : ℕ} → (n ≡ 0 → ⊥) → far_in work x ≡ n → n ≤ count + 1 → 7 * count + 7 ≤ length work'
        → ((k : ℕ) → n ≡ suc k → take n (list_in count work') ≡ map (name_in count edges) (along (hop_in work) k x))
        → Stands (chain_of (named count edges) (name_in count edges x) to) (list_in count work') n
    from_marked q work' {n} ne e short room names =
        let p : n ≡ suc (n - 1) = omega arith in
        record {
          is = q.some x (n - 1) l (e ∙ p) ∙ ap {B = Option (List ℕ)} some (sym (names (n - 1) p));
          short = omega (arith, s.few);
          room = omega (arith, length-drop (6 * count + 3) work');
        }

    pub from_counted : ((i : ℕ) → get_or edges i 0 < 65536) → Measured count edges to work → {n : ℕ} → (n ≡ 0 → ⊥) → far_in work x ≡ n → 7 * count + 7 ≤ length work
        → {wanted : Bool} → wanted ≡ false → IfWanted wanted (list_in count work) (λ list. Stands (chain_of (named count edges) (name_in count edges x) to) list n)
    from_counted small q {n} ne e room w =
        let t = measured_chain small q x l (omega arith) in
        let size : length t.0 ≡ n = t.2 ∙ e in
        let short = measured_short small q x l (omega arith) in
        let fits : n ≤ length (list_in count work) = omega (arith, length-drop (6 * count + 3) work) in
        wanted_not w (t.0 ++ drop n (list_in count work)) (length_front (list_in count work) t.0 n (size ∙ sym (length-take-le n (list_in count work) fits)))
        (record {
          is = t.1 ∙ ap {B = Option (List ℕ)} some (sym (take_at t.0 (drop n (list_in count work)) n size));
          short = omega (arith, s.few);
          room = omega (arith, length-append t.0 (drop n (list_in count work)));
        })

  -- one name in the list
  module _ (work : List ℕ) (a : ℕ) (room : 7 * count + 7 ≤ length work) where
    pub alone_below : Below count work (set work (6 * count + 3) a)
    alone_below = record { same = λ p l. get_or-set_other work (6 * count + 3) p a 0 (λ r. omega arith); size = length-set work (6 * count + 3) a }

    pub alone_stands : Stands (chain_of (named count edges) a a) (list_in count (set work (6 * count + 3) a)) 1
    alone_stands =
        let first : 6 * count + 3 ≡ 6 * count + 3 + 0 = omega arith in
        record {
          is = chain_self (named count edges) a ∙ ap {B = Option (List ℕ)} some (sym (ap (λ (p : ℕ). take 1 (list_in count (set work p a))) first ∙ ap (take 1) (drop-set-add (6 * count + 3) work 0 a) ∙ take-suc-set (list_in count work) 0 a (omega (arith, length-drop (6 * count + 3) work))));
          short = omega arith;
          room = omega (arith, length-drop (6 * count + 3) (set work (6 * count + 3) a), length-set work (6 * count + 3) a);
        }
