-- The structs are noted one after the other, each behind the parts of those before it.
--     room_for, below_room   there is room for one more part, and for the references behind all of them
--     below_none, -struct, -next    the walk over the definitions
--     table_stays     what is said of the definitions stays
use Prim.Native.Nat.{ℕ, zero, suc, ◌+◌, ◌-◌, ◌*◌, ◌≤◌, ◌<◌}
use mathlib.Core.Path.{◌≡◌, refl, sym, ap, ap₂, ◌∙◌}
use mathlib.Core.Logic.{by_cases}
use mathlib.Core.Option.{none}
use mathlib.Core.List.{List, []}
use native.Mathlib.Omega.{arith}
use native.Mathlib.Decide.{dec_lt}
use lib.ListN.{length, length-set, length-drop, get_or, set, take, drop}
use lib.Seq.{get_or-set_same, get_or-set_other, get_or-drop}
use Rattle.meaning.specs.Lookup.{list_of, as_struct}
use Rattle.meaning.specs.Tree.{Ty, primitive, type_ref, struct, union, enum, array, size_union}
use Rattle.names.specs.Names.{inserts}
use Rattle.bundle.specs.Definitions.{type_at, bundle_of, Table, places_end, definition_names, names_at, firsts_at, table_at, buckets}
use Rattle.bundle.proofs.NameLaws.{table_few}
use Rattle.bundle.proofs.LookupLaws.{place_ends}
use Rattle.sizes.specs.Scan.{references_from}
use Rattle.sizes.proofs.ReferenceLaws.{type_bound}
use Rattle.bundle.proofs.Parts.{members_none, members_length}
use Rattle.fields.specs.declared.Shape.{Shape}
use Rattle.fields.specs.declared.Shape.TheVariants as shape
use Rattle.fields.proofs.ShapeLaws.{shape_other}
use Rattle.fields.specs.Shapes.{StructAt, ShapeOf}
use Rattle.table.specs.Table.{Within}
use Rattle.table.proofs.Buckets.{members_same}
use Rattle.field_index.specs.Noted.{starts_at, parts_at, part_start, NotedPart, NotedFor, leads_of, LeadsTo, struct_fields, fields_at, references_of, references_to, end_before, NotedBelow, Front}
use Rattle.field_index.proofs.Walking.{fields, for_same, leads_same}
use Rattle.field_index.proofs.Widths.{place_next, struct_wide}

-- what is no struct has no fields
no_fields : (t : Ty) → as_struct t ≡ none → struct_fields t ≡ []
no_fields (primitive k) e = refl
no_fields (type_ref n) e = refl
no_fields (struct a ms) e = let z : ◌≡◌ {A = ℕ} 0 1 = cc in absurd (omega arith)
no_fields (union a ms) e = refl
no_fields (enum a tag ms) e = refl
no_fields (array a jagged size element) e = refl
no_fields (size_union a ms) e = refl

pub shape_fields_lem : (at : ℕ) (s : List ℕ) (r : Shape) → ((n : ℕ) → r ≡ shape.Struct n → ⊥) → ShapeOf 24 s at r → struct_fields (type_at 24 s at) ≡ []
shape_fields_lem at s r o g = no_fields (type_at 24 s at) (shape_other 24 at s r o g)

pub struct_fields_lem : (at : ℕ) (s : List ℕ) {n : ℕ} → StructAt 24 s at n → struct_fields (type_at 24 s at) ≡ fields s (at + 12) n
struct_fields_lem at s g = rw g.tree refl

pub struct_empty : (at : ℕ) (s : List ℕ) {n : ℕ} → StructAt 24 s at n → n ≡ 0 → struct_fields (type_at 24 s at) ≡ []
struct_empty at s {n} g z = struct_fields_lem at s g ∙ ap list_of (members_none 23 0x50 s n (at + 12) z)

module _ {s : List ℕ} {count : ℕ} {places : List ℕ} (t : Table s count places) {i : ℕ} (l : i < count) {used : ℕ} (o : NotedBelow s places i used) where
  pub few : i < 256
  few = omega (arith, t.count, t.placed.room)

  so_far : 2 * used + 6 * references_to s places i ≤ 2 * parts_at + 3 * get_or places i 0
  so_far = omega (arith, o.room, ended i)
    where
      ended : (i : ℕ) → end_before places i ≤ get_or places i 0
      ended zero = omega arith
      ended (suc i) = omega arith

  pub room_for : {n : ℕ} → StructAt 24 s (get_or places i 0) n → (used + 2 + 6 * n ≤ length places) × (used + 2 + 6 * n < 65536)
  room_for g = let h = struct_wide t l g in (omega (arith, h.1, so_far, o.size), omega (arith, h.1, so_far, o.short))

  -- the places before those used stay, but for where the part of definition i starts
  module _ (u : List ℕ) (long : length u ≡ length places) (same : (j : ℕ) → j < used → (j ≡ starts_at + i → ⊥) → get_or u j 0 ≡ get_or places j 0) where
    below : (j : ℕ) → j < starts_at → get_or u j 0 ≡ get_or places j 0
    below j c = same j (omega (arith, o.below.from)) (λ z. omega (arith, z))

    fields_stay : (j : ℕ) → j < starts_at → fields_at s u j ≡ fields_at s places j
    fields_stay j c = ap (λ a. struct_fields (type_at 24 s a)) (below j c)

    -- as many references
    references_stay : (j : ℕ) → j < starts_at → references_to s u j ≡ references_to s places j
    references_stay zero c = refl
    references_stay (suc j) c =
        ap₂ ◌+◌ (references_stay j (omega arith))
        (ap length (ap₂ (λ x y. references_from s x (y - 3)) (below j (omega arith)) (below (j + 1) (omega arith))))

    -- a part before those used, and what is in it
    part_stays : (j : ℕ) → j < i → part_start u j ≡ part_start places j
    part_stays j c = same (starts_at + j) (omega (arith, few, o.below.from)) (λ z. omega (arith, z))

    inside_stays : (j : ℕ) → j < i → 0 < part_start places j → (k : ℕ) → part_start places j ≤ k → k < part_start places j + 2 + 6 * length (fields_at s places j) → get_or u k 0 ≡ get_or places k 0
    inside_stays j c a k b d = let q = o.below.parts j c a in same k (omega (arith, q.1)) (λ z. omega (arith, z, few, q.0))

    kept : (j : ℕ) → j < i → NotedFor (fields_at s u j) u (part_start u j)
    kept j c = rw (fields_stay j (omega (arith, few)), part_stays j c) (for_same (fields_at s places j) places u (part_start places j) (inside_stays j c) (omega (arith, long)) (o.below.noted.each j c))

    leads_kept : (j : ℕ) → j < i → 0 < part_start u j → LeadsTo (leads_of (bundle_of s) (fields_at s u j)) u (part_start u j) (length (fields_at s u j)) (length (fields_at s u j))
    leads_kept j c = rw (fields_stay j (omega (arith, few)), part_stays j c) (leads_same (fields_at s places j) places u (part_start places j) (inside_stays j c) (leads_of (bundle_of s) (fields_at s places j)) (o.below.noted.leads j c))

    -- the fields of definition i are noted up to a place
    pub below_next : {used' : ℕ} → NotedFor (fields_at s places i) u (part_start u i)
        → (0 < part_start u i → LeadsTo (leads_of (bundle_of s) (fields_at s places i)) u (part_start u i) (length (fields_at s places i)) (length (fields_at s places i)))
        → 4 * length (fields_at s places i) ≤ length s → used ≤ used' → 2 * used' + 6 * (references_to s places i + length (references_of s places i)) ≤ 2 * parts_at + 3 * get_or places (i + 1) 0
        → (0 < part_start u i → (parts_at ≤ part_start u i) × (part_start u i + 2 + 6 * length (fields_at s places i) ≤ used'))
        → NotedBelow s u (i + 1) used' × Front places u
    below_next {used'} here leads small more room part = (
      record {
        below = record {
          noted = record {
            size = omega (arith, long, o.below.noted.size);
            each = λ j c.
                by_cases (dec_lt j i) (kept j)
                (λ (n : ¬ (j < i)). let z : j ≡ i = omega arith in rw (z, fields_stay i (omega (arith, few))) here);
            leads = λ j c.
                by_cases (dec_lt j i) (leads_kept j)
                (λ (n : ¬ (j < i)). let z : j ≡ i = omega arith in rw (z, fields_stay i (omega (arith, few))) leads);
            few = λ j c.
                rw (fields_stay j (omega (arith, few)))
                (by_cases (dec_lt j i) (o.below.noted.few j) (λ (n : ¬ (j < i)). let z : j ≡ i = omega arith in rw z small));
          };
          from = omega (arith, o.below.from);
          parts = λ j c.
              by_cases (dec_lt j i)
              (λ (b : j < i). λ a.
              let e = part_stays j b in
              let q = o.below.parts j b (omega (arith, a, e)) in
              (omega (arith, q.0, e), rw (fields_stay j (omega (arith, few))) (omega (arith, q.1, e))))
              (λ (b : ¬ (j < i)). let z : j ≡ i = omega arith in rw (z, fields_stay i (omega (arith, few))) part);
        };
        room =
            let next : i + 1 ≡ suc i = omega arith in
            omega (arith, room, below (i + 1) (omega (arith, few)), ap (end_before u) next, ap (λ n. get_or u n 0) next, ap (references_to s u) next, references_stay (suc i) (omega (arith, few)));
        size = omega (arith, long, o.size);
        short = o.short;
      },
      record { size = long; same = below },
    )

  -- the definition has no fields
  pub below_none : fields_at s places i ≡ [] → NotedBelow s (set places (starts_at + i) 0) (i + 1) used × Front places (set places (starts_at + i) 0)
  below_none e =
      let there : starts_at + i < length places = omega (arith, few, o.below.noted.size) in
      let here : get_or (set places (starts_at + i) 0) (starts_at + i) 0 ≡ 0 = get_or-set_same places (starts_at + i) 0 0 there in
      below_next (set places (starts_at + i) 0) (length-set places (starts_at + i) 0) (λ j c ne. get_or-set_other places (starts_at + i) j 0 0 ne)
      (rw here (record { none = λ _. e; part = λ c. absurd (omega arith) })) (λ c. absurd (omega (arith, here, c)))
      (omega (arith, ap length e)) (omega arith) (omega (arith, so_far, place_next t l)) (λ c. absurd (omega (arith, here, c)))

  -- it is a struct with n fields, noted behind the other parts
  pub below_struct : {n : ℕ} {u : List ℕ} → StructAt 24 s (get_or places i 0) n → NotedPart (fields s (get_or places i 0 + 12) n) u used
      → LeadsTo (leads_of (bundle_of s) (fields s (get_or places i 0 + 12) n)) u used n n
      → Within used (used + 2 + 6 * n) (set (set places (starts_at + i) 0) (starts_at + i) used) u → NotedBelow s u (i + 1) (used + 2 + 6 * n) × Front places u
  below_struct {n} {u} g p leads w =
      let k = starts_at + i in
      let there : k < length places = omega (arith, few, o.below.noted.size) in
      let long : length u ≡ length places = w.size ∙ length-set (set places k 0) k used ∙ length-set places k 0 in
      let here : get_or u k 0 ≡ used = w.before k (omega (arith, few, o.below.from)) ∙ get_or-set_same (set places k 0) k used 0 (omega (arith, there, length-set places k 0)) in
      let is : fields_at s places i ≡ fields s (get_or places i 0 + 12) n = struct_fields_lem (get_or places i 0) s g in
      let count : length (fields s (get_or places i 0 + 12) n) ≡ n = members_length 23 0x50 s n (get_or places i 0 + 12) g.reads in
      below_next u long
      (λ j c ne. w.before j c ∙ get_or-set_other (set places k 0) k j used 0 ne ∙ get_or-set_other places k j 0 0 ne)
      (rw (here, is) (record { none = λ z. absurd (omega (arith, z, o.below.from)); part = λ _. p })) (λ _. rw (here, is, count) leads)
      (omega (arith, ap length is, count, (struct_wide t l g).1)) (omega arith) (omega (arith, so_far, (struct_wide t l g).0))
      (λ _. rw (here, is, count) (o.below.from, omega arith))

-- behind all parts there is room for three places for each reference
pub below_room : {s : List ℕ} {n : ℕ} {places : List ℕ} {used : ℕ} → Table s n places → NotedBelow s places n used
    → (used + 3 * references_to s places n ≤ length places) × (used + 3 * references_to s places n < 65536)
below_room {s} {n} {places} t o = (omega (arith, o.room, ended n (omega arith), o.size), omega (arith, o.room, ended n (omega arith), o.short))
  where
    ended : (m : ℕ) → m ≤ n → end_before places m ≤ length s + 3
    ended zero l = omega arith
    ended (suc m) l =
        let next : m + 1 ≡ suc m = omega arith in
        let e = place_ends t m (omega arith) in
        omega (arith, e.0, ap (λ k. get_or places k 0) next, type_bound 24 (get_or places m 0) (get_or places (m + 1) 0 - 3) s (omega arith) e.1)

-- what the places of the definitions say stays with them
pub table_stays : {s : List ℕ} {n : ℕ} {places u : List ℕ} → Table s n places → length u ≡ length places → ((i : ℕ) → i < places_end → get_or u i 0 ≡ get_or places i 0) → Table s n u
table_stays {s} {n} {places} {u} t long keeps =
    record {
      count = t.count;
      placed = record {
        room = t.placed.room;
        each = λ i l. rw (keeps i (omega (arith, t.placed.room))) (t.placed.each i l);
        ends = λ i l. rw (keeps (i + 1) (omega (arith, t.placed.room)), keeps i (omega (arith, t.placed.room))) (t.placed.ends i l);
      };
      size = omega (arith, t.size, long);
      noted = rw (keeps names_at (omega arith))
          (record {
            count = t.noted.count;
            first = λ k l. keeps (firsts_at + k) (omega (arith, table_few t)) ∙ t.noted.first k l;
            named = record {
              all = members_same (drop table_at u) t.noted.named.all same (omega (arith, length-drop {A = ℕ} table_at u, length-drop {A = ℕ} table_at places, long));
              each = λ k l. same (buckets + 2 * k) (omega arith) (omega arith) ∙ t.noted.named.each k l;
            };
          });
    }
  where
    same : (i : ℕ) → 0 ≤ i → i < 0 + buckets + 2 * length (inserts [] (take n (definition_names (bundle_of s)))) → get_or (drop table_at u) i 0 ≡ get_or (drop table_at places) i 0
    same i _ l =
        get_or-drop table_at u i 0 ∙ keeps (table_at + i) (omega (arith, l, table_few t, t.noted.count)) ∙ sym (get_or-drop table_at places i 0)

pub table_within : {s : List ℕ} {n : ℕ} {places u : List ℕ} {a b : ℕ} → Table s n places → parts_at ≤ a → Within a b places u → Table s n u
table_within t l w = table_stays t w.size (λ i c. w.before i (omega arith))

pub table_set : {s : List ℕ} {n : ℕ} {places : List ℕ} → Table s n places → (k v : ℕ) → places_end ≤ k → Table s n (set places k v)
table_set {places = places} t k v l = table_stays t (length-set places k v) (λ i c. get_or-set_other places k i v 0 (λ z. omega (arith, z)))

pub front_both : {t u v : List ℕ} → Front t u → Front u v → Front t v
front_both a b = record { size = b.size ∙ a.size; same = λ i c. b.same i c ∙ a.same i c }

pub table_front : {s : List ℕ} {n : ℕ} {places u : List ℕ} → Table s n places → Front places u → Table s n u
table_front t b = table_stays t b.size (λ i c. b.same i (omega arith))
