-- The references of the definitions are listed one definition after the other.
--     refs_there, refs_room        the references of one definition
--     listing_start, -next, -end   the walk over the definitions
use Rattle.std.specs.Prelude.{Ok}
use Prim.Native.Nat.{ℕ, zero, suc, ◌+◌, ◌-◌, ◌*◌, ◌≤◌, ◌<◌}
use mathlib.Core.Path.{◌≡◌, refl, sym, ap, ap₂, ◌∙◌}
use mathlib.Core.Logic.{by_cases}
use mathlib.Core.Bool.{Bool, true, false, cond}
use mathlib.Core.List.{List, []}
use native.Mathlib.Omega.{arith}
use native.Mathlib.Numerals.{add-one}
use native.Mathlib.Decide.{dec_lt}
use lib.ListN.{length, get_or, set}
use lib.Seq.{get_or-set_same, get_or-set_other}
use Rattle.meaning.specs.ReadType.{read_ty}
use Rattle.bundle.specs.declared.Layout.{Layout}
use Rattle.bundle.specs.View.{step_of}
use Rattle.bundle.specs.Definitions.{type_at, Table}
use Rattle.bundle.specs.Opened.{LayoutOf}
use Rattle.table.specs.Table.{Within}
use Rattle.sizes.specs.Scan.{references_from, Fits}
use Rattle.sizes.proofs.ReferenceLaws.{type_fits}
use Rattle.field_index.specs.Noted.{parts_at, references_of, references_to, ConstantsNoted, FieldsBelow}
use Rattle.notes.specs.Notes.{needs_references, needed_of, Lists, lists_at, list_start, Noted}
use Rattle.notes.specs.Listing.{RoomFor}
use Rattle.notes.proofs.Stays.{Stays, kept_within, kept_start, kept_both, layout_kept, constants_kept, fields_kept, fields_more, lists_length, lists_same}

-- there are few definitions
pub few : {s : List ℕ} {n : ℕ} {places : List ℕ} → Table s n places → n ≤ 256
few t = omega (arith, t.count, t.placed.room)

-- where definition i ends
end_is : {s : List ℕ} {n : ℕ} {places : List ℕ} → Table s n places → {i : ℕ} → i < n → {end : ℕ} → Ok end ≡ step_of (read_ty 24 s (get_or places i 0)) → end ≡ get_or places (i + 1) 0 - 3
end_is {places = places} t {i} l {end} e =
    let both : Ok end ≡ Ok (get_or places (i + 1) 0 - 3) = e ∙ sym (t.placed.ends i (omega (arith, t.count))) in cc

-- the references of definition i lie within the bytes
refs_fit : {s : List ℕ} {n : ℕ} {places : List ℕ} → Table s n places → {i : ℕ} → i < n → Fits s (references_of s places i)
refs_fit {s} {places = places} t {i} l = type_fits 24 (get_or places i 0) (get_or places (i + 1) 0 - 3) s (omega arith) (t.placed.ends i (omega (arith, t.count)))

needed_fit : {s : List ℕ} {n : ℕ} {places : List ℕ} → Table s n places → {i : ℕ} → i < n → Fits s (needed_of s places i)
needed_fit {s} {places = places} t {i} l = go (needs_references (type_at 24 s (get_or places i 0)))
  where
    go : (b : Bool) → Fits s (cond b (references_of s places i) [])
    go true = refs_fit t l
    go false = tt

needed_few : (s places : List ℕ) (i : ℕ) → length (needed_of s places i) ≤ length (references_of s places i)
needed_few s places i = go (needs_references (type_at 24 s (get_or places i 0)))
  where
    go : (b : Bool) → length (cond b (references_of s places i) []) ≤ length (references_of s places i)
    go true = omega arith
    go false = omega arith

-- the count of references grows with the definitions
refs_more : (s places : List ℕ) (i n : ℕ) → i ≤ n → references_to s places i ≤ references_to s places n
refs_more s places i zero l = let z : i ≡ 0 = omega arith in rw z (omega arith)
refs_more s places i (suc n) l =
    by_cases (dec_lt n i) (λ (c : n < i). let z : i ≡ suc n = omega arith in rw z (omega arith))
    (λ (c : ¬ (n < i)). omega (arith, refs_more s places i n (omega arith)))

module _ (s : List ℕ) {t u : List ℕ} {a : ℕ} (k : Stays t u a) where
  refs_same : (i : ℕ) → i < 256 → references_of s u i ≡ references_of s t i
  refs_same i l = ap₂ (λ x y. references_from s x (y - 3)) (k.front i (omega arith)) (k.front (i + 1) (omega arith))

  needed_same : (i : ℕ) → i < 256 → needed_of s u i ≡ needed_of s t i
  needed_same i l = ap₂ (λ b ps. cond b ps []) (ap (λ x. needs_references (type_at 24 s x)) (k.front i (omega arith))) (refs_same i l)

  refs_kept : (n : ℕ) → n ≤ 256 → references_to s u n ≡ references_to s t n
  refs_kept zero l = refl
  refs_kept (suc n) l = ap₂ ◌+◌ (refs_kept n (omega arith)) (ap length (refs_same n l))

-- the references of the definitions before i are listed, up to `used`, and there is room for those of the others
pub record Listing (s : List ℕ) (l : Layout) (u : List ℕ) (used i : ℕ) : Type 0 where
  pub bound : i ≤ l.definitions
  pub layout : LayoutOf s l u
  pub constants : ConstantsNoted s u l.definitions
  pub fields : FieldsBelow s u l.definitions used
  pub there : used + 3 * references_to s u l.definitions ≤ length u + 3 * references_to s u i
  pub small : used + 3 * references_to s u l.definitions < 65536 + 3 * references_to s u i
  pub here : list_start u i ≡ used
  pub inside : (j : ℕ) → j ≤ i → (parts_at ≤ list_start u j) × (list_start u j ≤ used)
  pub each : (j : ℕ) → j < i → Lists s u (list_start u (j + 1)) (list_start u j) (needed_of s u j)

pub listing_start : {s : List ℕ} {l : Layout} {t : List ℕ} {used : ℕ} → LayoutOf s l t → ConstantsNoted s t l.definitions → FieldsBelow s t l.definitions used → RoomFor t used (references_to s t l.definitions)
    → Listing s l (set t lists_at used) used 0
listing_start {s} {l} {t} {used} o k f r =
    record {
      bound = omega arith;
      layout = layout_kept kept o;
      constants = constants_kept (few o.table) kept k;
      fields = fields_kept (few o.table) kept f;
      there = omega (arith, r.there, same, kept.size);
      small = omega (arith, r.small, same);
      here = here;
      inside = λ j c. let z : j ≡ 0 = omega arith in rw (z, here) (f.from, omega arith);
      each = λ j c. absurd (omega arith);
    }
  where
    kept : Stays t (set t lists_at used) used
    kept = kept_start t 0 used (omega arith) used

    same : references_to s (set t lists_at used) l.definitions ≡ references_to s t l.definitions
    same = refs_kept s kept l.definitions (few o.table)

    here : list_start (set t lists_at used) 0 ≡ used
    here = get_or-set_same t lists_at used 0 (omega (arith, f.noted.size))

module _ {s : List ℕ} {l : Layout} {u : List ℕ} {used i : ℕ} (c : Listing s l u used i) where
  pub listing_room : i < l.definitions → RoomFor u used (length (references_of s u i))
  listing_room b =
      let all = refs_more s u (suc i) l.definitions b in
      record { there = omega (arith, all, c.there); small = omega (arith, all, c.small) }

  pub listing_end : l.definitions ≤ i → LayoutOf s l u × Noted s u l.definitions
  listing_end b =
      let all = refs_more s u i l.definitions c.bound in (
        c.layout,
        record {
          definitions = record { constants = c.constants; fields = c.fields.noted };
          references = record {
            size = omega (arith, few c.layout.table, c.fields.noted.size);
            each = λ j d. c.each j (omega arith);
            fits = λ j d. needed_fit c.layout.table d;
            within = λ j d. omega (arith, (c.inside (j + 1) (omega arith)).1, all, c.there);
          };
        },
      )

  -- the list of definition i is written from `used` to e, and that it ends there
  module _ (b : i < l.definitions) {v : List ℕ} {e : ℕ} (h : Lists s v e used (needed_of s u i)) (w : Within used e u v) where
    abbrev next : List ℕ
    next = set v (lists_at + (i + 1)) e

    little : i < 256
    little = omega (arith, few c.layout.table)

    kept : Stays u next used
    kept = kept_both (omega arith) (kept_within c.fields.from w) (kept_start v (i + 1) e (omega (arith, little)) used)

    long : used + 3 * length (needed_of s u i) ≡ e
    long = lists_length s v e used (needed_of s u i) h

    pub listing_small : (e < 65536) × (lists_at + (i + 1) < length v)
    listing_small = (
      omega (arith, long, needed_few s u i, (listing_room b).small),
      omega (arith, little, w.size, c.fields.noted.size),
    )

    here : list_start next (i + 1) ≡ e
    here = get_or-set_same v (lists_at + (i + 1)) e 0 listing_small.1

    other : (k : ℕ) → (k ≡ lists_at + (i + 1) → ⊥) → get_or next k 0 ≡ get_or v k 0
    other k n = get_or-set_other v (lists_at + (i + 1)) k e 0 n

    start : (j : ℕ) → j ≤ i → list_start next j ≡ list_start u j
    start j d = other (lists_at + j) (λ z. omega (arith, z)) ∙ w.before (lists_at + j) (omega (arith, little, c.fields.from))

    inside : (j : ℕ) → j ≤ i + 1 → (parts_at ≤ list_start next j) × (list_start next j ≤ e)
    inside j d =
        by_cases (dec_lt i j)
        (λ (n : i < j). let z : j ≡ i + 1 = omega arith in rw (z, here) (omega (arith, c.fields.from, long), omega arith))
        (λ (n : ¬ (i < j)). let q = c.inside j (omega arith) in rw (start j (omega arith)) (q.0, omega (arith, q.1, long)))

    each : (j : ℕ) → j < i + 1 → Lists s next (list_start next (j + 1)) (list_start next j) (needed_of s next j)
    each j d =
        by_cases (dec_lt j i)
        (λ (n : j < i).
        let p = c.inside j (omega arith) in
        let q = c.inside (j + 1) (omega arith) in
        rw (start j (omega arith), start (j + 1) (omega arith), needed_same s kept j (omega (arith, little)))
        (lists_same s u next (list_start u (j + 1)) (list_start u j) (needed_of s u j)
        (λ k x y. kept.back k (omega (arith, p.0)) (omega (arith, q.1))) (c.each j n)))
        (λ (n : ¬ (j < i)).
        let z : j ≡ i = omega arith in
        rw (z, here, start i (omega arith), c.here, needed_same s kept i little)
        (lists_same s v next e used (needed_of s u i) (λ k x y. other k (λ p. omega (arith, p, c.fields.from, little))) h))

    pub listing_next : Listing s l next e (i + 1)
    listing_next =
        let all = refs_kept s kept l.definitions (few c.layout.table) in
        let now = refs_kept s kept (i + 1) (omega (arith, little)) in
        let one : references_to s u (i + 1) ≡ references_to s u i + length (references_of s u i) = ap (references_to s u) (add-one i) in
        record {
          bound = omega arith;
          layout = layout_kept kept c.layout;
          constants = constants_kept (few c.layout.table) kept c.constants;
          fields = fields_more (omega (arith, long)) (fields_kept (few c.layout.table) kept c.fields);
          there = omega (arith, all, now, one, c.there, long, needed_few s u i, kept.size);
          small = omega (arith, all, now, one, c.small, long, needed_few s u i);
          here = here;
          inside = inside;
          each = each;
        }

-- the references of definition i, which ends at `end`
module _ {s : List ℕ} {n : ℕ} {places : List ℕ} (t : Table s n places) {i : ℕ} (l : i < n) {at : ℕ} (e : at ≡ get_or places i 0) where
  module _ {end : ℕ} (q : Ok end ≡ step_of (read_ty 24 s (get_or places i 0))) where
    refs_are : references_from s at end ≡ references_of s places i
    refs_are = ap₂ (references_from s) e (end_is t l q)

    pub refs_there : Fits s (references_from s at end)
    refs_there = rw refs_are (refs_fit t l)

    pub refs_room : {used : ℕ} → RoomFor places used (length (references_of s places i)) → RoomFor places used (length (references_from s at end))
    refs_room r = rw refs_are r
