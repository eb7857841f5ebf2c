-- What stands before the lists stays while they are written.
--     Stays                          all places before a certain one but those where lists start
--     kept_within, -start, -both     what keeps them
--     layout_kept, fields_kept       what stays with them
--     lists_length, lists_same       a list
use Prim.Native.Nat.{ℕ, ◌+◌, ◌*◌, ◌≤◌, ◌<◌}
use mathlib.Core.Path.{◌≡◌, ap, ◌∙◌}
use mathlib.Core.List.{List, [], ◌∷◌}
use native.Mathlib.Omega.{arith}
use lib.ListN.{length, length-set, get_or, set}
use lib.Seq.{get_or-set_other}
use Rattle.meaning.specs.Limits.{definition_limit}
use Rattle.bundle.specs.declared.Layout.{Layout}
use Rattle.bundle.specs.Definitions.{type_at, bundle_of, Table}
use Rattle.bundle.specs.Opened.{LayoutOf}
use Rattle.table.specs.Table.{Within}
use Rattle.field_index.specs.Noted.{starts_at, parts_at, part_start, leads_of, struct_fields, fields_at, references_to, ConstantsNoted, FieldsBelow, NotedBelow}
use Rattle.field_index.proofs.Constants.{constants_stay}
use Rattle.field_index.proofs.Structs.{below_room, table_stays}
use Rattle.field_index.proofs.Walking.{for_same, leads_same}
use Rattle.notes.specs.Notes.{Entry, Lists, lists_at}
use Rattle.notes.specs.Listing.{RoomFor}

-- the places before `used` hold the same, but for those where lists start
pub record Stays (t u : List ℕ) (used : ℕ) : Type 0 where
  pub size : length u ≡ length t
  pub front : (i : ℕ) → i < lists_at → get_or u i 0 ≡ get_or t i 0
  pub back : (i : ℕ) → parts_at ≤ i → i < used → get_or u i 0 ≡ get_or t i 0

pub kept_within : {a e : ℕ} {t u : List ℕ} → parts_at ≤ a → Within a e t u → Stays t u a
kept_within l w = record { size = w.size; front = λ i c. w.before i (omega arith); back = λ i b c. w.before i c }

pub kept_start : (t : List ℕ) (j v : ℕ) → j ≤ definition_limit → (used : ℕ) → Stays t (set t (lists_at + j) v) used
kept_start t j v l used =
    record {
      size = length-set t (lists_at + j) v;
      front = λ i c. get_or-set_other t (lists_at + j) i v 0 (λ z. omega (arith, z));
      back = λ i b c. get_or-set_other t (lists_at + j) i v 0 (λ z. omega (arith, z));
    }

pub kept_both : {t u v : List ℕ} {a b : ℕ} → a ≤ b → Stays t u a → Stays u v b → Stays t v a
kept_both l k m =
    record {
      size = m.size ∙ k.size;
      front = λ i c. m.front i c ∙ k.front i c;
      back = λ i b c. m.back i b (omega arith) ∙ k.back i b c;
    }

pub layout_table : {s : List ℕ} {l : Layout} {t u : List ℕ} → LayoutOf s l t → Table s l.definitions u → LayoutOf s l u
layout_table o t = record { small = o.small; read = o.read; table = t; edges = o.edges; few = o.few; current = o.current; from = o.from }

pub layout_kept : {s : List ℕ} {l : Layout} {t u : List ℕ} {a : ℕ} → Stays t u a → LayoutOf s l t → LayoutOf s l u
layout_kept k o = layout_table o (table_stays o.table k.size (λ i c. k.front i (omega arith)))

pub constants_kept : {s : List ℕ} {n : ℕ} {t u : List ℕ} {a : ℕ} → n ≤ definition_limit → Stays t u a → ConstantsNoted s t n → ConstantsNoted s u n
constants_kept few k o = constants_stay few (record { size = k.size; same = λ i c. k.front i (omega arith) }) o

-- the notes of the fields
pub room_start : {s places : List ℕ} {n used : ℕ} → Table s n places → NotedBelow s places n used → RoomFor places used (references_to s places n)
room_start t o = let r = below_room t o in record { there = r.0; small = r.1 }

pub fields_more : {s places : List ℕ} {n a b : ℕ} → a ≤ b → FieldsBelow s places n a → FieldsBelow s places n b
fields_more l o =
    record {
      noted = o.noted;
      from = omega (arith, o.from);
      parts = λ i c h. let q = o.parts i c h in (q.0, omega (arith, q.1));
    }

pub fields_kept : {s : List ℕ} {n : ℕ} {t u : List ℕ} {a : ℕ} → n ≤ definition_limit → Stays t u a → FieldsBelow s t n a → FieldsBelow s u n a
fields_kept {s} {n} {t} {u} few k o =
    record {
      noted = record {
        size = omega (arith, k.size, o.noted.size);
        each = λ i c. rw (same i c, start i c) (for_same (fields_at s t i) t u (part_start t i) (inside i c) (omega (arith, k.size)) (o.noted.each i c));
        leads = λ i c. rw (same i c, start i c) (leads_same (fields_at s t i) t u (part_start t i) (inside i c) (leads_of (bundle_of s) (fields_at s t i)) (o.noted.leads i c));
        few = λ i c. rw (same i c) (o.noted.few i c);
      };
      from = o.from;
      parts = λ i c. rw (same i c, start i c) (o.parts i c);
    }
  where
    start : (i : ℕ) → i < n → part_start u i ≡ part_start t i
    start i c = k.front (starts_at + i) (omega arith)

    inside : (i : ℕ) → i < n → 0 < part_start t i → (j : ℕ) → part_start t i ≤ j → j < part_start t i + 2 + 6 * length (fields_at s t i) → get_or u j 0 ≡ get_or t j 0
    inside i c h j b d = let q = o.parts i c h in k.back j (omega (arith, q.0)) (omega (arith, q.1))

    same : (i : ℕ) → i < n → fields_at s u i ≡ fields_at s t i
    same i c = ap (λ a. struct_fields (type_at 24 s a)) (k.front i (omega arith))

-- a list
pub lists_length : (s t : List ℕ) (e a : ℕ) (ps : List ℕ) → Lists s t e a ps → a + 3 * length ps ≡ e
lists_length s t e a [] l = omega (arith, l)
lists_length s t e a (p ∷ ps) l = omega (arith, lists_length s t e (a + 3) ps l.1)

pub entry_same : {s t : List ℕ} (u : List ℕ) {a p : ℕ} → ((i : ℕ) → a ≤ i → i < a + 3 → get_or u i 0 ≡ get_or t i 0) → Entry s t a p → Entry s u a p
entry_same u {a} same o =
    record {
      type = same a (omega arith) (omega arith) ∙ o.type;
      field = same (a + 1) (omega arith) (omega arith) ∙ o.field;
      position = same (a + 2) (omega arith) (omega arith) ∙ o.position;
    }

pub lists_same : (s t u : List ℕ) (e a : ℕ) (ps : List ℕ) → ((i : ℕ) → a ≤ i → i < e → get_or u i 0 ≡ get_or t i 0) → Lists s t e a ps → Lists s u e a ps
lists_same s t u e a [] same l = l
lists_same s t u e a (p ∷ ps) same l =
    let long = lists_length s t e (a + 3) ps l.1 in (
      entry_same u (λ i c d. same i c (omega (arith, long))) l.0,
      lists_same s t u e (a + 3) ps (λ i c d. same i (omega arith) d) l.1,
    )
