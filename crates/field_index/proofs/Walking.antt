-- The fields of a struct are noted one after the other.
--     for_same, leads_same   what is noted stays where its places do
--     noting_start, -next, -end   the walk over the fields
--     started             what is written before it
use Prim.Native.Nat.{ℕ, zero, suc, ◌+◌, ◌-◌, ◌*◌, ◌≤◌, ◌<◌}
use mathlib.Core.Path.{◌≡◌, refl, sym, ap, subst, ◌∙◌}
use mathlib.Core.Logic.{by_cases}
use mathlib.Core.List.{List, [], ◌∷◌, map}
use native.Mathlib.Omega.{arith}
use native.Mathlib.Decide.{dec_lt}
use lib.ListN.{length, length-set, get_or, set, drop}
use lib.Seq.{get_or-set_same, get_or-set_other}
use Rattle.meaning.specs.Lookup.{list_of, member_name, member_type, as_type_ref}
use Rattle.meaning.specs.ReadType.{read_ty, read_members}
use Rattle.meaning.specs.Tree.{Member, member}
use Rattle.bundle.specs.View.{Reads}
use Rattle.bundle.specs.Definitions.{type_at, members_at, bundle_of}
use Rattle.bundle.proofs.Parts.{members_length}
use Rattle.fields.specs.declared.Field.{Field}
use Rattle.fields.specs.Shapes.{FieldAt}
use Rattle.fields.proofs.Walking.{Passing, passing_next, passing_tree}
use Rattle.table.specs.Table.{Within}
use Rattle.tree.proofs.Growing.{tree_same, tree_none}
use Rattle.field_index.specs.Noted.{field_name, tree_at, NotedTo, NotedPart, NotedFor, lead_shown, leads_of, leads_at, LeadsTo}
use Rattle.field_index.proofs.Noting.{OneMore}

-- places of the part at a from its names on hold the same
noted_same : {ms : List Member} {t : List ℕ} (u : List ℕ) {a n d k : ℕ} → d ≤ n → ((i : ℕ) → a + 2 ≤ i → i < a + 2 + 5 * n → get_or u i 0 ≡ get_or t i 0)
    → length t ≤ length u → NotedTo ms t a n d k → NotedTo ms u a n d k
noted_same {t = t} u {a} {n} {d} l same long o =
    record {
      tree = tree_same u o.tree (λ i c m. same i (omega arith) (omega arith)) long;
      few = o.few;
      all = λ i c. let h = o.all i c in (h.0, h.1, name h.0 h.1 ∙ h.2);
      firsts = λ r c. rw (name r c, same (a + 2 + r) (omega arith) (omega arith)) (o.firsts r c);
      lasts = λ r c. rw (name r c, same (a + 2 + n + r) (omega arith) (omega arith)) (o.lasts r c);
    }
  where
    name : (r : ℕ) → r < d → get_or u (tree_at a n + 3 * r) 0 ≡ get_or t (tree_at a n + 3 * r) 0
    name r c = same (tree_at a n + 3 * r) (omega arith) (omega arith)

part_same : {ms : List Member} {t : List ℕ} (u : List ℕ) {a : ℕ} → ((i : ℕ) → a ≤ i → i < a + 2 + 6 * length ms → get_or u i 0 ≡ get_or t i 0)
    → length t ≤ length u → NotedPart ms t a → NotedPart ms u a
part_same {ms} {t} u {a} same long p =
    record {
      some = p.some;
      count = same a (omega arith) (omega arith) ∙ p.count;
      room = omega (arith, p.room);
      all =
          rw (same (a + 1) (omega arith) (omega arith))
          (noted_same u p.all.few (λ i c m. same i (omega arith) (omega arith)) long p.all);
    }

-- what is noted of the fields ms in a part at a stays where its places do
module _ (ms : List Member) (t u : List ℕ) (a : ℕ) (same : 0 < a → (i : ℕ) → a ≤ i → i < a + 2 + 6 * length ms → get_or u i 0 ≡ get_or t i 0) where
  pub for_same : length t ≤ length u → NotedFor ms t a → NotedFor ms u a
  for_same long o = record { none = o.none; part = λ l. part_same u (same l) long (o.part l) }

  pub leads_same : (leads : List ℕ) → (0 < a → LeadsTo leads t a (length ms) (length ms)) → 0 < a → LeadsTo leads u a (length ms) (length ms)
  leads_same leads o l i c = same l (leads_at a (length ms) + i) (omega arith) (omega arith) ∙ o l i c

-- what is said of the first of the fields left, and those behind it
left_name : (f : Member → ℕ) (ms : List Member) (k : ℕ) {m : Member} {rest : List Member} → m ∷ rest ≡ drop k ms → (get_or (map f ms) k 0 ≡ f m) × (rest ≡ drop (k + 1) ms)
left_name f [] zero e = let z : ◌≡◌ {A = ℕ} 0 1 = cc in absurd (omega arith)
left_name f [] (suc k) e = let z : ◌≡◌ {A = ℕ} 0 1 = cc in absurd (omega arith)
left_name f (x ∷ xs) zero e = (cc, cc)
left_name f (x ∷ xs) (suc k) e =
    let h = left_name f xs k e in
    let z : suc k + 1 ≡ suc (k + 1) = omega arith in
    (h.0, h.1 ∙ ap (λ i. drop i (x ∷ xs)) (sym z))

-- the fields of a struct whose fields stand at a position
abbrev pub fields : List ℕ → ℕ → ℕ → List Member
fields s at n = list_of (members_at 23 0x50 n s at)

-- k of the n fields at `at` are noted in the part at a, and the others stand at `next`
pub record Noting (s : List ℕ) (at n : ℕ) (notes₀ : List ℕ) (a : ℕ) (notes : List ℕ) (next d k : ℕ) : Type 0 where
  pub bound : k ≤ n
  pub pass : Passing 23 s n (n - k) next
  pub rest : fields s next (n - k) ≡ drop k (fields s at n)
  pub noted : NotedTo (fields s at n) notes a n d k
  pub leads : LeadsTo (leads_of (bundle_of s) (fields s at n)) notes a n k
  pub count : get_or notes a 0 ≡ n
  pub only : Within a (a + 2 + 6 * n) notes₀ notes

module _ (n : ℕ) (t : List ℕ) (a : ℕ) (room : a + 2 + 6 * n ≤ length t) where
  pub noting_start : {s : List ℕ} (at : ℕ) → Reads (read_members (read_ty 23) 0x50 n s at) → Noting s at n (set t a n) a (set t a n) at 0 0
  noting_start at reads =
      record {
        bound = omega arith;
        pass = rw (all n) (record { bound = omega arith; reads = reads });
        rest = rw (all n) refl;
        noted = record {
          tree = tree_none (set t a n) (tree_at a n) (omega (arith, length-set t a n));
          few = omega arith;
          all = λ i l. absurd (omega arith);
          firsts = λ r l. absurd (omega arith);
          lasts = λ r l. absurd (omega arith);
        };
        leads = λ i l. absurd (omega arith);
        count = get_or-set_same t a n 0 (omega arith);
        only = record { size = refl; before = λ i l. refl; behind = λ i l. refl };
      }
    where
      all : (n : ℕ) → n - 0 ≡ n
      all n = omega arith

  pub started : Within a (a + 2 + 6 * n) t (set t a n)
  started =
      record {
        size = length-set t a n;
        before = λ i l. get_or-set_other t a i n 0 (λ z. omega (arith, z));
        behind = λ i l. get_or-set_other t a i n 0 (λ z. omega (arith, z));
      }

module _ {s : List ℕ} {at n : ℕ} {t : List ℕ} {a : ℕ} {u : List ℕ} {next d k : ℕ} (o : Noting s at n t a u next d k) where
  module _ (l : k < n) {f : Field} (g : FieldAt 23 s next f) where
    here : (what : Member → ℕ) → (get_or (map what (fields s at n)) k 0 ≡ what (member f.name g.value (type_at 23 s f.at))) × (fields s f.next (n - k - 1) ≡ drop (k + 1) (fields s at n))
    here what = left_name what (fields s at n) k (sym (ap list_of (passing_tree o.pass (omega arith) g)) ∙ o.rest)

    pub noting_name : field_name (fields s at n) k ≡ f.name
    noting_name = (here member_name).0

    -- the name of one field more, and where it leads
    pub noting_next : {v : List ℕ} {D : ℕ} → OneMore u v a n d k f.name D → a + 2 + 6 * n ≤ length t → {x : ℕ} → x ≡ lead_shown (bundle_of s) (as_type_ref (type_at 23 s f.at))
        → Noting s at n t a (set v (leads_at a n + k) x) f.next D (k + 1)
    noting_next {v} {D} m room {x} e =
        let p = leads_at a n + k in
        let other : (i : ℕ) → (i ≡ p → ⊥) → get_or (set v p x) i 0 ≡ get_or v i 0 = λ i ne. get_or-set_other v p i x 0 ne in
        record {
          bound = omega arith;
          pass = subst (λ left. Passing 23 s n left f.next) (one_less k n) (passing_next o.pass (omega arith) g);
          rest = ap (fields s f.next) (sym (one_less k n)) ∙ (here member_name).1;
          noted =
              let w = m.0 (fields s at n) o.noted noting_name in
              noted_same (set v p x) (omega (arith, w.few)) (λ i c b. other i (λ z. omega (arith, z))) (omega (arith, length-set v p x)) w;
          leads = λ i c.
              by_cases (dec_lt i k)
              (λ (b : i < k). other (leads_at a n + i) (λ z. omega (arith, z)) ∙ m.1.behind (leads_at a n + i) (omega arith) ∙ o.leads i b)
              (λ (b : ¬ (i < k)).
              let z : i ≡ k = omega arith in
              rw z (get_or-set_same v p x 0 (omega (arith, room, m.1.size, o.only.size)) ∙ e ∙ sym (here (λ y. lead_shown (bundle_of s) (as_type_ref (member_type y)))).0));
          count = other a (λ z. omega (arith, z)) ∙ m.1.before a (omega arith) ∙ o.count;
          only = record {
            size = length-set v p x ∙ m.1.size ∙ o.only.size;
            before = λ i c. other i (λ z. omega (arith, z)) ∙ m.1.before i (omega arith) ∙ o.only.before i c;
            behind = λ i c. other i (λ z. omega (arith, z)) ∙ m.1.behind i (omega arith) ∙ o.only.behind i c;
          };
        }
      where
        one_less : (k n : ℕ) → n - k - 1 ≡ n - (k + 1)
        one_less k n = omega arith

  pub noting_end : {t₀ : List ℕ} → n ≤ k → 0 < n → a + 2 + 6 * n ≤ length t₀ → Reads (read_members (read_ty 23) 0x50 n s at) → Within a (a + 2 + 6 * n) t₀ t
      → NotedPart (fields s at n) (set u (a + 1) d) a × LeadsTo (leads_of (bundle_of s) (fields s at n)) (set u (a + 1) d) a n n × Within a (a + 2 + 6 * n) t₀ (set u (a + 1) d)
  noting_end l some room reads begun =
      let e : length (fields s at n) ≡ n = members_length 23 0x50 s n at reads in
      let k_n : k ≡ n = omega (arith, o.bound) in
      let long = length-set u (a + 1) d in (
        record {
          some = omega (arith, e);
          count = other a (λ z. omega (arith, z)) ∙ o.count ∙ sym e;
          room = omega (arith, e, long, o.only.size, begun.size);
          all =
              rw (e, get_or-set_same u (a + 1) d 0 (omega (arith, o.only.size, begun.size)))
              (subst (NotedTo (fields s at n) (set u (a + 1) d) a n d) k_n
              (noted_same (set u (a + 1) d) (omega (arith, o.noted.few, o.bound)) (λ i c m. other i (λ z. omega (arith, z))) (omega (arith, long)) o.noted));
        },
        λ i c. other (leads_at a n + i) (λ z. omega (arith, z)) ∙ o.leads i (omega arith),
        record {
          size = long ∙ o.only.size ∙ begun.size;
          before = λ i c. other i (λ z. omega (arith, z)) ∙ o.only.before i c ∙ begun.before i c;
          behind = λ i c. other i (λ z. omega (arith, z)) ∙ o.only.behind i c ∙ begun.behind i c;
        },
      )
    where
      other : (i : ℕ) → (i ≡ a + 1 → ⊥) → get_or (set u (a + 1) d) i 0 ≡ get_or u i 0
      other i ne = get_or-set_other u (a + 1) i d 0 ne
