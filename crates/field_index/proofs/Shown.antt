-- What is noted of a name is the index of the first and of the last field that has it.
--     shown_none     no field has the name
--     shown_at       where it stands at the place of the name
--     lead_part      the last field that leads where a number says
use Rattle.std.specs.Prelude.{Option, Some, None, IfSome}
use Prim.Native.Nat.{ℕ, zero, suc, ◌+◌, ◌*◌, ◌≤◌, ◌<◌, suc-le-suc}
use mathlib.Core.Path.{◌≡◌, refl, sym, ap, subst, ◌∙◌}
use mathlib.Core.Option.{none, some}
use mathlib.Core.List.{List, [], ◌∷◌, map}
use native.Mathlib.Omega.{arith}
use borrow.Author.Tests.{eq-eqb, ne_eqb}
use lib.Dec.{eqb}
use lib.ListN.{length, get_or}
use Rattle.meaning.specs.Tree.{Member, Bundle}
use Rattle.meaning.specs.Lists.{first_index, last_index}
use Rattle.meaning.specs.Lookup.{member_name, member_type, as_type_ref}
use Rattle.bundle.specs.Definitions.{bundle_of}
use Rattle.tree.specs.Tree.{PlaceOf}
use Rattle.fields.specs.Sought.{named}
use Rattle.field_index.specs.Noted.{field_name, tree_at, NotedPart, index_shown, IndicesOf, lead_shown, leads_of, lead_is, leads_at, LeadsTo, LastIn, part_start, fields_at, FieldsNoted}

-- no field has the name
abbrev Lacks : List Member → ℕ → Type 0
Lacks ms x = (i : ℕ) → i < length ms → field_name ms i ≡ x → ⊥

-- what f gives of the fields, and the last of which it gives x
module _ (f : Member → ℕ) (x : ℕ) where
  abbrev Gives : List Member → ℕ → Type 0
  Gives ms i = get_or (map f ms) i 0 ≡ x

  last_none : (ms : List Member) → ((i : ℕ) → i < length ms → Gives ms i → ⊥) → last_index (λ m. eqb x (f m)) ms ≡ none
  last_none [] lacks = refl
  last_none (m ∷ ms) lacks =
      rw (last_none ms (λ i l. lacks (suc i) (suc-le-suc l)), ne_eqb x (f m) (λ e. lacks 0 (omega arith) (sym e))) refl

  last_at : (ms : List Member) (l : ℕ) → l < length ms → Gives ms l → ((i : ℕ) → l < i → i < length ms → Gives ms i → ⊥) → last_index (λ m. eqb x (f m)) ms ≡ some l
  last_at [] l c e lacks = absurd (omega arith)
  last_at (m ∷ ms) zero c e lacks = rw (last_none ms (λ i k. lacks (suc i) (omega arith) (suc-le-suc k)), eq-eqb x (f m) (sym e)) refl
  last_at (m ∷ ms) (suc l) c e lacks = rw (last_at ms l (omega arith) e (λ i k d. lacks (suc i) (suc-le-suc k) (suc-le-suc d))) refl

module _ (x : ℕ) where
  lacks_rest : (m : Member) (ms : List Member) → Lacks (m ∷ ms) x → Lacks ms x
  lacks_rest m ms lacks i l = lacks (suc i) (suc-le-suc l)

  first_none : (ms : List Member) → Lacks ms x → first_index (named x) ms ≡ none
  first_none [] lacks = refl
  first_none (m ∷ ms) lacks = rw (ne_eqb x (member_name m) (λ e. lacks 0 (omega arith) (sym e)), first_none ms (lacks_rest m ms lacks)) refl

  first_at : (ms : List Member) (f : ℕ) → f < length ms → field_name ms f ≡ x → ((i : ℕ) → i < f → field_name ms i ≡ x → ⊥) → first_index (named x) ms ≡ some f
  first_at [] f l e lacks = absurd (omega arith)
  first_at (m ∷ ms) zero l e lacks = rw (eq-eqb x (member_name m) (sym e)) refl
  first_at (m ∷ ms) (suc f) l e lacks =
      rw (ne_eqb x (member_name m) (λ q. lacks 0 (omega arith) (sym q)), first_at ms f (omega arith) e (λ i c. lacks (suc i) (suc-le-suc c))) refl

-- the place of a name among those of a part
module _ {notes : List ℕ} {a : ℕ} (x : ℕ) (ms : List Member) (p : NotedPart ms notes a) where
  -- how many fields there are
  abbrev n : ℕ
  n = get_or notes a 0

  pub shown_none : PlaceOf notes (tree_at a n) (get_or notes (a + 1) 0) x None → IndicesOf ms x None
  shown_none q = (first_none x ms lacks, last_none member_name x ms lacks)
    where
      lacks : Lacks ms x
      lacks i l e = let h = p.all.all i l in q.place h.0 h.1 (ap (λ n. get_or notes (tree_at a n + 3 * h.0) 0) p.count ∙ h.2 ∙ e)

  pub shown_at : {r : ℕ} → PlaceOf notes (tree_at a n) (get_or notes (a + 1) 0) x (Some r) → IndicesOf ms x (Some (record { first = get_or notes (a + 2 + r) 0; last = get_or notes (a + 2 + n + r) 0 }))
  shown_at {r} q =
      let is : get_or notes (tree_at a (length ms) + 3 * r) 0 ≡ x = ap (λ n. get_or notes (tree_at a n + 3 * r) 0) (sym p.count) ∙ q.place.here in
      let f = p.all.firsts r q.place.within in
      let l = p.all.lasts r q.place.within in (
        first_at x ms (get_or notes (a + 2 + r) 0) f.below (f.here ∙ is) (λ i c e. f.none i c (e ∙ sym is)),
        rw p.count (last_at member_name x ms (get_or notes (a + 2 + length ms + r) 0) l.below (l.here ∙ is) (λ i c k e. l.none i c k (e ∙ sym is))),
      )

-- the last field that leads where x says
lead_shown_at : (b : Bundle) (notes : List ℕ) (a x : ℕ) {r : Option ℕ} (ms : List Member) → LeadsTo (leads_of b ms) notes a (length ms) (length ms)
    → LastIn notes (leads_at a (length ms)) (length ms) x r → r ≡ index_shown (last_index (lead_is b x) ms)
lead_shown_at b notes a x {r} ms leads l = go r l
  where
    lead : Member → ℕ
    lead m = lead_shown b (as_type_ref (member_type m))

    go : (r : Option ℕ) → LastIn notes (leads_at a (length ms)) (length ms) x r → r ≡ index_shown (last_index (lead_is b x) ms)
    go (Some k) l = ap index_shown (sym (last_at lead x ms k l.0 (sym (leads k l.0) ∙ l.1) (λ i d m e. l.2 i (omega arith) m (leads i m ∙ e))))
    go None l = ap index_shown (sym (last_none lead x ms (λ i m e. l i (omega arith) m (leads i m ∙ e))))

-- the last field of definition i that leads where x says
module _ {s places : List ℕ} {n i : ℕ} (o : FieldsNoted s places n) (l : i < n) (x : ℕ) where
  pub lead_part : 0 < part_start places i → {r : Option ℕ} → LastIn places (leads_at (part_start places i) (get_or places (part_start places i) 0)) (get_or places (part_start places i) 0) x r
      → (r ≡ index_shown (last_index (lead_is (bundle_of s) x) (fields_at s places i))) × IfSome r (λ k. 4 * (k + 1) ≤ length s)
  lead_part c {r} q =
      let same = ((o.each i l).part c).count in (
        lead_shown_at (bundle_of s) places (part_start places i) x (fields_at s places i) (o.leads i l c)
            (subst (λ k. LastIn places (leads_at (part_start places i) k) k x r) same q),
        few r q,
      )
    where
      few : (r : Option ℕ) → LastIn places (leads_at (part_start places i) (get_or places (part_start places i) 0)) (get_or places (part_start places i) 0) x r → IfSome r (λ k. 4 * (k + 1) ≤ length s)
      few (Some k) q = omega (arith, q.0, o.few i l, ((o.each i l).part c).count)
      few None q = tt
