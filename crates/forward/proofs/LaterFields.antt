-- Whether a reference leads to a later field of the struct, and the first in a list that does: type 4.
use Rattle.std.specs.Prelude.{Some}
use Prim.Native.Nat.{ℕ, zero, suc, ◌+◌, ◌*◌, ◌≤◌, ◌<◌}
use native.Mathlib.Omega.{arith}
use mathlib.Core.Bool.{Bool, true, false, cond, ◌&&◌, false≢true}
use mathlib.Core.Option.{Option, none, some}
use mathlib.Core.Path.{◌≡◌, refl, sym, ap, ◌∙◌}
use mathlib.Core.List.{List, [], ◌∷◌}
use lib.Dec.{eqb, ltb}
use lib.ListN.{length, get_or}
use borrow.Author.Tests.{eqb-true, lt-ltb, le-ltb, ltb-true, ltb-false}
use Rattle.meaning.specs.Lists.{holds, first_index}
use Rattle.meaning.specs.Lookup.{names_field}
use Rattle.meaning.specs.Tree.{Ty, Member, Bundle}
use Rattle.meaning.specs.Violations.{struct_of, stands_after, is_later_field}
use Rattle.bundle.specs.Definitions.{bundle_of}
use Rattle.sizes.specs.Scan.{path_at}
use Rattle.fields.specs.Sought.{shown}
use Rattle.checks.specs.Checks.{target_at, type_part}
use Rattle.checks.proofs.ForwardChecks.{holds_no}
use Rattle.notes.proofs.Indices.{no_first}
use Rattle.notes.specs.Notes.{first_shown, Entry}
use Rattle.forward.specs.Forward.{is_forward, is_later, is_later_at, later_from}

and_false : (x : Bool) → (x && false) ≡ false
and_false true = refl
and_false false = refl

-- a field stands after index j where one more than its index is more than j + 1
after_shown : (j : ℕ) (o : Option ℕ) → ltb (j + 1) (shown o) ≡ holds (ltb j) o
after_shown j none = le-ltb (j + 1) 0 (omega arith)
after_shown j (some i) = go (ltb j i) refl
  where
    go : (b : Bool) → ltb j i ≡ b → ltb (j + 1) (suc i) ≡ b
    go true q = let w = ltb-true j i q in lt-ltb (j + 1) (suc i) (omega arith)
    go false q = let w = ltb-false j i q in le-ltb (j + 1) (suc i) (omega arith)

fields_shown : (j : ℕ) (field : List ℕ) (o : Option (List Member)) → ltb (j + 1) (first_shown field o) ≡ holds (stands_after j field) o
fields_shown j field none = le-ltb (j + 1) 0 (omega arith)
fields_shown j field (some ms) = after_shown j (first_index (names_field field) ms)

same_struct : (b : Bundle) (field : List ℕ) (x n j : ℕ) → (eqb x n && ltb (j + 1) (first_shown field (struct_of b x))) ≡ (eqb x n && holds (stands_after j field) (struct_of b n))
same_struct b field x n j = go (eqb x n) refl
  where
    go : (t : Bool) → eqb x n ≡ t → (t && ltb (j + 1) (first_shown field (struct_of b x))) ≡ (t && holds (stands_after j field) (struct_of b n))
    go true q = fields_shown j field (struct_of b x) ∙ ap (λ y. holds (stands_after j field) (struct_of b y)) (eqb-true x n q)
    go false q = refl

-- what is listed of a reference says whether it leads to a later field
pub entry_later : {s places : List ℕ} {a p : ℕ} → Entry s places a p → (n j : ℕ) → is_later_at places n j a ≡ is_later s n j p
unfolding is_later_field
entry_later {s} {places} {a} {p} e n j = rw (e.type, e.field) (same_struct (bundle_of s) (target_at s p).field (type_part s p) n j)

-- what leads to no field behind an index leads to none behind a later one
pub later_falls : (places : List ℕ) (n a : ℕ) {j k : ℕ} → j ≤ k → is_later_at places n j a ≡ false → is_later_at places n k a ≡ false
later_falls places n a {j} {k} l = go (eqb (get_or places a 0) n) (ltb (k + 1) (get_or places (a + 1) 0)) refl
  where
    go : (x y : Bool) → ltb (k + 1) (get_or places (a + 1) 0) ≡ y → (x && ltb (j + 1) (get_or places (a + 1) 0)) ≡ false → (x && y) ≡ false
    go true true q e = let w = ltb-true (k + 1) (get_or places (a + 1) 0) q in sym (lt-ltb (j + 1) (get_or places (a + 1) 0) (omega arith)) ∙ e
    go true false q e = refl
    go false y q e = refl

-- the field part of a forward reference is one name
pub part_forward : (s : List ℕ) (p n j : ℕ) (t : Ty) → is_forward (bundle_of s) n j t (path_at s p) ≡ true → length (target_at s p).field ≡ 1
unfolding is_later_field
part_forward s p n j t e = go (target_at s p).field refl
  where
    no : (length (target_at s p).field ≡ 1 → ⊥) → ⊥
    no ne =
        let field = (target_at s p).field in
        let a = holds_no (stands_after j field) (λ ms. ap (holds (ltb j)) (no_first field ne ms)) (struct_of (bundle_of s) n) in
        false≢true (sym (rw (a, and_false (eqb (type_part s p) n))) ∙ e)

    go : (field : List ℕ) → (target_at s p).field ≡ field → length (target_at s p).field ≡ 1
    go [] q = absurd (no (λ z. let w : ◌≡◌ {A = ℕ} 0 1 = sym (ap length q) ∙ z in omega arith))
    go (f ∷ []) q = ap length q
    go (f ∷ g ∷ gs) q = absurd (no (λ z. let w = sym (ap length q) ∙ z in omega arith))

-- in the list from `from` to `end`, those before `next` are passed over: the first such reference is the first from `next` on
pub record Passed (places : List ℕ) (n j from end next : ℕ) : Type 0 where
  pub left : ℕ
  pub ends : next + 3 * left ≡ end
  pub same : (k : ℕ) → from + 3 * k ≡ end → later_from places n j left next ≡ later_from places n j k from

module _ {places : List ℕ} {n j from end next : ℕ} (c : Passed places n j from end next) where
  module _ (l : next < end) where
    pub passed_here : true ≡ is_later_at places n j next → (k : ℕ) → from + 3 * k ≡ end → Some next ≡ later_from places n j k from
    passed_here h k e = go c.left c.ends (c.same k e)
      where
        go : (m : ℕ) → next + 3 * m ≡ end → later_from places n j m next ≡ later_from places n j k from → Some next ≡ later_from places n j k from
        go zero q w = absurd (omega arith)
        go (suc m) q w = ap (λ b. cond b (Some next) (later_from places n j m (next + 3))) h ∙ w

    pub passed_next : false ≡ is_later_at places n j next → Passed places n j from end (next + 3)
    passed_next h = go c.left c.ends c.same
      where
        go : (m : ℕ) → next + 3 * m ≡ end → ((k : ℕ) → from + 3 * k ≡ end → later_from places n j m next ≡ later_from places n j k from) → Passed places n j from end (next + 3)
        go zero q w = absurd (omega arith)
        go (suc m) q w = record {
          left = m;
          ends = omega arith;
          same = λ k e. ap (λ b. cond b (Some next) (later_from places n j m (next + 3))) h ∙ w k e;
        }
