-- The tests of named types, without fuel: where nothing circles, `answer` is the test with itself for `known`.
--     Reads                  a test looks at the names that the type leads to, and at no other
--     within_enough          what is settled has the same answer from then on
--     answer_equation        the law; named-equation and jagged-equation are its two uses
use Prim.Native.Nat.{ℕ, zero, suc, ◌≤◌, ◌<◌}
use mathlib.Core.Path.{◌≡◌, refl, sym, ap, ap₂, ◌∙◌}
use mathlib.Core.List.Memᴰ
use mathlib.Core.List.{List, ◌++◌, map, Memᴰ}
use mathlib.Core.Bool.{Bool, true, false, not, ◌&&◌, ◌||◌}
use mathlib.Core.Option.{Option, none, some}
use native.Mathlib.Omega.{arith}
use native.Mathlib.Nat.{le_of_suc-le-suc}
use lib.Dec.{eqb}
use lib.ListN.{length-map}
use Rattle.meaning.specs.Tree.{Ty, primitive, type_ref, struct, union, enum, array, size_union, Member, member, Members, more, Bundle}
use Rattle.meaning.specs.Lists.{holds}
use Rattle.meaning.specs.Lookup.{count, definition_of, find_type}
use Rattle.meaning.specs.Circle.{type_names, type_names_of_member, type_names_of_members, resolve, names_in, leads_to, settled, circles}
use Rattle.meaning.specs.Sizes.{type_size_depends_on_field_refs_recursive, member_size_depends, some_size_depends, type_size_depends_on_field_refs, type_contains_jagged_array, member_contains_jagged, some_contains_jagged, Test, within, answer}
use Rattle.meaning.specs.Renumbering.{map_ty, map_member, map_members}
use Rattle.meaning.proofs.Lists.{get_elem?_below}
use Rattle.meaning.proofs.Trees.{is_constant_map, one_size_map}
use Rattle.meaning.proofs.Renaming.{map_ty_id}
use Rattle.meaning.proofs.Circle.{resolve_mem, settled_zero, settled_step, settled_of}

-- a test asks of names only those that the type leads to, and does not see how they are written
abbrev pub Reads : Test → Type 0
Reads test = (f : ℕ → ℕ) (known known' : ℕ → Bool) (t : Ty)
    → ((n : ℕ) → Memᴰ n (type_names t) → known' (f n) ≡ known n) → test (map_ty f t) known' ≡ test t known

module _ (f : ℕ → ℕ) (known known' : ℕ → Bool) where
  -- the two agree on the names
  abbrev Agree : List ℕ → Type 0
  Agree ns = (n : ℕ) → Memᴰ n ns → known' (f n) ≡ known n

  agree_left : (ms ns : List ℕ) → Agree (ms ++ ns) → Agree ms
  agree_left ms ns h n m = h n (Memᴰ.append_left ns m)

  agree_right : (ms ns : List ℕ) → Agree (ms ++ ns) → Agree ns
  agree_right ms ns h n m = h n (Memᴰ.append_right ms m)

  mutual
    inline_reads : (t : Ty) → Agree (type_names t)
        → type_size_depends_on_field_refs_recursive (map_ty f t) known' ≡ type_size_depends_on_field_refs_recursive t known
    inline_reads (primitive k) h = refl
    inline_reads (type_ref n) h = h n (Memᴰ.head refl)
    inline_reads (struct a ms) h = some_reads ms h
    inline_reads (union a ms) h = some_reads ms h
    inline_reads (enum a tag ms) h = ap₂ (λ x y. not x || y) (is_constant_map f tag) (some_reads ms h)
    inline_reads (array a jagged size element) h = ap₂ (λ x y. not x || y) (is_constant_map f size) (inline_reads element h)
    inline_reads (size_union a ms) h = refl

    member_reads : (m : Member) → Agree (type_names_of_member m) → member_size_depends (map_member f m) known' ≡ member_size_depends m known
    member_reads (member n v t) h = inline_reads t h

    some_reads : (ms : Members) → Agree (type_names_of_members ms) → some_size_depends (map_members f ms) known' ≡ some_size_depends ms known
    some_reads Members.none h = refl
    some_reads (more m ms) h =
        ap₂ ◌||◌ (member_reads m (agree_left _ (type_names_of_members ms) h)) (some_reads ms (agree_right (type_names_of_member m) _ h))

  named_reads : (t : Ty) → Agree (type_names t) → type_size_depends_on_field_refs (map_ty f t) known' ≡ type_size_depends_on_field_refs t known
  named_reads (primitive k) h = refl
  named_reads (type_ref n) h = refl
  named_reads (struct a ms) h = some_reads ms h
  named_reads (union a ms) h = some_reads ms h
  named_reads (enum a tag ms) h =
      ap₂ ◌||◌ (some_reads ms h) (ap₂ (λ x y. not x && not y) (one_size_map f ms) (is_constant_map f tag))
  named_reads (array a jagged size element) h = ap not (is_constant_map f size)
  named_reads (size_union a ms) h = refl

  mutual
    jagged_reads : (t : Ty) → Agree (type_names t) → type_contains_jagged_array (map_ty f t) known' ≡ type_contains_jagged_array t known
    jagged_reads (primitive k) h = refl
    jagged_reads (type_ref n) h = h n (Memᴰ.head refl)
    jagged_reads (struct a ms) h = some_jagged_reads ms h
    jagged_reads (union a ms) h = some_jagged_reads ms h
    jagged_reads (enum a tag ms) h = some_jagged_reads ms h
    jagged_reads (array a jagged size element) h = ap (eqb jagged 1 ||◌) (jagged_reads element h)
    jagged_reads (size_union a ms) h = some_jagged_reads ms h

    member_jagged_reads : (m : Member) → Agree (type_names_of_member m) → member_contains_jagged (map_member f m) known' ≡ member_contains_jagged m known
    member_jagged_reads (member n v t) h = jagged_reads t h

    some_jagged_reads : (ms : Members) → Agree (type_names_of_members ms) → some_contains_jagged (map_members f ms) known' ≡ some_contains_jagged ms known
    some_jagged_reads Members.none h = refl
    some_jagged_reads (more m ms) h =
        ap₂ ◌||◌ (member_jagged_reads m (agree_left _ (type_names_of_members ms) h)) (some_jagged_reads ms (agree_right (type_names_of_member m) _ h))

pub inline_test : Reads type_size_depends_on_field_refs_recursive
inline_test = inline_reads

pub named_test : Reads type_size_depends_on_field_refs
named_test = named_reads

pub jagged_test : Reads type_contains_jagged_array
jagged_test = jagged_reads

-- what is found has a definition, and leads where the names of its type lead
found_below : (b : Bundle) (n : ℕ) {t : Ty} → find_type b n ≡ some t → definition_of b n < count b
unfolding find_type
found_below b n e = rw length-map at (get_elem?_below (map (λ d. d.type) b.definitions) (definition_of b n) e)

found_leads : (b : Bundle) (n : ℕ) {t : Ty} → find_type b n ≡ some t → leads_to b (definition_of b n) ≡ resolve b (type_names t)
unfolding find_type leads_to
found_leads b n e = ap (λ o. resolve b (names_in o)) e

module _ (test : Test) (reads : Reads test) (b : Bundle) where
  -- a name without a definition has the answer false at once
  within_none : (k n : ℕ) → find_type b n ≡ none → within test b k n ≡ false
  unfolding within
  within_none zero n e = refl
  within_none (suc k) n e = rw e refl

  -- what is settled has the same answer from then on
  pub within_enough : (k m n : ℕ) → k ≤ m → settled b k (definition_of b n) ≡ true → within test b m n ≡ within test b k n
  unfolding within
  within_enough zero m n l h = absurd (settled_zero b _ h)
  within_enough (suc k) zero n l h = absurd (omega arith)
  within_enough (suc k) (suc m) n l h = go (find_type b n) refl (λ j. within_enough k m j (le_of_suc-le-suc l))
    where
      go : (o : Option Ty) → find_type b n ≡ o
          → ((j : ℕ) → settled b k (definition_of b j) ≡ true → within test b m j ≡ within test b k j)
          → holds (λ t. test t (within test b m)) o ≡ holds (λ t. test t (within test b k)) o
      go none e ih = refl
      go (some t) e ih =
          ap (λ s. test s (within test b m)) (sym (map_ty_id t))
          ∙ reads (λ j. j) (within test b k) (within test b m) t (λ j mem. same j mem (find_type b j) refl)
        where
          same : (j : ℕ) → Memᴰ j (type_names t) → (o : Option Ty) → find_type b j ≡ o → within test b m j ≡ within test b k j
          same j mem none q = within_none m j q ∙ sym (within_none k j q)
          same j mem (some u) q =
              ih j (settled_step b k (definition_of b n) (definition_of b j) h (rw (found_leads b n e) (resolve_mem b mem (found_below b j q))))

  -- where nothing circles, the test of a name is the test of its first definition with itself for `known`
  pub answer_equation : circles b ≡ false → (n : ℕ) → answer test b n ≡ holds (λ t. test t (answer test b)) (find_type b n)
  unfolding answer within
  answer_equation c n = go (find_type b n) refl
    where
      go : (o : Option Ty) → find_type b n ≡ o → within test b (count b) n ≡ holds (λ t. test t (within test b (count b))) o
      go none e = within_none (count b) n e
      go (some t) e =
          sym (within_enough (count b) (suc (count b)) n (omega arith) (settled_of b c (definition_of b n) (found_below b n e)))
          ∙ ap (holds (λ s. test s (within test b (count b)))) e
