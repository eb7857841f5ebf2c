-- Where a reference stands inside a named type, the size of that type depends on it or its layout needs it, unless the type is
-- an array of constant size. So code for violation type 4 need not compare references (a remark of proofs only: the meaning follows the Rust).
use Prim.Native.Nat.{ℕ}
use mathlib.Core.Path.{◌≡◌, refl, ap, ap₂}
use mathlib.Core.Logic.{◌⊎◌, inl, inr}
use mathlib.Core.List.Memᴰ
use mathlib.Core.List.{List, [], ◌∷◌, ◌++◌, Memᴰ}
use mathlib.Core.Bool.{Bool, true, false, not, ◌&&◌, ◌||◌, false≢true}
use borrow.Author.Tests.{eq-eqb}
use Rattle.meaning.specs.Tree.{Expr, literal, field_ref, sizeof, alignof, binary, unary, Ty, primitive, type_ref, struct, union, enum, array, size_union, Member, member, Members, more, Bundle}
use Rattle.meaning.specs.Lists.{any, same_list}
use Rattle.meaning.specs.References.{collect_field_references_recursive, is_constant, collect_field_references_in_type_kind, references_in_member, references_in_members}
use Rattle.meaning.specs.Sizes.{type_size_depends_on_field_refs_recursive, member_size_depends, some_size_depends, named_size_depends}
use Rattle.meaning.specs.Violations.{type_needs_field_ref_for_layout}
use Rattle.notes.specs.Notes.{is_constant_array}

or_true : (x : Bool) {y : Bool} → y ≡ true → (x || y) ≡ true
or_true true e = refl
or_true false e = e

-- an expression is constant exactly where it has no reference
constant_none : (e : Expr) → is_constant e ≡ true → collect_field_references_recursive e ≡ []
constant_none (literal k v) c = refl
constant_none (field_ref path) c = absurd (false≢true c)
constant_none (sizeof n) c = refl
constant_none (alignof n) c = refl
constant_none (binary k l r) c = go (is_constant l) refl c (constant_none l) (constant_none r)
  where
    go : (t : Bool) → is_constant l ≡ t → (t && is_constant r) ≡ true
        → (is_constant l ≡ true → collect_field_references_recursive l ≡ []) → (is_constant r ≡ true → collect_field_references_recursive r ≡ [])
        → collect_field_references_recursive l ++ collect_field_references_recursive r ≡ []
    go true e c left right = ap₂ ◌++◌ (left e) (right c)
    go false e c left right = absurd (false≢true c)
constant_none (unary k e) c = constant_none e c

some_not_constant : (e : Expr) {path : List ℕ} → Memᴰ path (collect_field_references_recursive e) → not (is_constant e) ≡ true
some_not_constant e {path} m = go (is_constant e) refl
  where
    go : (t : Bool) → is_constant e ≡ t → not t ≡ true
    go true c = absurd (Memᴰ.not-nil (rw (constant_none e c) at m))
    go false c = refl

-- what is in one of two lists makes one of two tests true
either : {A : Type 0} (xs ys : List A) {x : A} {p q : Bool} → Memᴰ x (xs ++ ys) → (Memᴰ x xs → p ≡ true) → (Memᴰ x ys → q ≡ true)
    → (p || q) ≡ true
either xs ys {x} {p} {q} m left right = go (Memᴰ.append_cases xs m)
  where
    go : Memᴰ x xs ⊎ Memᴰ x ys → (p || q) ≡ true
    go (inl l) = rw (left l)
    go (inr r) = or_true p (right r)

module _ (known : ℕ → Bool) where
  -- a type with a reference inside has, inline, a size that depends on field references
  mutual
    inline_true : (t : Ty) {path : List ℕ} → Memᴰ path (collect_field_references_in_type_kind t) → type_size_depends_on_field_refs_recursive t known ≡ true
    inline_true (primitive k) m = absurd (Memᴰ.not-nil m)
    inline_true (type_ref n) m = absurd (Memᴰ.not-nil m)
    inline_true (struct a ms) m = some_true ms m
    inline_true (union a ms) m = some_true ms m
    inline_true (enum a tag ms) m =
        either (collect_field_references_recursive tag) (references_in_members ms) m (some_not_constant tag) (λ r. some_true ms r)
    inline_true (array a jagged size element) m =
        either (collect_field_references_recursive size) (collect_field_references_in_type_kind element) m (some_not_constant size) (λ r. inline_true element r)
    inline_true (size_union a ms) m = refl

    member_true : (m : Member) {path : List ℕ} → Memᴰ path (references_in_member m) → member_size_depends m known ≡ true
    member_true (member n v t) m = inline_true t m

    some_true : (ms : Members) {path : List ℕ} → Memᴰ path (references_in_members ms) → some_size_depends ms known ≡ true
    some_true Members.none m = absurd (Memᴰ.not-nil m)
    some_true (more x ms) m = either (references_in_member x) (references_in_members ms) m (λ l. member_true x l) (λ r. some_true ms r)

same_list_refl : (xs : List ℕ) → same_list xs xs ≡ true
same_list_refl [] = refl
same_list_refl (x ∷ xs) = rw (eq-eqb x x refl) (same_list_refl xs)

any_mem : {A : Type 0} (p : A → Bool) {x : A} {xs : List A} → p x ≡ true → Memᴰ x xs → any p xs ≡ true
any_mem p e (Memᴰ.head {x = y} q) = rw (← q, e)
any_mem p e (Memᴰ.tail {x = y} m) = or_true (p y) (any_mem p e m)

pub needs_iff : (b : Bundle) (t : Ty) {path : List ℕ} → Memᴰ path (collect_field_references_in_type_kind t)
    → (named_size_depends b t || type_needs_field_ref_for_layout t path) ≡ not (is_constant_array t)
unfolding named_size_depends
needs_iff b (primitive k) m = absurd (Memᴰ.not-nil m)
needs_iff b (type_ref n) m = absurd (Memᴰ.not-nil m)
needs_iff b (struct a ms) m = rw (some_true _ ms m)
needs_iff b (union a ms) m = rw (some_true _ ms m)
needs_iff b (enum a tag ms) {path} m = go (Memᴰ.append_cases (collect_field_references_recursive tag) m)
  where
    go : Memᴰ path (collect_field_references_recursive tag) ⊎ Memᴰ path (references_in_members ms)
        → (named_size_depends b (enum a tag ms) || any (same_list path) (collect_field_references_recursive tag)) ≡ true
    go (inl l) = or_true (named_size_depends b (enum a tag ms)) (any_mem (same_list path) (same_list_refl path) l)
    go (inr r) = rw (some_true _ ms r)
needs_iff b (array a jagged size element) {path} m = go (is_constant size) refl
  where
    go : (t : Bool) → is_constant size ≡ t → (not t || any (same_list path) (collect_field_references_recursive size)) ≡ not t
    go true c = ap (any (same_list path)) (constant_none size c)
    go false c = refl
needs_iff b (size_union a ms) m = absurd (Memᴰ.not-nil m)
