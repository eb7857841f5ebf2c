-- The named-type test of a definition's type by its own record, with the tag or size behind it.
use Rattle.std.specs.Prelude.{Option, Some, None, Result, Err, Ok, is_some}
use Rattle.std.specs.Result.{result_ok}
use Rattle.std.specs.Bool.{then_some}
use Prim.Native.Nat.{ℕ, ◌+◌, ◌≤◌, ◌<◌}
use native.Mathlib.Omega.{arith}
use mathlib.Core.Bool.{true≢false, Bool, true, false, not, ◌&&◌, ◌||◌}
use mathlib.Core.Path.{◌≡◌, refl, sym, ap, ◌∙◌}
use mathlib.Core.List.{List, [], ◌∷◌, append-nil}
use lib.ListN.{length, get_or}
use Rattle.meaning.specs.Kinds.{Form, form_of, OfType, Primitive, TypeRef, Struct, Union, Enum, Array, SizeUnion}
use Rattle.meaning.specs.Lookup.{list_of}
use Rattle.meaning.specs.ReadExpr.{read_expr}
use Rattle.meaning.specs.ReadType.{head, read_members, read_ty}
use Rattle.meaning.specs.References.{is_constant}
use Rattle.meaning.specs.Sizes.{one_size, some_size_depends}
use Rattle.refusal.specs.declared.Refusal.{Refusal}
use Rattle.bundle.specs.View.{step_of, count_of, Reads}
use Rattle.bundle.specs.Definitions.{type_at, members_at, zero_group}
use Rattle.bundle.specs.Expressions.{expr_at}
use Rattle.bundle.proofs.ExprLaws.{Opened}
use Rattle.bundle.proofs.Trees.{ended_reads}
use Rattle.bundle.proofs.TypeTrees.{type_there, primitive_tree, type_ref_tree, struct_tree, union_tree, size_union_tree}
use Rattle.bundle.proofs.Parts.{type_opened, EnumParts, enum_count, tag_read, enum_parts, array_at}
use Rattle.bundle.proofs.Heads.{count_refused}
use Rattle.scan.specs.Parts.{other, expr_parts, type_parts, members_parts}
use Rattle.scan.proofs.Flat.{expr_flat, type_flat, members_flat}
use Rattle.sizes.specs.Tests.{known, named_holds}
use Rattle.sizes.proofs.ReferenceLaws.{expr_no}
use Rattle.size_tests.specs.Scans.{inline_holds, some_counts, Rest, HeadTested}
use Rattle.size_tests.proofs.CountLaws.{members_size, inline_counts, counts_none}

-- what was read, where `ok` gave it
pub was_ok : {A : Type 0} {r m : Result A Refusal} {o : Option A} {a : A} → r ≡ m → o ≡ result_ok r → o ≡ Some a → Ok a ≡ m
was_ok {r = Ok b} {m} {o} {a} e f g = let b_is : Some b ≡ Some a = sym f ∙ g in sym (ap Ok (cc)) ∙ e
was_ok {r = Err k} e f g = absurd (true≢false (sym (ap is_some (sym f ∙ g))))

-- the refusal, where `ok` gave none
pub was_err : {A : Type 0} {r m : Result A Refusal} {o : Option A} → r ≡ m → o ≡ result_ok r → o ≡ None → (k : Refusal) × (Err k ≡ m)
was_err {r = Ok b} e f g = absurd (true≢false (ap is_some (sym f ∙ g)))
was_err {r = Err k} e f g = (k, e)

module _ (s : List ℕ) (at : ℕ) {end : ℕ} (e : Ok end ≡ step_of (read_ty 24 s at)) where
  pub head_reads : Reads (read_ty 24 s at)
  head_reads = ended_reads (read_ty 24 s at) end e

  pub head_there : at < length s
  head_there = type_there 24 at s head_reads

  -- all records are to be tested, or none
  all_left : (j : Bool) → named_holds j s (type_at 24 s at) ≡ inline_holds j s (type_at 24 s at) → Rest s j at end at
  all_left j q =
      let ps = type_parts (type_at 24 s at) in
      record { before = []; parts = ps; run = (type_flat s 24 at end e).run; split = refl; is = q ∙ sym (inline_counts j s (type_at 24 s at)) }

  none_left : (j : Bool) → named_holds j s (type_at 24 s at) ≡ false → Rest s j at end end
  none_left j q = record { before = type_parts (type_at 24 s at); parts = []; run = refl; split = sym (append-nil (type_parts (type_at 24 s at))); is = q ∙ sym (counts_none j s) }

  pub jagged_head : Rest s true at end at
  unfolding named_holds inline_holds
  jagged_head = all_left true refl

  module _ {f : Form} (o : Opened 24 at s f) where
    pub primitive_head : f ≡ OfType Primitive → Rest s false at end end
    unfolding named_holds
    primitive_head p = none_left false (rw (primitive_tree o head_reads p))

    pub type_ref_head : f ≡ OfType TypeRef → Rest s false at end end
    unfolding named_holds
    type_ref_head p = none_left false (rw (type_ref_tree o head_reads p))

    pub struct_head : f ≡ OfType Struct → Rest s false at end at
    unfolding named_holds inline_holds
    struct_head p = all_left false (rw (struct_tree o head_reads zero_group p))

    pub union_head : f ≡ OfType Union → Rest s false at end at
    unfolding named_holds inline_holds
    union_head p = all_left false (rw (union_tree o head_reads zero_group p))

    pub size_union_head : f ≡ OfType SizeUnion → named_holds false s (type_at 24 s at) ≡ true
    unfolding named_holds
    size_union_head p = rw (size_union_tree o head_reads zero_group p)

  module _ (p : form_of (get_or s at 0) ≡ OfType Array) where
    array_opened : Opened 24 at s (form_of (get_or s at 0))
    array_opened = type_opened 24 at s _ head_reads refl

    pub array_there : at + 11 ≤ length s
    array_there = let a = array_at array_opened head_reads p in omega (arith, a.parts.start, a.parts.bound)

    pub size_reads : Reads (read_expr 23 s (at + 11))
    size_reads = let a = array_at array_opened head_reads p in rw (← a.parts.start) (ended_reads (read_expr 23 s a.i) a.j a.size)

    array_is : named_holds false s (type_at 24 s at) ≡ not (is_constant (expr_at 23 s (at + 11)))
    unfolding named_holds
    array_is = let a = array_at array_opened head_reads p in ap (named_holds false s) a.parts.tree ∙ ap (λ i. not (is_constant (expr_at 23 s i))) a.parts.start

    -- its size counts, and not its element
    pub array_tested : {b : Bool} → b ≡ is_constant (expr_at 23 s (at + 11)) → HeadTested s false at end (then_some b end)
    array_tested {b = true} q = none_left false (array_is ∙ rw (← q))
    array_tested {b = false} q = array_is ∙ rw (← q)

  -- an enum has a member count and a tag
  module _ (p : form_of (get_or s at 0) ≡ OfType Enum) where
    enum_opened : Opened 24 at s (form_of (get_or s at 0))
    enum_opened = type_opened 24 at s _ head_reads refl

    pub no_count_lem : {k : Refusal} → Err k ≡ count_of (head 2 s (at + 1)) → ⊥
    no_count_lem {k} c = count_refused (at + 1) k s (enum_count enum_opened head_reads p) c

    pub no_tag : {n i : ℕ} {k : Refusal} → Ok (n, i) ≡ count_of (head 2 s (at + 1)) → Err k ≡ step_of (read_expr 23 s i) → ⊥
    no_tag {n} {i} {k} c g = expr_no 23 i k s (tag_read enum_opened head_reads p n i c) g

  -- the tag starts at i and ended at k
  module _ (p : form_of (get_or s at 0) ≡ OfType Enum) {n i k : ℕ} (c : Ok (n, i) ≡ count_of (head 2 s (at + 1))) (g : Ok k ≡ step_of (read_expr 23 s i)) where
    parts : EnumParts 24 s at n i k
    parts = enum_parts (enum_opened p) head_reads p n i c k g

    pub variants_reads : Reads (read_members (read_ty 23) 0x52 n s k)
    variants_reads = parts.reads

    enum_is : named_holds false s (type_at 24 s at) ≡ (some_size_depends (members_at 23 0x52 n s k) (known false s) || (not (one_size (list_of (members_at 23 0x52 n s k))) && not (is_constant (expr_at 23 s i))))
    unfolding named_holds
    enum_is = ap (named_holds false s) parts.tree

    -- the tag does not count
    untagged : ((x : Bool) → (x || (not (one_size (list_of (members_at 23 0x52 n s k))) && not (is_constant (expr_at 23 s i)))) ≡ x) → Rest s false at end k
    unfolding some_counts
    untagged h = record {
      before = other ∷ expr_parts (expr_at 23 s i);
      parts = members_parts (members_at 23 0x52 n s k);
      run = (members_flat s 23 0x52 n k end (expr_flat s 23 i k g).bound (e ∙ parts.ends)).run;
      split = ap type_parts parts.tree;
      is = enum_is ∙ h (some_size_depends (members_at 23 0x52 n s k) (known false s)) ∙ sym (members_size (known false s) (members_at 23 0x52 n s k));
    }

    constant_tested : true ≡ is_constant (expr_at 23 s i) → Rest s false at end k
    constant_tested q = untagged (λ x. rw (← q) (go x (not (one_size (list_of (members_at 23 0x52 n s k))))))
      where
        go : (x y : Bool) → (x || (y && false)) ≡ x
        go true y = refl
        go false true = refl
        go false false = refl

    pub enum_constant : {b : Bool} → b ≡ true → true ≡ is_constant (expr_at 23 s i) → HeadTested s false at end (then_some b k)
    enum_constant e q = rw e (constant_tested q)

    pub enum_tested : {b : Bool} → false ≡ is_constant (expr_at 23 s i) → b ≡ one_size (list_of (members_at 23 0x52 n s k)) → HeadTested s false at end (then_some b k)
    enum_tested {b = true} q r = untagged (λ x. rw (← r) (go x))
      where
        go : (x : Bool) → (x || false) ≡ x
        go true = refl
        go false = refl
    enum_tested {b = false} q r = enum_is ∙ rw (← q, ← r) (go (some_size_depends (members_at 23 0x52 n s k) (known false s)))
      where
        go : (x : Bool) → (x || true) ≡ true
        go true = refl
        go false = refl
