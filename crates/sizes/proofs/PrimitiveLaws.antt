-- The sizes of primitives, and variants that are all primitives of one size.
use Rattle.std.specs.Prelude.{None, Ok, Some}
use Prim.Native.Nat.{ℕ, zero, suc, ◌+◌, ◌-◌, ◌≤◌, ◌<◌}
use native.Mathlib.Nat.{not-suc-le-zero, le_of_suc-le-suc, eq-or-lt_of_le}
use native.Mathlib.Omega.{arith}
use mathlib.Core.Bool.{Bool, true, false, not, ◌&&◌, ◌||◌}
use mathlib.Core.Logic.{⊎_elim}
use mathlib.Core.Option.{Option, none as nothing, some}
use mathlib.Core.Path.{◌≡◌, refl, sym, ap, ◌∙◌}
use mathlib.Core.List.{List, [], ◌∷◌}
use lib.Dec.{T, leb, leb→le, eqb}
use lib.ListN.{length, get_or}
use borrow.Author.Tests.{eq-eqb, ne_eqb}
use Rattle.meaning.specs.Kinds.{Form, OfType, Primitive, form_of, lookup}
use Rattle.meaning.specs.Kinds as kinds
use Rattle.meaning.specs.Lists.{all, holds}
use Rattle.meaning.specs.Lookup.{list_of, as_primitive}
use Rattle.meaning.specs.ReadType.{member_head, read_members, read_ty}
use Rattle.meaning.specs.Sizes.{get_primitive_size, has_size, one_size, constant_size_variants, is_enum_with_constant_size_variants}
use Rattle.meaning.specs.Tree.{Member, member, more}
use Rattle.bundle.specs.View.{step_of, Reads, value_or}
use Rattle.bundle.specs.Definitions.{type_at, members_at, zero_group}
use Rattle.bundle.proofs.ExprLaws.{Opened}
use Rattle.bundle.proofs.TypeLaws.{primitive_ends}
use Rattle.bundle.proofs.TypeTrees.{type_deep, type_there, type_form, primitive_tree, type_ref_tree, struct_tree, union_tree, size_union_tree}
use Rattle.meaning.proofs.KindTable.{and_0, and_1}
use Rattle.bundle.proofs.Trees.{ended}
use Rattle.bundle.proofs.PartTrees.{member_type_reads, others_read, members_split}
use Rattle.bundle.proofs.Parts.{EnumParts, members_length, enum_at, array_at, members_none}
use Rattle.sizes.specs.Paths.{size_shown}

-- a test passes at each number below n
abbrev every : (ℕ → Bool) → ℕ → Bool
every f zero = true
every f (suc n) = f n && every f n

every_at : (f : ℕ → Bool) (n k : ℕ) → T (every f n) → k < n → T (f k)
every_at f zero k t h = absurd (not-suc-le-zero h)
every_at f (suc n) k t h =
    ⊎_elim (λ e. rw e (and_0 (f n) (every f n) t)) (λ l. every_at f n k (and_1 (f n) (every f n) t) l) (eq-or-lt_of_le (le_of_suc-le-suc h))

-- the kinds of primitives
abbrev is_primitive : Form → Bool
is_primitive (kinds.OfExpr e) = false
is_primitive (OfType Primitive) = true
is_primitive (OfType kinds.TypeRef) = false
is_primitive (OfType kinds.Struct) = false
is_primitive (OfType kinds.Union) = false
is_primitive (OfType kinds.Enum) = false
is_primitive (OfType kinds.Array) = false
is_primitive (OfType kinds.SizeUnion) = false
is_primitive (kinds.OfMember w) = false
is_primitive (kinds.OfRecord x y z) = false
is_primitive kinds.Unknown = false

pub primitive_kind : (k : ℕ) → k < 256 → form_of k ≡ OfType Primitive → (0x30 ≤ k) × (k ≤ 0x3B)
unfolding lookup
primitive_kind k h e = go (every_at (λ k. not (is_primitive (form_of k)) || (leb 0x30 k && leb k 0x3B)) 256 k tt h)
  where
    go : T (not (is_primitive (form_of k)) || (leb 0x30 k && leb k 0x3B)) → (0x30 ≤ k) × (k ≤ 0x3B)
    go t =
        let u : T (leb 0x30 k && leb k 0x3B) = rw e at t in
        (leb→le 0x30 k (and_0 (leb 0x30 k) (leb k 0x3B) u), leb→le k 0x3B (and_1 (leb 0x30 k) (leb k 0x3B) u))

-- a type that was read, by its form
module _ {d at : ℕ} {s : List ℕ} {f : Form} (o : Opened d at s f) (r : Reads (read_ty d s at)) where
  abbrev primitive_by : kinds.TypeForm → Option ℕ
  primitive_by Primitive = some (get_or s at 0)
  primitive_by kinds.TypeRef = nothing
  primitive_by kinds.Struct = nothing
  primitive_by kinds.Union = nothing
  primitive_by kinds.Enum = nothing
  primitive_by kinds.Array = nothing
  primitive_by kinds.SizeUnion = nothing

  pub primitive_by_lem : (t : kinds.TypeForm) → f ≡ OfType t → as_primitive (type_at d s at) ≡ primitive_by t
  primitive_by_lem Primitive p = rw (primitive_tree o r p)
  primitive_by_lem kinds.TypeRef p = rw (type_ref_tree o r p)
  primitive_by_lem kinds.Struct p = rw (struct_tree o r zero_group p)
  primitive_by_lem kinds.Union p = rw (union_tree o r zero_group p)
  primitive_by_lem kinds.SizeUnion p = rw (size_union_tree o r zero_group p)
  primitive_by_lem kinds.Enum p = rw (enum_at o r p).parts.tree
  primitive_by_lem kinds.Array p = rw (array_at o r p).parts.tree

  -- not a primitive
  pub primitive_not : (f ≡ OfType Primitive → ⊥) → size_shown (as_primitive (type_at d s at)) ≡ None
  primitive_not q = let t = type_form o r in go t.0 t.1
    where
      go : (t : kinds.TypeForm) → f ≡ OfType t → size_shown (as_primitive (type_at d s at)) ≡ None
      go Primitive p = absurd (q p)
      go kinds.TypeRef p = ap size_shown (primitive_by_lem kinds.TypeRef p)
      go kinds.Struct p = ap size_shown (primitive_by_lem kinds.Struct p)
      go kinds.Union p = ap size_shown (primitive_by_lem kinds.Union p)
      go kinds.Enum p = ap size_shown (primitive_by_lem kinds.Enum p)
      go kinds.Array p = ap size_shown (primitive_by_lem kinds.Array p)
      go kinds.SizeUnion p = ap size_shown (primitive_by_lem kinds.SizeUnion p)

  -- not an enum
  pub constant_enum_not : (f ≡ OfType kinds.Enum → ⊥) → is_enum_with_constant_size_variants (type_at d s at) ≡ false
  constant_enum_not q = let t = type_form o r in go t.0 t.1
    where
      go : (t : kinds.TypeForm) → f ≡ OfType t → is_enum_with_constant_size_variants (type_at d s at) ≡ false
      go Primitive p = rw (primitive_tree o r p)
      go kinds.TypeRef p = rw (type_ref_tree o r p)
      go kinds.Struct p = rw (struct_tree o r zero_group p)
      go kinds.Union p = rw (union_tree o r zero_group p)
      go kinds.Enum p = absurd (q p)
      go kinds.Array p = rw (array_at o r p).parts.tree
      go kinds.SizeUnion p = rw (size_union_tree o r zero_group p)

-- a primitive ends behind its kind byte
primitive_ends_at : (d at w : ℕ) (s : List ℕ) → Reads (read_ty d s at) → Some w ≡ size_shown (as_primitive (type_at d s at)) → Ok (at + 1) ≡ step_of (read_ty d s at)
primitive_ends_at d at w s r e = let t = type_form o r in go t.0 t.1
  where
    o : Opened d at s (form_of (get_or s at 0))
    o = record { deep = type_deep d at s r; there = type_there d at s r; form = refl }

    other : (t : kinds.TypeForm) → form_of (get_or s at 0) ≡ OfType t → primitive_by o r t ≡ nothing → ⊥
    other t p q = let h = e ∙ ap size_shown (primitive_by_lem o r t p ∙ q) in let z : ◌≡◌ {A = ℕ} 0 1 = cc in omega arith

    go : (t : kinds.TypeForm) → form_of (get_or s at 0) ≡ OfType t → Ok (at + 1) ≡ step_of (read_ty d s at)
    go Primitive p = sym (primitive_ends o p)
    go kinds.TypeRef p = absurd (other kinds.TypeRef p refl)
    go kinds.Struct p = absurd (other kinds.Struct p refl)
    go kinds.Union p = absurd (other kinds.Union p refl)
    go kinds.Enum p = absurd (other kinds.Enum p refl)
    go kinds.Array p = absurd (other kinds.Array p refl)
    go kinds.SizeUnion p = absurd (other kinds.SizeUnion p refl)

-- a test of the size that was shown
shown_holds : (test : ℕ → Bool) (w : ℕ) (x : Option ℕ) → Some w ≡ size_shown x → holds (λ k. test (get_primitive_size k)) x ≡ test w
shown_holds test w (some k) e = let p : get_primitive_size k ≡ w = cc in ap test p
shown_holds test w nothing e = let z : ◌≡◌ {A = ℕ} 0 1 = cc in absurd (omega arith)

shown_other : (test : ℕ → Bool) (x : Option ℕ) → None ≡ size_shown x → holds test x ≡ false
shown_other test nothing e = refl
shown_other test (some k) e = let z : ◌≡◌ {A = ℕ} 0 1 = cc in absurd (omega arith)

-- the first of n variants that were read at `at`, whose type stands at i
module _ (d : ℕ) (s : List ℕ) (n at : ℕ) (h : 0 < n) (r : Reads (read_members (read_ty d) 0x52 n s at)) (i : ℕ) (e : Ok i ≡ step_of (member_head 0x52 s at)) where
  t_reads : Reads (read_ty d s i)
  t_reads = member_type_reads d 0x52 s n at h r i e

  -- it is a primitive of w bytes
  module _ (w : ℕ) (q : Some w ≡ size_shown (as_primitive (type_at d s i))) where
    g : Ok (i + 1) ≡ step_of (read_ty d s i)
    g = primitive_ends_at d i w s t_reads q

    pub variants_read : Reads (read_members (read_ty d) 0x52 (n - 1) s (i + 1))
    variants_read = others_read d 0x52 s n at h r i e (i + 1) g

    all_first : (size : ℕ) → all (has_size size) (list_of (members_at d 0x52 n s at)) ≡ (eqb w size && all (has_size size) (list_of (members_at d 0x52 (n - 1) s (i + 1))))
    all_first size =
        rw (members_split d 0x52 s n at h r i e (i + 1) g)
        (ap (λ x. x && all (has_size size) (list_of (members_at d 0x52 (n - 1) s (i + 1)))) (shown_holds (λ v. eqb v size) w (as_primitive (type_at d s i)) q))

    pub all_later : (size : ℕ) → w ≡ size → all (has_size size) (list_of (members_at d 0x52 (n - 1) s (i + 1))) ≡ all (has_size size) (list_of (members_at d 0x52 n s at))
    all_later size p = sym (all_first size ∙ rw (eq-eqb w size p))

    pub all_not : (size : ℕ) → (w ≡ size → ⊥) → all (has_size size) (list_of (members_at d 0x52 n s at)) ≡ false
    all_not size p = all_first size ∙ rw (ne_eqb w size p)

    pub one_is : all (has_size w) (list_of (members_at d 0x52 n s at)) ≡ one_size (list_of (members_at d 0x52 n s at))
    one_is =
        let tree = members_split d 0x52 s n at h r i e (i + 1) g in
        let own = value_or (0, 0) (member_head 0x52 s at) in
        let ms = list_of (more (member own.0 own.1 (type_at d s i)) (members_at d 0x52 (n - 1) s (i + 1))) in
        rw tree (sym (shown_holds (λ v. all (has_size v) ms) w (as_primitive (type_at d s i)) q))

  -- it is no primitive
  module _ (q : None ≡ size_shown (as_primitive (type_at d s i))) where
    pub all_other : (size : ℕ) → all (has_size size) (list_of (members_at d 0x52 n s at)) ≡ false
    all_other size =
        let j = ended (read_ty d s i) t_reads in
        rw (members_split d 0x52 s n at h r i e j.0 j.1, shown_other (λ k. eqb (get_primitive_size k) size) (as_primitive (type_at d s i)) q)

    pub one_other : one_size (list_of (members_at d 0x52 n s at)) ≡ false
    one_other =
        let j = ended (read_ty d s i) t_reads in
        rw (members_split d 0x52 s n at h r i e j.0 j.1) (shown_other _ (as_primitive (type_at d s i)) q)

-- no variant
pub all_none : (d : ℕ) (s : List ℕ) (n at size : ℕ) → n ≡ 0 → all (has_size size) (list_of (members_at d 0x52 n s at)) ≡ true
all_none d s n at size e = rw (members_none d 0x52 s n at e)

pub one_none : (d : ℕ) (s : List ℕ) (n at : ℕ) → n ≡ 0 → one_size (list_of (members_at d 0x52 n s at)) ≡ false
one_none d s n at e = rw (members_none d 0x52 s n at e)

-- all n variants that were read at `at` have this size where those from number k on have it, which stand at `next`
module _ (d : ℕ) (s : List ℕ) (n at size : ℕ) where
  pub record Passing (k next : ℕ) : Type 0 where
    pub reads : Reads (read_members (read_ty d) 0x52 (n - k) s next)
    pub same : all (has_size size) (list_of (members_at d 0x52 (n - k) s next)) ≡ all (has_size size) (list_of (members_at d 0x52 n s at))

  pub passing_next : {k next : ℕ} → Passing k next → k < n → (i : ℕ) → Ok i ≡ step_of (member_head 0x52 s next)
      → (w : ℕ) → Some w ≡ size_shown (as_primitive (type_at d s i)) → w ≡ size → Passing (k + 1) (i + 1)
  passing_next {k} {next} g h i e w q p =
      let z : n - (k + 1) ≡ n - k - 1 = omega arith in
      record {
        reads = rw z (variants_read d s (n - k) next (omega arith) g.reads i e w q);
        same = rw z (all_later d s (n - k) next (omega arith) g.reads i e w q size p ∙ g.same);
      }

-- two variants or more, and fewer
list_few : (ms : List Member) → length ms < 2 → constant_size_variants ms ≡ false
list_few [] h = refl
list_few (m ∷ []) h = refl
list_few (m ∷ n ∷ ms) h = absurd (omega arith)

list_more : (ms : List Member) → (length ms < 2 → ⊥) → one_size ms ≡ constant_size_variants ms
list_more [] h = absurd (h (omega arith))
list_more (m ∷ []) h = absurd (h (omega arith))
list_more (m ∷ n ∷ ms) h = refl

-- an enum, whose tag started at i and ended at j
module _ {d : ℕ} {s : List ℕ} {at n i j : ℕ} (g : EnumParts d s at n i j) where
  size : length (list_of (members_at (d - 1) 0x52 n s j)) ≡ n
  size = members_length (d - 1) 0x52 s n j g.reads

  pub constant_few : n < 2 → is_enum_with_constant_size_variants (type_at d s at) ≡ false
  constant_few h = rw g.tree (list_few (list_of (members_at (d - 1) 0x52 n s j)) (omega (arith, size)))

  pub constant_more : (n < 2 → ⊥) → one_size (list_of (members_at (d - 1) 0x52 n s j)) ≡ is_enum_with_constant_size_variants (type_at d s at)
  constant_more h = rw g.tree (list_more (list_of (members_at (d - 1) 0x52 n s j)) (λ l. h (omega (arith, size))))
