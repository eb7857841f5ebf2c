-- Where a definition's fields are, and their offsets, in the form in which the code returns them.
use Rattle.std.specs.Prelude.{Err, None, Ok, Option, Result}
use Rattle.std.specs.Option.{unwrap_or}
use Rattle.std.proofs.lemmas.List.{get_or_default}
use Rattle.refusal.specs.declared.Refusal.{Refusal}
use Rattle.refusal.specs.declared.Refusal.TheVariants.{NoRoom, Varies}
use Rattle.refusal.specs.Numbers.{number}
use Prim.Native.Nat.{ℕ, zero, suc, ◌+◌, ◌-◌, ◌*◌, ◌≤◌, ◌<◌, max}
use native.Mathlib.Omega.{arith}
use native.Mathlib.Numerals.{add-one}
use mathlib.Core.Bool.{Bool, true, false, cond, true≢false, false≢true}
use mathlib.Core.List.{List, [], ◌∷◌, ◌++◌, Memᴰ, append_assoc, append-nil}
use mathlib.Core.Option.{none as nothing}
use mathlib.Core.Path.{◌≡◌, refl, sym, ap, subst, ◌∙◌}
use lib.ListN.{length, get_or, set, take, drop, length-set, take-append-drop}
use lib.Seq.{take-suc-set, drop-set-lt}
use borrow.Author.Tests.{le-leb, lt-leb, leb-true}
use lib.Dec.{leb}
use Rattle.meaning.specs.Circle.{type_names, resolve, leads_to, circles}
use Rattle.meaning.specs.Kinds.{Form, TypeForm, OfType, Primitive, TypeRef, Struct, Union, Enum, Array, SizeUnion}
use Rattle.meaning.specs.Lookup.{count, definition_of, find_type}
use Rattle.meaning.specs.Lookup as lookup
use Rattle.meaning.specs.Reader.{little}
use Rattle.meaning.proofs.Heads.{little_2}
use Rattle.meaning.specs.ReadType.{head, read_group, read_members, read_ty}
use Rattle.meaning.specs.Tree.{Ty, type_ref, struct, Attributes, more, none, Bundle}
use Rattle.meaning.specs.Tree as tree
use Rattle.meaning.specs.Calls.{Outcome, refusal, on_bundle, due_of, answer_of, places_after}
use Rattle.bundle.specs.declared.Layout.{Layout}
use Rattle.bundle.specs.View.{count_of, Reads, value_or}
use Rattle.bundle.specs.Definitions.{type_at, members_at, zero_group, bundle_of, Table}
use Rattle.bundle.specs.Opened.{LayoutOf}
use Rattle.bundle.proofs.ExprLaws.{Opened}
use Rattle.scan.specs.Parts.{lead, type_parts, is_lead}
use Rattle.scan.specs.Scan.{record_name, part_at, Run}
use Rattle.scan.proofs.ScanLaws.{leading}
use Rattle.scan.proofs.Walks.{lead_one, definition_flat}
use Rattle.bundle.proofs.LookupLaws.{placed_at, placed_type, found_none}
use Rattle.bundle.proofs.TypeTrees.{type_form, primitive_tree, type_ref_tree, struct_reads, struct_tree, union_tree, size_union_tree, group_reads, group_value}
use Rattle.bundle.proofs.Heads.{count_where}
use Rattle.bundle.proofs.Parts.{enum_at, array_at, members_none, members_length}
use Rattle.fixed_meaning.specs.Extent as meaning
use Rattle.fixed_meaning.specs.Extent.{sized, unsized, largest, bounded, offset_of, with_field, is_alignment, rounded, closed}
use Rattle.fixed_meaning.proofs.Within.{Agree, measure_local, offsets_local, extent_equation, no_definition}
use Rattle.fixed_meaning.specs.Fixed.{measure, measure_member, measure_all, measured, extent_of, field_offset, field_offsets, offsets_of, offsets_in, offsets_within, definition_extent, definition_offsets, given, sizing, placing}
use Rattle.extents.specs.declared.extent.Extent.{Extent}
use Rattle.extents.specs.declared.extent.Members.{Members}
use Rattle.extents.specs.declared.Unsized.{Unsized}
use Rattle.extents.specs.declared.Unsized.TheVariants.{Circle}
use Rattle.extents.specs.Meant.{reason, extent_meant, members_meant, mark, packing_of, attributes}
use Rattle.extents.proofs.Parts.{with_packing, offset_packing}
use Rattle.fixed.specs.declared.Measured.{Measured}
use Rattle.fixed.specs.Kept.{Extents, known}
use Rattle.fixed.specs.Walk.{join_of, member_of, members_of, MemberMeasured}
use Rattle.fixed.proofs.WalkLaws.{group_count, group_attributes, Joining, joining_start, joining_next, members_split}
use Rattle.fixed_definitions.specs.Keeping.{Known, KeptExtents, Kept}
use Rattle.fixed_definitions.proofs.KeepingLaws.{agree}
use Rattle.offsets.specs.declared.Placement.{Placement}
use Rattle.offsets.specs.Placed.{answer_meant, HasEnd, Answered, Placing, FixedCall, Resolved, FieldsFrom}

-- a struct that has a size has fields with an end
closed_end : (a : Attributes) (e : meaning.Extent) (n m : ℕ) → closed a e ≡ sized n m → HasEnd e
unfolding closed rounded
closed_end a e n m h = go (is_alignment a.aligned) e h
  where
    go : (t : Bool) (e : meaning.Extent) → cond t (rounded a e) (unsized 10) ≡ sized n m → HasEnd e
    go true (sized x y) h = (x, (y, refl))
    go true (unsized k) h = let z : ◌≡◌ {A = ℕ} 0 1 = cc in absurd (omega arith)
    go false e h = let z : ◌≡◌ {A = ℕ} 0 1 = cc in absurd (omega arith)

-- the offsets of fields that are packed as the byte says
offsets_packing : (packed : ℕ) (ms : tree.Members) (so : meaning.Extent) (known : ℕ → meaning.Extent) → field_offsets (mark (packing_of packed)) ms so known ≡ field_offsets packed ms so known
unfolding field_offsets
offsets_packing packed none so known = refl
offsets_packing packed (more m ms) so known = rw (offset_packing packed, with_packing packed) (ap (field_offset packed so (measure_member m known) ∷◌) (offsets_packing packed ms _ known))

fields_packing : (packed : ℕ) (ms : tree.Members) (so : meaning.Extent) (known : ℕ → meaning.Extent) → measure_all (with_field (mark (packing_of packed))) ms so known ≡ measure_all (with_field packed) ms so known
fields_packing packed none so known = refl
fields_packing packed (more m ms) so known = rw (with_packing packed) (fields_packing packed ms _ known)

-- A type that was read, by its first record: a TypeRef or not.

-- the offsets do not depend on where TypeRefs lead
abbrev Plain : Ty → Type 0
Plain t = (known : ℕ → meaning.Extent) (through other : ℕ → List ℕ) → offsets_of t known through ≡ offsets_of t known other

module _ (s : List ℕ) (end at : ℕ) where
  lead_is : (t : Ty) → Run s end at (type_parts t) → is_lead (part_at s at) ≡ true → t ≡ type_ref (record_name s at)
  lead_is (Ty.primitive k) r e = absurd (false≢true (ap is_lead r.0 ∙ e))
  lead_is (type_ref n) r e = let z : lead n ≡ lead (record_name s at) = r.0 ∙ (leading s at e).says in ap type_ref (same z)
    where
      same : {n m : ℕ} → lead n ≡ lead m → n ≡ m
      same q = cc
  lead_is (struct a ms) r e = absurd (false≢true (ap is_lead r.0 ∙ e))
  lead_is (Ty.union a ms) r e = absurd (false≢true (ap is_lead r.0 ∙ e))
  lead_is (Ty.enum a tag ms) r e = absurd (false≢true (ap is_lead r.0 ∙ e))
  lead_is (Ty.array a jagged size element) r e = absurd (false≢true (ap is_lead r.0 ∙ e))
  lead_is (Ty.size_union a ms) r e = absurd (false≢true (ap is_lead r.0 ∙ e))

  no_lead : (t : Ty) → Run s end at (type_parts t) → is_lead (part_at s at) ≡ false → Plain t
  no_lead (Ty.primitive k) r e known through other = refl
  no_lead (type_ref n) r e known through other = absurd (true≢false (ap is_lead r.0 ∙ e))
  no_lead (struct a ms) r e known through other = refl
  no_lead (Ty.union a ms) r e known through other = refl
  no_lead (Ty.enum a tag ms) r e known through other = refl
  no_lead (Ty.array a jagged size element) r e known through other = refl
  no_lead (Ty.size_union a ms) r e known through other = refl

-- a type that was read, by its form
module _ {d at : ℕ} {s : List ℕ} {f : Form} (o : Opened d at s f) (r : Reads (read_ty d s at)) where
  pub not_struct : (f ≡ OfType Struct → ⊥) → (known : ℕ → meaning.Extent) → offsets_of (type_at d s at) known (λ n. []) ≡ []
  not_struct q known = let t = type_form o r in go t.0 t.1
    where
      go : (t : TypeForm) → f ≡ OfType t → offsets_of (type_at d s at) known (λ n. []) ≡ []
      go Primitive p = rw (primitive_tree o r p)
      go TypeRef p = rw (type_ref_tree o r p)
      go Struct p = absurd (q p)
      go Union p = rw (union_tree o r zero_group p)
      go Enum p = rw (enum_at o r p).parts.tree
      go Array p = rw (array_at o r p).parts.tree
      go SizeUnion p = rw (size_union_tree o r zero_group p)

  -- a struct's head lies within the bytes
  pub struct_there : f ≡ OfType Struct → at + 12 ≤ length s
  struct_there p = omega (arith, (count_where (at + 1) _ _ s (group_count (d - 1) s (at + 1) 0x50 (struct_reads o r p))).1)

  -- its fields
  pub struct_fields : (n : ℕ) → d ≡ 24 → f ≡ OfType Struct → n ≡ little s (at + 10) 2 → get_or s (at + 10) 0 < 256 → get_or s (at + 11) 0 < 256 → FieldsFrom s at (mark (packing_of (get_or s (at + 1) 0))) n (at + 12)
  struct_fields n z p k low high =
      let e : d - 1 ≡ 23 = omega arith in
      let q = subst (λ x. Reads (read_group (read_ty x) 0x50 s (at + 1))) e (struct_reads o r p) in
      let u : at + 1 + 9 ≡ at + 10 = omega arith in
      let v : at + 1 + 11 ≡ at + 12 = omega arith in
      let c : Ok (n, at + 12) ≡ count_of (head 2 s (at + 1)) = rw (k, ← u, ← v) (group_count 23 s (at + 1) 0x50 q) in
      let t : type_at 24 s at ≡ struct (attributes (get_or s (at + 1) 0) (little s (at + 1 + 1) 8)) (members_at 23 0x50 n s (at + 12)) =
      ap (λ x. type_at x s at) (sym z)
      ∙ struct_tree o r zero_group p
      ∙ ap (λ x. struct (value_or zero_group (read_group (read_ty x) 0x50 s (at + 1))).attributes (value_or zero_group (read_group (read_ty x) 0x50 s (at + 1))).members) e
      ∙ rw (group_attributes s 23 0x50 (at + 1) n (at + 12) c q, group_value (read_ty 23) 0x50 s (at + 1) n (at + 12) c q zero_group) in
      let w : at + 10 + 1 ≡ at + 11 = omega arith in
      let l : little s (at + 10) 2 ≡ get_or s (at + 10) 0 + 256 * get_or s (at + 11) 0 = little_2 s (at + 10) ∙ ap (λ x. get_or s (at + 10) 0 + 256 * get_or s x 0) w in
      record {
        reads = group_reads (read_ty 23) 0x50 s (at + 1) n (at + 12) c q;
        few = omega (arith, k, l);
        offsets = λ known. ap (λ x. offsets_of x known (λ m. [])) t ∙ sym (offsets_packing (get_or s (at + 1) 0) _ _ known);
        end = λ known size al w. rw (fields_packing (get_or s (at + 1) 0)) (closed_end _ _ size al (sym (ap (λ x. measure x known) t) ∙ w));
      }

-- The TypeRefs of a definition: `done` were followed, to definition i, of at most n.
pub record Following (s : List ℕ) (n start i done : ℕ) : Type 0 where
  pub below : i < n
  pub offsets : definition_offsets (bundle_of s) start ≡ offsets_in (lookup.type_at (bundle_of s) i) (extent_of (bundle_of s)) (offsets_within (bundle_of s) (n - done))
  pub extent : definition_extent (bundle_of s) start ≡ definition_extent (bundle_of s) i
  pub kept : (kept : Extents) → KeptExtents s kept → Known s kept start → Known s kept i

module _ {s : List ℕ} {n : ℕ} {places : List ℕ} (tb : Table s n places) (c : circles (bundle_of s) ≡ false) where
  pub following_start : (i : ℕ) → i < n → Following s n i i 0
  unfolding definition_offsets
  following_start i h = record {
    below = h;
    offsets = ap (λ k. offsets_in (lookup.type_at (bundle_of s) i) (extent_of (bundle_of s)) (offsets_within (bundle_of s) k)) (omega (arith, tb.count));
    extent = refl;
    kept = λ kept g k. k;
  }

  module _ {start i done : ℕ} (f : Following s n start i done) where
    type : Ty
    type = type_at 24 s (get_or places i 0)

    here : definition_offsets (bundle_of s) start ≡ offsets_of type (extent_of (bundle_of s)) (offsets_within (bundle_of s) (n - done))
    unfolding offsets_in type
    here = f.offsets ∙ ap (λ o. offsets_in o (extent_of (bundle_of s)) (offsets_within (bundle_of s) (n - done))) (placed_type tb i f.below)

    is_part : definition_extent (bundle_of s) start ≡ measure type (extent_of (bundle_of s))
    unfolding definition_extent measured type
    is_part = f.extent ∙ ap (λ o. measured o (extent_of (bundle_of s))) (placed_type tb i f.below)

    -- where it leads
    leads : (j : ℕ) → Memᴰ j (resolve (bundle_of s) (type_names type)) → (kept : Extents) → KeptExtents s kept → Known s kept start → Known s kept j
    unfolding leads_to type
    leads j m kept g x = g.onward i j (omega (arith, f.below, tb.count, tb.placed.room)) (f.kept kept g x) (rw (placed_type tb i f.below) m)

    run : Run s (get_or places (i + 1) 0 - 3) (get_or places i 0) (type_parts type)
    unfolding type
    run = (definition_flat tb f.below).run

    pub at_reads : Reads (read_ty 24 s (get_or places i 0))
    at_reads = (placed_at tb i f.below).reads

    -- nothing more is followed
    stay : offsets_of type (extent_of (bundle_of s)) (offsets_within (bundle_of s) (n - done)) ≡ offsets_of type (extent_of (bundle_of s)) (λ m. []) → Resolved s start (get_or places i 0)
    unfolding type
    stay e = record { reads = at_reads; offsets = here ∙ e; extent = is_part; kept = λ kept g x j m. leads j m kept g x }

    -- it is no TypeRef
    pub following_plain : {b : Bool} → b ≡ is_lead (part_at s (get_or places i 0)) → b ≡ false → Resolved s start (get_or places i 0)
    following_plain e q = stay (no_lead s _ _ type run (sym e ∙ q) _ _ _)

    -- it is one
    module _ {b : Bool} (e : b ≡ is_lead (part_at s (get_or places i 0))) (t : b ≡ true) where
      is_ref : type ≡ type_ref (record_name s (get_or places i 0))
      is_ref = lead_is s _ _ type run (sym e ∙ t)

      pub ref_there : get_or places i 0 + 3 ≤ length s
      ref_there =
          let l : Run s (get_or places (i + 1) 0 - 3) (get_or places i 0) (lead (record_name s (get_or places i 0)) ∷ []) = rw is_ref at run in
          omega (arith, l.1, (leading s (get_or places i 0) (sym e ∙ t)).end, (definition_flat tb f.below).bound)

      module _ {name j : ℕ} (p : name ≡ record_name s (get_or places i 0)) (q : j ≡ definition_of (bundle_of s) name) where
        x : ℕ
        x = record_name s (get_or places i 0)

        is : j ≡ definition_of (bundle_of s) x
        unfolding x
        is = q ∙ ap (definition_of (bundle_of s)) p

        pub following_none : done < n → count (bundle_of s) ≤ j → Resolved s start (get_or places i 0)
        unfolding offsets_within offsets_in x
        following_none l h = stay (rw is_ref (go (n - done) (omega arith)))
          where
            go : (k : ℕ) → 0 < k → offsets_within (bundle_of s) k x ≡ []
            go zero l = absurd (omega arith)
            go (suc k) l = rw (found_none tb j x is (omega (arith, tb.count)))

        pub following_next : done < n → j < count (bundle_of s) → Following s n start j (done + 1)
        unfolding offsets_within find_type definition_extent x
        following_next l h = record {
          below = omega (arith, tb.count);
          offsets = let z : n - (done + 1) ≡ n - done - 1 = omega arith in rw z (here ∙ rw is_ref (go (n - done) (omega arith)));
          extent = is_part ∙ rw is_ref (extent_equation (bundle_of s) c x ∙ ap (λ i. measured (lookup.type_at (bundle_of s) i) (extent_of (bundle_of s))) (sym is));
          kept = λ kept g y. leads j (rw (is_ref, lead_one s x [] is h) (Memᴰ.head refl)) kept g y;
        }
          where
            go : (k : ℕ) → 0 < k → offsets_within (bundle_of s) k x ≡ offsets_in (lookup.type_at (bundle_of s) j) (extent_of (bundle_of s)) (offsets_within (bundle_of s) (k - 1))
            go zero l = absurd (omega arith)
            go (suc k) l = let z : suc k - 1 ≡ k = omega arith in rw (z, is)

    -- no more may be followed
    pub following_end : n ≤ done → Resolved s start (get_or places i 0)
    unfolding offsets_within
    following_end h = stay (go type)
      where
        none_left : (x : ℕ) → offsets_within (bundle_of s) (n - done) x ≡ []
        none_left x = let z : n - done ≡ 0 = omega arith in rw z

        go : (t : Ty) → offsets_of t (extent_of (bundle_of s)) (offsets_within (bundle_of s) (n - done)) ≡ offsets_of t (extent_of (bundle_of s)) (λ m. [])
        go (Ty.primitive x) = refl
        go (type_ref x) = none_left x
        go (struct a ms) = refl
        go (Ty.union a ms) = refl
        go (Ty.enum a tag ms) = refl
        go (Ty.array a jagged size element) = refl
        go (Ty.size_union a ms) = refl

-- The offsets of fields that have an end.

unsized_stays : (packed : ℕ) (ms : tree.Members) (k : ℕ) (known : ℕ → meaning.Extent) → HasEnd (measure_all (with_field packed) ms (unsized k) known) → ⊥
unfolding with_field
unsized_stays packed none k known h = let z : ◌≡◌ {A = ℕ} 0 1 = zero_one h.1.1 in omega arith
  where
    zero_one : {n a : ℕ} → unsized k ≡ sized n a → ◌≡◌ {A = ℕ} 0 1
    zero_one e = cc
unsized_stays packed (more m ms) k known h = go (measure_member m known) h (λ j. unsized_stays packed ms j known)
  where
    go : (e : meaning.Extent) → HasEnd (measure_all (with_field packed) ms (with_field packed (unsized k) e) known) → ((j : ℕ) → HasEnd (measure_all (with_field packed) ms (unsized j) known) → ⊥) → ⊥
    go (sized n a) h ih = ih k h
    go (unsized j) h ih = ih _ h

-- the offset of a field that is joined to others with an end
offset_most : (packed : ℕ) (ms : tree.Members) (so e : meaning.Extent) (known : ℕ → meaning.Extent) → HasEnd (measure_all (with_field packed) ms (with_field packed so e) known) → field_offset packed so e ≤ largest
unfolding with_field bounded
offset_most packed ms (sized end most) (sized size a) known h = go (leb (offset_of packed end a) largest) refl h
  where
    go : (t : Bool) → leb (offset_of packed end a) largest ≡ t → HasEnd (measure_all (with_field packed) ms (cond t (sized (offset_of packed end a + size) (max most a)) (unsized 12)) known) → offset_of packed end a ≤ largest
    go true e h = leb-true (offset_of packed end a) largest e
    go false e h = absurd (unsized_stays packed ms 12 known h)
offset_most packed ms (sized end most) (unsized k) known h = omega arith
offset_most packed ms (unsized j) e known h = omega arith

-- how many offsets there are
offsets_length : (packed : ℕ) (ms : tree.Members) (so : meaning.Extent) (known : ℕ → meaning.Extent) → length (field_offsets packed ms so known) ≡ length (lookup.list_of ms)
unfolding field_offsets
offsets_length packed none so known = refl
offsets_length packed (more m ms) so known = ap suc (offsets_length packed ms (with_field packed so (measure_member m known)) known)

-- of n fields at `at`, those behind the first i, at `next`, are still to be written, at place i of the list; before it was `before`
pub record Writing (s : List ℕ) (kept : Extents) (packed n at : ℕ) (before : List ℕ) (so : Result Members Unsized) (next i : ℕ) (offsets : List ℕ) : Type 0 where
  pub joining : Joining s kept 23 0x50 packed n at so next i
  pub long : n ≤ length before
  pub size : length offsets ≡ length before
  pub done : take i offsets ++ field_offsets packed (members_at 23 0x50 (n - i) s next) (members_meant so) (known s kept) ≡ field_offsets packed (members_at 23 0x50 n s at) (sized 0 1) (known s kept)
  pub others : drop n offsets ≡ drop n before
  pub end : HasEnd (members_of s kept 0x50 packed (members_at 23 0x50 n s at) (sized 0 1))

pub writing_start : {s : List ℕ} {kept : Extents} {packed n at : ℕ} (before : List ℕ) → Reads (read_members (read_ty 23) 0x50 n s at) → n ≤ length before
    → HasEnd (members_of s kept 0x50 packed (members_at 23 0x50 n s at) (sized 0 1))
    → (m : Members) → m.end ≡ 0 → m.alignment ≡ 1 → Writing s kept packed n at before (Ok m) at 0 before
unfolding members_meant
writing_start {n = n} before r h e m p q =
    let z : n - 0 ≡ n = omega arith in
    record { joining = joining_start r m p q; long = h; size = refl; done = rw (z, p, q) refl; others = refl; end = e }

module _ {s : List ℕ} {kept : Extents} {packed n at : ℕ} {before : List ℕ} {so : Result Members Unsized} {next i : ℕ} {offsets : List ℕ} (w : Writing s kept packed n at before so next i offsets) where
  pub writing_end : n ≡ i → offsets ≡ field_offsets packed (members_at 23 0x50 n s at) (sized 0 1) (known s kept) ++ drop n before
  unfolding field_offsets
  writing_end z =
      let e : n - i ≡ 0 = omega arith in
      let p : take n offsets ++ [] ≡ field_offsets packed (members_at 23 0x50 n s at) (sized 0 1) (known s kept) =
      subst (λ x. take x offsets ++ [] ≡ field_offsets packed (members_at 23 0x50 n s at) (sized 0 1) (known s kept)) (sym z)
      (ap (λ ms. take i offsets ++ field_offsets packed ms (members_meant so) (known s kept)) (sym (members_none 23 0x50 s (n - i) next e)) ∙ w.done) in
      sym (take-append-drop n offsets) ∙ ap (λ xs. xs ++ drop n offsets) (sym (append-nil (take n offsets)) ∙ p)
      ∙ ap (λ xs. field_offsets packed (members_at 23 0x50 n s at) (sized 0 1) (known s kept) ++ xs) w.others

  -- the next field
  module _ (h : i < n) {r : Measured Extent} (g : MemberMeasured s kept 23 0x50 next r) {v : ℕ} (q : v ≡ field_offset packed (members_meant so) (extent_meant r.extent)) where
    fields_split : field_offsets packed (members_at 23 0x50 (n - i) s next) (members_meant so) (known s kept) ≡ v ∷ field_offsets packed (members_at 23 0x50 (n - i - 1) s r.end) (with_field packed (members_meant so) (extent_meant r.extent)) (known s kept)
    unfolding field_offsets member_of
    fields_split = rw (members_split w.joining h r.end g.ended, q, g.is)

    pub writing_most : v ≤ largest
    unfolding members_of join_of member_of
    writing_most =
        let t : members_of s kept 0x50 packed (members_at 23 0x50 (n - i) s next) (members_meant so) ≡ members_of s kept 0x50 packed (members_at 23 0x50 (n - i - 1) s r.end) (with_field packed (members_meant so) (extent_meant r.extent)) =
        rw (members_split w.joining h r.end g.ended, g.is) in
        let z : field_offset packed (members_meant so) (extent_meant r.extent) ≤ largest =
        offset_most packed (members_at 23 0x50 (n - i - 1) s r.end) (members_meant so) (extent_meant r.extent) (known s kept) (w.end.0, (w.end.1.0, sym t ∙ w.joining.join ∙ w.end.1.1)) in
        subst (λ x. x ≤ largest) (sym q) z

    pub writing_next : {so' : Result Members Unsized} → members_meant so' ≡ with_field packed (members_meant so) (extent_meant r.extent)
        → Writing s kept packed n at before so' r.end (i + 1) (set offsets i v)
    unfolding join_of
    writing_next {so'} j = record {
      joining = joining_next w.joining h g (j ∙ as_join);
      long = w.long;
      size = length-set offsets i v ∙ w.size;
      done =
          let z : n - (i + 1) ≡ n - i - 1 = omega arith in
          rw z (
          ap (λ k. take k (set offsets i v) ++ field_offsets packed (members_at 23 0x50 (n - i - 1) s r.end) (members_meant so') (known s kept)) (add-one i)
          ∙ ap (λ xs. xs ++ field_offsets packed (members_at 23 0x50 (n - i - 1) s r.end) (members_meant so') (known s kept)) (take-suc-set offsets i v (omega (arith, w.long, w.size)))
          ∙ append_assoc (take i offsets) (v ∷ []) (field_offsets packed (members_at 23 0x50 (n - i - 1) s r.end) (members_meant so') (known s kept))
          ∙ ap (λ x. take i offsets ++ (v ∷ field_offsets packed (members_at 23 0x50 (n - i - 1) s r.end) x (known s kept))) j
          ∙ ap (λ xs. take i offsets ++ xs) (sym fields_split)
          ∙ w.done
          );
      others = drop-set-lt n offsets i v h ∙ w.others;
      end = w.end;
    }
      where
        as_join : with_field packed (members_meant so) (extent_meant r.extent) ≡ join_of 0x50 packed (members_meant so) (extent_meant r.extent)
        as_join = refl

-- The answers.

module _ {s : List ℕ} {i at : ℕ} (d : Resolved s i at) (size a : ℕ) (before : List ℕ) where
  pub place_none : ((known : ℕ → meaning.Extent) → offsets_of (type_at 24 s at) known (λ n. []) ≡ []) → Placing s i size a before before (Ok (record { size = size; alignment = a; offsets = 0 }))
  unfolding answer_meant answer_of places_after
  place_none e =
      let z : definition_offsets (bundle_of s) i ≡ [] = d.offsets ∙ e _ in
      record { call = rw z (record { answer = rw (le-leb 0 (length before) (omega arith)); places = rw (le-leb 0 (length before) (omega arith)) }); extents = refl }

  module _ {packed n m : ℕ} (f : FieldsFrom s at packed n m) {total : ℕ} {places : List ℕ} (tb : Table s total places) (c : circles (bundle_of s) ≡ false) {kept : Extents} (g : KeptExtents s kept) (k : Known s kept i) where
    abbrev xs : List ℕ
    xs = field_offsets packed (members_at 23 0x50 n s m) (sized 0 1) (known s kept)

    as_many : length xs ≡ n
    as_many = offsets_length packed (members_at 23 0x50 n s m) (sized 0 1) (known s kept) ∙ members_length 23 0x50 s n m f.reads

    agrees : Agree (extent_of (bundle_of s)) (known s kept) (type_names (type_at 24 s at))
    agrees = agree tb c (type_at 24 s at) (d.kept kept g k)

    is_xs : definition_offsets (bundle_of s) i ≡ xs
    is_xs = d.offsets ∙ sym (offsets_local (extent_of (bundle_of s)) (known s kept) (type_at 24 s at) (λ n. []) agrees) ∙ f.offsets (known s kept)

    pub place_end : definition_extent (bundle_of s) i ≡ sized size a → HasEnd (members_of s kept 0x50 packed (members_at 23 0x50 n s m) (sized 0 1))
    unfolding members_of join_of
    place_end e = f.end (known s kept) size a (measure_local (extent_of (bundle_of s)) (known s kept) (type_at 24 s at) agrees ∙ sym d.extent ∙ e)

    pub place_narrow : length before < n → Placing s i size a before before (Err NoRoom)
    unfolding answer_meant answer_of places_after
    place_narrow h = record { call = rw is_xs (record { answer = rw (as_many, lt-leb n (length before) h); places = rw (as_many, lt-leb n (length before) h) }); extents = tt }

    pub place_written : n ≤ length before → (after : List ℕ) → after ≡ xs ++ drop n before → Placing s i size a before after (Ok (record { size = size; alignment = a; offsets = n }))
    unfolding answer_meant answer_of places_after
    place_written h after e = record { call = rw is_xs (record { answer = rw (as_many, le-leb n (length before) h); places = rw (as_many, le-leb n (length before) h) e }); extents = refl }

-- what is kept of definition i once it is measured
pub kept_is : {s : List ℕ} {n : ℕ} {places : List ℕ} → Table s n places → {i : ℕ} → i < n → {before kept : Extents} → Kept s (i ∷ []) before kept → (d : Option (Result Extent Unsized)) {r : Result Extent Unsized}
    → r ≡ unwrap_or (get_or kept i d) (Err Circle) → extent_meant r ≡ definition_extent (bundle_of s) i
kept_is tb {i = i} h {kept = kept} k d e =
    let there : i < length kept = omega (arith, h, tb.count, tb.placed.room, k.keeps.size) in
    ap extent_meant (e ∙ ap (λ o. unwrap_or o (Err Circle)) (get_or_default kept i d None there)) ∙ (k.now i (Memᴰ.head refl)).is

-- definition i of an opened bundle
module _ {s : List ℕ} {n : ℕ} {places : List ℕ} (tb : Table s n places) (i : ℕ) (before : List ℕ) where
  pub answered_none : n ≤ i → Answered s i before before (Err Varies)
  unfolding definition_extent measured answer_meant answer_of places_after
  answered_none h =
      let z : lookup.type_at (bundle_of s) i ≡ nothing = no_definition (bundle_of s) i (omega (arith, tb.count)) in
      record { call = rw z (record { answer = refl; places = refl }); extents = tt }

pub answered_unsized : (s : List ℕ) (i : ℕ) (before : List ℕ) (r : Unsized) → extent_meant (Err r) ≡ definition_extent (bundle_of s) i → Answered s i before before (Err (reason r))
unfolding extent_meant answer_meant answer_of places_after
answered_unsized s i before r p = record { call = rw (← p) (record { answer = refl; places = refl }); extents = tt }

pub sized_is : (s : List ℕ) (i : ℕ) (e : Extent) → extent_meant (Ok e) ≡ definition_extent (bundle_of s) i → definition_extent (bundle_of s) i ≡ sized e.size e.alignment
unfolding extent_meant
sized_is s i e p = sym p

pub answered_sized : {s : List ℕ} {i size a : ℕ} {before after : List ℕ} {r : Result Placement Refusal} → definition_extent (bundle_of s) i ≡ sized size a → Placing s i size a before after r → Answered s i before after r
answered_sized z p = record { call = rw z p.call; extents = rw z p.extents }

-- the whole call
pub opened_call : {s : List ℕ} {i : ℕ} {l : Layout} {places before after : List ℕ} {r : Result Placement Refusal} → LayoutOf s l places × (circles (bundle_of s) ≡ false) → Answered s i before after r → FixedCall i s before after r
unfolding placing sizing on_bundle due_of
opened_call o w = record { call = rw (o.0.read, o.1) w.call; extents = rw (o.0.read, o.1) w.extents }

pub refused_call : (i : ℕ) (s before : List ℕ) (r : Refusal) → ((f : Bundle → Outcome) → on_bundle f s ≡ refusal (number r)) → FixedCall i s before before (Err r)
unfolding placing answer_meant answer_of places_after
refused_call i s before r e = record { call = rw (e (λ b. given (definition_extent b i) (λ size a. definition_offsets b i))) (record { answer = refl; places = refl }); extents = tt }
