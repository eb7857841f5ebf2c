-- Writing violations one behind the other.
use Prim.Native.Nat.{ℕ, zero, suc, ◌+◌, ◌*◌, ◌-◌, ◌≤◌, ◌<◌}
use native.Mathlib.Omega.{arith}
use mathlib.Core.Bool.{Bool, true, false, false≢true}
use mathlib.Core.Option.{Option, none, some}
use mathlib.Core.Path.{◌≡◌, refl, sym, ap, subst, ◌∙◌}
use mathlib.Core.List.{List, [], ◌∷◌, ◌++◌, append-nil, map}
use lib.Dec.{T, leb, leb→le}
use native.Mathlib.Decide.{dec_lt}
use mathlib.Core.Logic.{by_cases}
use lib.ListN.{length, get_or, take, length-append, length-take}
use lib.Seq.{length-take-le}
use Rattle.names.specs.Documents.{bytes}
use Rattle.meaning.specs.Kinds.{form_of, lookup}
use Rattle.meaning.specs.Lists.{flat_map, filter_map, push}
use Rattle.meaning.specs.Reader.{little, names_from}
use Rattle.meaning.specs.Report.{violation_items}
use Rattle.meaning.specs.Violations.{Violation, violation, enum_forward, enum_cycle, array_cycle, field_forward, variable_element, jagged_reference, jagged_inline, nested_jagged, check_enum_tag_layout_cycle, check_array_size_layout_cycle}
use Rattle.meaning.proofs.Lists.{flat_map_append}
use Rattle.meaning.proofs.ExprSpans.{all_at}
use Rattle.names.proofs.Items.{bytes_append}
use Rattle.sizes.specs.Paths.{Fit}
use Rattle.scan.specs.Scan.{form_at}
use Rattle.sizes.specs.Scan.{names_in, names_at, path_at, references_from, paths_from, Fits}
use Rattle.sizes.proofs.PathLaws.{path_names}
use Rattle.violation.specs.declared.Path.{Path}
use Rattle.violation.specs.declared.Record.{Record}
use Rattle.violation.specs.Records.{Puts, padded}
use Rattle.violation.proofs.Putting.{puts_both, puts_alike, record_size, record_alike, puts_size}
use Rattle.search.specs.Work.{IfWanted}
use Rattle.std.specs.Prelude as prelude
use Rattle.checks.specs.declared.Finding.{Finding}
use Rattle.checks.specs.declared.Finding.TheVariants.{EnumForward, EnumCycle, ArrayCycle, FieldForward, VariableElement, JaggedReference, JaggedInline, NestedJagged}
use Rattle.violation.specs.declared.Kind.TheVariants as kinds
use Rattle.violation.specs.Kinds.{type_number}
use Rattle.checks.specs.Checks.{violation_of, FindingFits, Fitting, Checked, ReferenceIs}
use Rattle.bundle.specs.Definitions.{bundle_of}
use Rattle.validate.specs.declared.Report.{Report}
use Rattle.validate.specs.Validating.{Recorded, record_with, record_bytes, Wrote, Room, check_reference}

-- a reference has at most four names
abbrev few_names : prelude.Option ℕ → Bool
few_names prelude.None = true
few_names (prelude.Some n) = leb n 4

length_names : (s : List ℕ) (at n : ℕ) → length (names_from s at n) ≡ n
unfolding names_from
length_names s at zero = refl
length_names s at (suc n) = ap suc (length_names s (at + 2) n)

path_length : (s : List ℕ) (at : ℕ) (o : prelude.Option ℕ) → T (few_names o) → length (names_at s at o) ≤ 4
path_length s at prelude.None t = omega arith
path_length s at (prelude.Some n) t = omega (arith, length_names s at n, leb→le n 4 t)

pub path_few : (s : List ℕ) (at : ℕ) → get_or s at 0 < 256 → length (path_at s at) ≤ 4
unfolding path_at lookup names_in
path_few s at h = path_length s (at + 1) (names_in (form_at s at)) (all_at (λ k. few_names (names_in (form_of k))) 256 (get_or s at 0) tt h)

-- name k of a reference
name_at_lem : (s : List ℕ) (at n k : ℕ) → k < n → get_or (names_from s at n) k 0 ≡ little s (at + 2 * k) 2
unfolding names_from
name_at_lem s at zero k h = absurd (omega arith)
name_at_lem s at (suc n) zero h = ap (λ i. little s i 2) (omega arith)
name_at_lem s at (suc n) (suc k) h = name_at_lem s (at + 2) n k (omega arith) ∙ ap (λ i. little s i 2) (omega arith)

pub path_name : (s : List ℕ) (p n k : ℕ) → n ≡ length (path_at s p) → k < n → little s (p + 1 + 2 * k) 2 ≡ get_or (path_at s p) k 0
path_name s p n k e h = sym (ap (λ path. get_or path k 0) (path_names s p ∙ ap (names_from s (p + 1)) (sym e)) ∙ name_at_lem s (p + 1) n k h)

pub path_end : (s : List ℕ) (p n k : ℕ) → n ≡ length (path_at s p) → n ≤ k → 0 ≡ get_or (path_at s p) k 0
path_end s p n k e h = go (path_at s p) k (omega (arith, e))
  where
    go : (path : List ℕ) (k : ℕ) → length path ≤ k → 0 ≡ get_or path k 0
    go [] k h = refl
    go (x ∷ path) zero h = absurd (omega arith)
    go (x ∷ path) (suc k) h = go path k (omega arith)

-- what the record of each answer says
pub path_padded : (path : List ℕ) {n a b c d : ℕ} → n ≡ length path → a ≡ get_or path 0 0 → b ≡ get_or path 1 0 → c ≡ get_or path 2 0 → d ≡ get_or path 3 0
    → ◌≡◌ {A = Path} (record { count = n; names = a ∷ b ∷ c ∷ d ∷ [] }) (padded path)
path_padded path n a b c d = λ i. record { count = n i; names = a i ∷ b i ∷ c i ∷ d i ∷ [] }

-- the reference of what was found lies within the bytes
module _ (s : List ℕ) {c : Finding} (room : ℕ) {p : ℕ} (f : FindingFits s room c) where
  pub fit_enum : {k : ℕ} → c ≡ EnumCycle p k → Fit s p
  fit_enum e = (subst (FindingFits s room) e f).fit

  pub fit_array : {k : ℕ} → c ≡ ArrayCycle p k → Fit s p
  fit_array e = (subst (FindingFits s room) e f).fit

  pub fit_field : c ≡ FieldForward p → Fit s p
  fit_field e = (subst (FindingFits s room) e f).fit

module _ (s : List ℕ) {c : Finding} {r : Record} where
  pub recorded_enum : {t f : ℕ} → c ≡ EnumForward t f → r ≡ record_with kinds.EnumForward (padded (t ∷ f ∷ [])) → Recorded s c r 3
  recorded_enum {t} {f} e q = rw (e, q) (record { names = t ∷ f ∷ []; few = omega arith; path = refl; is = λ i n list. refl; room = λ m f. (omega arith, f) })

  pub recorded_enum_cycle : {p k : ℕ} → c ≡ EnumCycle p k → r ≡ record_with kinds.EnumCycle (padded (path_at s p)) → length (path_at s p) ≤ 4 → Recorded s c r k
  recorded_enum_cycle {p} e q l = rw (e, q) (record { names = path_at s p; few = l; path = refl; is = λ i n list. refl; room = λ m f. (f.short, f.room) })

  pub recorded_array_cycle : {p k : ℕ} → c ≡ ArrayCycle p k → r ≡ record_with kinds.ArrayCycle (padded (path_at s p)) → length (path_at s p) ≤ 4 → Recorded s c r k
  recorded_array_cycle {p} e q l = rw (e, q) (record { names = path_at s p; few = l; path = refl; is = λ i n list. refl; room = λ m f. (f.short, f.room) })

  pub recorded_field : {p : ℕ} → c ≡ FieldForward p → r ≡ record_with kinds.FieldForward (padded (path_at s p)) → length (path_at s p) ≤ 4 → Recorded s c r 3
  recorded_field {p} e q l = rw (e, q) (record { names = path_at s p; few = l; path = refl; is = λ i n list. refl; room = λ m f. (f.short, f.room) })

  pub recorded_element : c ≡ VariableElement → r ≡ record_with kinds.VariableElement (padded []) → Recorded s c r 1
  recorded_element e q = rw (e, q) (record { names = []; few = omega arith; path = refl; is = λ i n list. refl; room = λ m f. (omega arith, omega arith) })

  pub recorded_reference : c ≡ JaggedReference → r ≡ record_with kinds.JaggedReference (padded []) → Recorded s c r 2
  recorded_reference e q = rw (e, q) (record { names = []; few = omega arith; path = refl; is = λ i n list. refl; room = λ m f. (omega arith, omega arith) })

  pub recorded_inline : c ≡ JaggedInline → r ≡ record_with kinds.JaggedInline (padded []) → Recorded s c r 1
  recorded_inline e q = rw (e, q) (record { names = []; few = omega arith; path = refl; is = λ i n list. refl; room = λ m f. (omega arith, omega arith) })

  pub recorded_nested : c ≡ NestedJagged → r ≡ record_with kinds.NestedJagged (padded []) → Recorded s c r 1
  recorded_nested e q = rw (e, q) (record { names = []; few = omega arith; path = refl; is = λ i n list. refl; room = λ m f. (omega arith, omega arith) })

-- nothing, and one list of violations behind another
pub wrote_none : (p : Report) → Wrote [] p p
wrote_none p = record { same_bytes = refl; puts = record { written = refl; behind = omega arith }; counts = omega arith; short = omega arith }

record_append : (vs ws : List Violation) → record_bytes (vs ++ ws) ≡ record_bytes vs ++ record_bytes ws
record_append vs ws = ap bytes (flat_map_append violation_items vs ws) ∙ bytes_append (flat_map violation_items vs) (flat_map violation_items ws)

wrote_both : {vs ws : List Violation} {p q r : Report} → Wrote vs p q → Wrote ws q r → Wrote (vs ++ ws) p r
wrote_both {vs} {ws} {p} {q} {r} a b = record {
  same_bytes = b.same_bytes ∙ a.same_bytes;
  puts = subst (λ xs. Puts xs p.out.now p.at r.out.now r.at) (sym (record_append vs ws)) (puts_both a.puts b.puts);
  counts = omega (arith, a.counts, b.counts, length-append vs ws);
  short = omega (arith, a.short, b.short, length-append vs ws, ap length (record_append vs ws), length-append (record_bytes vs) (record_bytes ws));
}

-- of the violations `whole`, those `left` are still to be written
pub record Going (whole : List Violation) (p₀ : Report) (left : List Violation) (p : Report) : Type 0 where
  pub room : Room p left
  pub size : length p.out.now ≡ length p₀.out.now
  pub on : (q : Report) → Wrote left p q → Wrote whole p₀ q

pub going_start : {whole : List Violation} {p : Report} → Room p whole → Going whole p whole p
going_start r = record { room = r; size = refl; on = λ q w. w }

module _ {whole left : List Violation} {p₀ p : Report} (g : Going whole p₀ left p) where
  pub going_end : left ≡ [] → Wrote whole p₀ p
  going_end e = g.on p (subst (λ vs. Wrote vs p p) (sym e) (wrote_none p))

  pub going_room : (vs rest : List Violation) → left ≡ vs ++ rest → Room p vs
  going_room vs rest e = record {
    far = g.room.far;
    few = omega (arith, g.room.few, ap length e ∙ length-append vs rest);
  }

  pub going_next : (vs rest : List Violation) {q : Report} → left ≡ vs ++ rest → Wrote vs p q → Going whole p₀ rest q
  going_next vs rest {q} e w = record {
    room = record {
      far = omega (arith, g.room.far, w.puts.behind, w.counts, w.short);
      few = omega (arith, g.room.few, w.counts, ap length e ∙ length-append vs rest);
    };
    size = puts_size w.puts ∙ g.size;
    on = λ r k. g.on r (subst (λ vs. Wrote vs p r) (sym e) (wrote_both w k));
  }

-- a check that found nothing writes nothing
pub put_fine : (s : List ℕ) (i n : ℕ) (list : List ℕ) (c : prelude.Option Finding) → ((f : Finding) → c ≡ prelude.Some f → ⊥) → (p : Report)
    → Wrote (push (violation_of s i n list c) []) p p
put_fine s i n list prelude.None none-found p = wrote_none p
put_fine s i n list (prelude.Some f) none-found p = absurd (none-found f refl)

-- and so where that is told by a test
pub put_nothing : (s : List ℕ) (i n : ℕ) (list : List ℕ) (c : prelude.Option Finding) → prelude.is_some c ≡ false → {p q : Report} → q ≡ p
    → Wrote (push (violation_of s i n list c) []) p q
put_nothing s i n list prelude.None e {p} {q} a = rw a (wrote_none p)
put_nothing s i n list (prelude.Some f) e a = let z : ◌≡◌ {A = ℕ} 0 1 = cc in absurd (omega arith)

-- what was found fits, where that of the check does
pub fits_found : (s : List ℕ) (room : ℕ) {c : prelude.Option Finding} {f : Finding} → c ≡ prelude.Some f → Fitting s room c → FindingFits s room f
fits_found s room e g = subst (Fitting s room) e g

-- what is written, where the report is told by an equation
pub wrote_same : {vs : List Violation} {p q r : Report} → Wrote vs p q → r ≡ q → Wrote vs p r
wrote_same w a = rw a w

-- what one check finds, in front of the rest
pub push_append : (o : Option Violation) (vs : List Violation) → push o vs ≡ push o [] ++ vs
push_append none vs = refl
push_append (some v) vs = refl

-- what put_check writes
module _ {s : List ℕ} {c : Finding} {r : Record} {k : ℕ} (g : Recorded s c r k) (i n : ℕ) (list : List ℕ) (f : FindingFits s (length list) c) where
  abbrev found : Violation
  found = violation (type_number r.kind) i n g.names (take k list)

  one : record_bytes (push (violation_of s i n list (prelude.Some c)) []) ≡ bytes (violation_items found)
  one = ap (λ v. record_bytes (v ∷ [])) (g.is i n list) ∙ ap bytes (append-nil (violation_items found))

  size : length (bytes (violation_items found)) ≡ 16 + 3 * k
  size = record_size (type_number r.kind) i n g.names (take k list) g.few ∙ ap (λ m. 16 + 3 * m) (length-take-le k list (g.room (length list) f).1)

  pub put_some : {p q : Report} → q.out.ghost_name ≡ p.out.ghost_name → q.count ≡ p.count + 1 → Puts (bytes (violation_items found)) p.out.now p.at q.out.now q.at
      → Wrote (push (violation_of s i n list (prelude.Some c)) []) p q
  put_some {p} {q} same more w = record {
    same_bytes = same;
    puts = subst (λ xs. Puts xs p.out.now p.at q.out.now q.at) (sym one) w;
    counts = more;
    short = omega (arith, ap length one, size, (g.room (length list) f).0);
  }

-- less is left behind a reference than before it
pub falls : {a b e : ℕ} → a < e → a < b → e - b < e - a
falls l m = omega arith

-- the references from `next` to `end` are still to be checked
pub record Referencing (s : List ℕ) (f : List ℕ → Option Violation) (at end : ℕ) (list₀ : List ℕ) (p₀ : Report) (list : List ℕ) (next : ℕ) (p : Report) : Type 0 where
  pub fits : Fits s (references_from s next end)
  pub going : Going (filter_map f (paths_from s at end)) p₀ (filter_map f (paths_from s next end)) p
  pub list_size : length list ≡ length list₀

pub referencing_start : (s : List ℕ) (f : List ℕ → Option Violation) (at end : ℕ) (list : List ℕ) (p : Report) → Fits s (references_from s at end) → Room p (filter_map f (paths_from s at end))
    → Referencing s f at end list p list at p
referencing_start s f at end list p h r = record { fits = h; going = going_start r; list_size = refl }

module _ {s : List ℕ} {f : List ℕ → Option Violation} {at end : ℕ} {list₀ : List ℕ} {p₀ : Report} {list : List ℕ} {next : ℕ} {p : Report}
    (c : Referencing s f at end list₀ p₀ list next p) where
  pub referencing_end : references_from s next end ≡ [] → Wrote (filter_map f (paths_from s at end)) p₀ p
  referencing_end e = going_end c.going (ap (λ ps. filter_map f (map (path_at s) ps)) e)

  module _ {x after : ℕ} (g : ReferenceIs s next end x after) (v : Option Violation) (e : v ≡ f (path_at s x)) where
    split : filter_map f (paths_from s next end) ≡ push v [] ++ filter_map f (paths_from s after end)
    split =
        ap (λ ps. filter_map f (map (path_at s) ps)) g.rest
        ∙ push_append (f (path_at s x)) (filter_map f (paths_from s after end))
        ∙ ap (λ o. push o [] ++ filter_map f (paths_from s after end)) (sym e)

    pub referencing_room : Room p (push v [])
    referencing_room = going_room c.going (push v []) (filter_map f (paths_from s after end)) split

    pub referencing_next : {list' : List ℕ} {q : Report} → length list' ≡ length list → Wrote (push v []) p q → Referencing s f at end list₀ p₀ list' after q
    referencing_next l w = record {
      fits = g.fits;
      going = going_next c.going (push v []) (filter_map f (paths_from s after end)) split w;
      list_size = l ∙ c.list_size;
    }

-- the check of a reference, by what it is of
pub of_tag : (s : List ℕ) (n x : ℕ) {list : List ℕ} {r : prelude.Option Finding} (tag : Bool) → tag ≡ true → Checked s n list r (λ i. check_enum_tag_layout_cycle (bundle_of s) i n (path_at s x))
    → Checked s n list r (λ i. check_reference tag (bundle_of s) i n (path_at s x))
of_tag s n x {list} {r} tag e c = subst (λ t. Checked s n list r (λ i. check_reference t (bundle_of s) i n (path_at s x))) (sym e) c

pub of_size : (s : List ℕ) (n x : ℕ) {list : List ℕ} {r : prelude.Option Finding} (tag : Bool) → tag ≡ false → Checked s n list r (λ i. check_array_size_layout_cycle (bundle_of s) i n (path_at s x))
    → Checked s n list r (λ i. check_reference tag (bundle_of s) i n (path_at s x))
of_size s n x {list} {r} tag e c = subst (λ t. Checked s n list r (λ i. check_reference t (bundle_of s) i n (path_at s x))) (sym e) c

-- the record of a chain that is not read off: behind the end it counts how many names there are, and not which
module _ (s : List ℕ) (i n : ℕ) (list list' : List ℕ) (e : length list ≡ length list') where
  take_alike : (k : ℕ) → length (take k list) ≡ length (take k list')
  take_alike k = rw (length-take k list, length-take k list', e)

  one_alike : (kind k : ℕ) (names : List ℕ) → length (record_bytes (violation kind i n names (take k list) ∷ [])) ≡ length (record_bytes (violation kind i n names (take k list') ∷ []))
  one_alike kind k names =
      ap (λ xs. length (bytes xs)) (append-nil (violation_items (violation kind i n names (take k list))))
      ∙ record_alike kind i n names (take k list) (take k list') (take_alike k)
      ∙ sym (ap (λ xs. length (bytes xs)) (append-nil (violation_items (violation kind i n names (take k list')))))

  all_alike : (c : prelude.Option Finding) → (length (record_bytes (push (violation_of s i n list c) [])) ≡ length (record_bytes (push (violation_of s i n list' c) [])))
      × (length (push (violation_of s i n list c) []) ≡ length (push (violation_of s i n list' c) []))
  all_alike prelude.None = (refl, refl)
  all_alike (prelude.Some (EnumForward t f)) = (one_alike enum_forward 3 (t ∷ f ∷ []), refl)
  all_alike (prelude.Some (EnumCycle p k)) = (one_alike enum_cycle k (path_at s p), refl)
  all_alike (prelude.Some (ArrayCycle p k)) = (one_alike array_cycle k (path_at s p), refl)
  all_alike (prelude.Some (FieldForward p)) = (one_alike field_forward 3 (path_at s p), refl)
  all_alike (prelude.Some VariableElement) = (one_alike variable_element 1 [], refl)
  all_alike (prelude.Some JaggedReference) = (one_alike jagged_reference 2 [], refl)
  all_alike (prelude.Some JaggedInline) = (one_alike jagged_inline 1 [], refl)
  all_alike (prelude.Some NestedJagged) = (one_alike nested_jagged 1 [], refl)

module _ {s : List ℕ} {n : ℕ} {wanted : Bool} {list : List ℕ} {c : prelude.Option Finding} {o : ℕ → Option Violation} (w : IfWanted wanted list (λ l. Checked s n l c o)) where
  pub meant_fits : Fitting s (length list) c
  meant_fits = subst (λ k. Fitting s k c) w.size w.holds.fits

  module _ (i : ℕ) where
    same : (length (record_bytes (push (violation_of s i n w.meant c) [])) ≡ length (record_bytes (push (violation_of s i n list c) [])))
        × (length (push (violation_of s i n w.meant c) []) ≡ length (push (violation_of s i n list c) []))
    same = all_alike s i n w.meant list w.size c

    pub meant_room : {p : Report} → Room p (push (violation_of s i n w.meant c) []) → Room p (push (violation_of s i n list c) [])
    meant_room r = record { far = r.far; few = omega (arith, r.few, same.1) }

    pub meant_wrote : {p q : Report} → (p.at < length p.out.now → wanted ≡ true) → Wrote (push (violation_of s i n list c) []) p q
        → Wrote (push (violation_of s i n w.meant c) []) p q
    meant_wrote {p} {q} e r = go wanted refl
      where
        go : (t : Bool) → wanted ≡ t → Wrote (push (violation_of s i n w.meant c) []) p q
        go true z = subst (λ l. Wrote (push (violation_of s i n l c) []) p q) (sym (w.same z)) r
        go false z = record {
          same_bytes = r.same_bytes;
          puts = puts_alike (by_cases (dec_lt p.at (length p.out.now)) (λ (l : p.at < length p.out.now). absurd (false≢true (sym z ∙ e l))) (λ (l : ¬ (p.at < length p.out.now)). omega arith)) (sym same.0) r.puts;
          counts = omega (arith, r.counts, same.1);
          short = omega (arith, r.short, same.0, same.1);
        }
