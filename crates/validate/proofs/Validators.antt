-- The validators of enums, arrays and structs, and of all definitions.
use Prim.Native.Nat.{ℕ, suc, ◌+◌, ◌-◌, ◌≤◌, ◌<◌}
use native.Mathlib.Omega.{arith}
use mathlib.Core.Bool.{true}
use mathlib.Core.Option.{Option}
use mathlib.Core.Path.{◌≡◌, refl, sym, ap, ap₂, subst, ◌∙◌}
use mathlib.Core.List.{List, [], ◌++◌, map}
use lib.ListN.{length, length-map, get_or, drop, drop_of_length-le}
use Rattle.names.specs.Names.{place}
use Rattle.names.proofs.Place.{has_get_d}
use Rattle.meaning.specs.Lists.{flat_map, filter_map, enumerate, push}
use Rattle.meaning.specs.Lookup.{list_of}
use Rattle.meaning.specs.References.{collect_field_references_recursive}
use Rattle.meaning.specs.ReadExpr.{read_expr}
use Rattle.meaning.specs.ReadType.{read_ty}
use Rattle.meaning.specs.Tree.{Ty, primitive, type_ref, struct, union, enum, array, size_union, member}
use Rattle.meaning.specs.Violations.{Violation, validate_type, validate_enum_tag_constraints, validate_array_size_constraints, validate_struct_field_constraints, check_array_element_type_size, check_field_layout_dependency, violations}
use Rattle.bundle.specs.View.{Reads}
use Rattle.bundle.specs.Definitions.{type_at, members_at, bundle_of, definition_at, Table}
use Rattle.bundle.proofs.LookupLaws.{from_place, placed_at, placed_name}
use Rattle.bundle.proofs.Trees.{ended_reads}
use Rattle.bundle.specs.Expressions.{expr_at}
use Rattle.sizes.specs.Scan.{paths_from, references_from, Fits}
use Rattle.bundle.proofs.Parts.{members_none}
use Rattle.sizes.proofs.ReferenceLaws.{expr_references, expr_bound, expr_fits}
use Rattle.fields.specs.declared.Field.{Field}
use Rattle.fields.specs.declared.Place.{Place}
use Rattle.fields.specs.declared.Shape.{Shape}
use Rattle.fields.specs.declared.Shape.TheVariants as shape
use Rattle.fields.specs.Shapes.{StructAt, EnumAt, ArrayAt, is_plain, ShapeOf, FieldAt, PlacedAt}
use Rattle.fields.proofs.Walking.{Passing, passing_next, passing_tree}
use Rattle.validate.specs.declared.Report.{Report}
use Rattle.validate.specs.declared.Subject.{Subject}
use Rattle.validate.specs.declared.References.{References}
use Rattle.validate.specs.declared.Site.{Site}
use Rattle.validate.specs.declared.Site.TheVariants.{Tag, Size}
use Rattle.validate.specs.Validating.{is_tag, Among, Wrote, Room, ReferencesAt, check_reference, found_in, violations_of, violations_at}
use Rattle.validate.proofs.Writing.{wrote_none, Going, going_start, going_room, going_next, going_end, push_append}

-- what is asked of the references of an expression that was read
pub references_inside : {s : List ℕ} {at : ℕ} {w : Site} {r : References} → ReferencesAt s at w r → (r.end ≤ length s) × Fits s (references_from s r.at r.end)
references_inside {s} {at} {w} {r} g =
    (expr_bound 23 at r.end s g.ends, subst (λ k. Fits s (references_from s k r.end)) (sym g.starts) (expr_fits 23 at r.end s g.ends))

-- what is found by them, from the tree
references_found : {s : List ℕ} {at : ℕ} {w : Site} {r : References} (d : Subject) → ReferencesAt s at w r
    → filter_map (check_reference (is_tag w) (bundle_of s) d.number d.place.name) (collect_field_references_recursive (expr_at 23 s at)) ≡ found_in s d r
references_found {s} {at} {w} {r} d g =
    ap₂ (λ t paths. filter_map (check_reference (is_tag t) (bundle_of s) d.number d.place.name) paths) (sym g.which)
    (sym (expr_references 23 at r.end s g.ends) ∙ ap (λ k. paths_from s k r.end) (sym g.starts))

-- an enum, by the references of its tag
pub enum_violations : {s : List ℕ} (d : Subject) {r : References} → EnumAt 24 s d.place.at → ReferencesAt s (d.place.at + 12) Tag r → violations_of s d ≡ found_in s d r
unfolding validate_enum_tag_constraints
enum_violations {s} d g h = ap (validate_type (bundle_of s) d.number d.place.name) g.tree ∙ references_found d h

-- an array, by the references of its size
pub size_reads : {s : List ℕ} {at : ℕ} → ArrayAt 24 s at → Reads (read_expr 23 s (at + 11))
size_reads {s} {at} g = ended_reads (read_expr 23 s (at + 11)) g.element g.size

module _ {s : List ℕ} (d : Subject) {r : References} (g : ArrayAt 24 s d.place.at) (h : ReferencesAt s (d.place.at + 11) Size r) where
  element_at : g.element ≡ r.end
  element_at = let e = g.size ∙ sym h.ends in cc

  pub element_reads : Reads (read_ty 23 s r.end)
  element_reads = subst (λ k. Reads (read_ty 23 s k)) element_at g.reads

  pub array_violations : violations_of s d ≡ push (check_array_element_type_size (bundle_of s) d.number d.place.name (get_or s (d.place.at + 10) 0) (type_at 23 s r.end)) (found_in s d r)
  unfolding validate_array_size_constraints
  array_violations =
      ap (validate_type (bundle_of s) d.number d.place.name) g.tree
      ∙ ap₂ (λ k vs. push (check_array_element_type_size (bundle_of s) d.number d.place.name (get_or s (d.place.at + 10) 0) (type_at 23 s k)) vs) element_at (references_found d h)

-- the element's violation first
module _ {whole : List Violation} (o v : Option Violation) (rest : List Violation) (q : whole ≡ push o rest) (k : v ≡ o) {p : Report} (r : Room p whole) where
  front : whole ≡ push v [] ++ rest
  front = q ∙ push_append o rest ∙ ap (λ o. push o [] ++ rest) (sym k)

  pub front_room : Room p (push v [])
  front_room = going_room (going_start r) (push v []) rest front

  module _ {m : Report} (w : Wrote (push v []) p m) where
    pub rest_room : Room m rest
    rest_room = (going_next (going_start r) (push v []) rest front w).room

    pub rest_wrote : {n : Report} → Wrote rest m n → Wrote whole p n
    rest_wrote {n} x = (going_next (going_start r) (push v []) rest front w).on n x

-- the last `left` of the fields of a struct are still to be checked
pub record Fielding (s : List ℕ) (i n count : ℕ) (whole : List Violation) (list₀ : List ℕ) (p₀ : Report) (list : List ℕ) (next left : ℕ) (p : Report) : Type 0 where
  pub pass : Passing 23 s count left next
  pub going : Going whole p₀ (filter_map (check_field_layout_dependency (bundle_of s) i n) (enumerate (count - left) (list_of (members_at 23 0x50 left s next)))) p
  pub list_size : length list ≡ length list₀

-- the violations of the fields at a position
abbrev pub fields_found : List ℕ → ℕ → ℕ → ℕ → ℕ → List Violation
fields_found s i n count at = filter_map (check_field_layout_dependency (bundle_of s) i n) (enumerate 0 (list_of (members_at 23 0x50 count s at)))

pub struct_violations : (s : List ℕ) (d : Subject) {count : ℕ} → StructAt 24 s d.place.at count → violations_of s d ≡ fields_found s d.number d.place.name count (d.place.at + 12)
unfolding validate_struct_field_constraints
struct_violations s d g = ap (validate_type (bundle_of s) d.number d.place.name) g.tree

pub fielding_start : (s : List ℕ) (d : Subject) {count : ℕ} → StructAt 24 s d.place.at count → (list : List ℕ) (p : Report) → Room p (violations_of s d)
    → Fielding s d.number d.place.name count (fields_found s d.number d.place.name count (d.place.at + 12)) list p list (d.place.at + 12) count p
fielding_start s d {count} g list p r = record {
  pass = record { bound = omega arith; reads = g.reads };
  going = subst (λ k. Going (fields_found s d.number d.place.name count (d.place.at + 12)) p
      (filter_map (check_field_layout_dependency (bundle_of s) d.number d.place.name) (enumerate k (list_of (members_at 23 0x50 count s (d.place.at + 12))))) p) (omega arith)
      (going_start (subst (Room p) (struct_violations s d g) r));
  list_size = refl;
}

module _ {s : List ℕ} {i n count : ℕ} {whole : List Violation} {list₀ : List ℕ} {p₀ : Report} {list : List ℕ} {next left : ℕ} {p : Report}
    (c : Fielding s i n count whole list₀ p₀ list next left p) where
  pub fielding_end : left ≡ 0 → Wrote whole p₀ p
  fielding_end e =
      going_end c.going
      (ap (λ ms. filter_map (check_field_layout_dependency (bundle_of s) i n) (enumerate (count - left) (list_of ms))) (members_none 23 0x50 s left next e))

  module _ (h : 0 < left) {f : Field} (g : FieldAt 23 s next f) (v : Option Violation)
      (e : v ≡ check_field_layout_dependency (bundle_of s) i n (count - left, member f.name g.value (type_at 23 s f.at))) where
    rest : List Violation
    rest = filter_map (check_field_layout_dependency (bundle_of s) i n) (enumerate (count - (left - 1)) (list_of (members_at 23 0x50 (left - 1) s f.next)))

    split : filter_map (check_field_layout_dependency (bundle_of s) i n) (enumerate (count - left) (list_of (members_at 23 0x50 left s next))) ≡ push v [] ++ rest
    unfolding rest
    split =
        ap (λ ms. filter_map (check_field_layout_dependency (bundle_of s) i n) (enumerate (count - left) (list_of ms))) (passing_tree c.pass h g)
        ∙ ap₂ (λ o k. push o (filter_map (check_field_layout_dependency (bundle_of s) i n) (enumerate k (list_of (members_at 23 0x50 (left - 1) s f.next))))) (sym e)
        (omega (arith, c.pass.bound))
        ∙ push_append v rest

    pub fielding_room : Room p (push v [])
    fielding_room = going_room c.going (push v []) rest split

    pub fielding_next : {list' : List ℕ} {q : Report} → length list' ≡ length list → Wrote (push v []) p q
        → Fielding s i n count whole list₀ p₀ list' f.next (left - 1) q
    unfolding rest
    fielding_next l w = record { pass = passing_next c.pass h g; going = going_next c.going (push v []) rest split w; list_size = l ∙ c.list_size }

-- definition i, by its shape
module _ (s places : List ℕ) (i : ℕ) {p : Place} (g : PlacedAt s places i p) where
  pub placed_violations : violations_of s (record { number = i; place = p }) ≡ violations_at s places i
  placed_violations = ap₂ (λ n at. validate_type (bundle_of s) i n (type_at 24 s at)) g.name g.at

  pub placed_room : {m : Report} → Room m (violations_at s places i) → Room m (violations_of s (record { number = i; place = p }))
  placed_room {m} r = subst (Room m) (sym placed_violations) r

  pub placed_wrote : {m q : Report} → Wrote (violations_of s (record { number = i; place = p })) m q → Wrote (violations_at s places i) m q
  placed_wrote {m} {q} w = subst (λ vs. Wrote vs m q) placed_violations w

  plain_none : (b : _) (n : ℕ) (t : Ty) → is_plain t ≡ true → validate_type b i n t ≡ []
  plain_none b n (primitive k) e = refl
  plain_none b n (type_ref x) e = refl
  plain_none b n (struct a ms) e = let z : ◌≡◌ {A = ℕ} 0 1 = cc in absurd (omega arith)
  plain_none b n (union a ms) e = refl
  plain_none b n (enum a tag ms) e = let z : ◌≡◌ {A = ℕ} 0 1 = cc in absurd (omega arith)
  plain_none b n (array a jagged size element) e = let z : ◌≡◌ {A = ℕ} 0 1 = cc in absurd (omega arith)
  plain_none b n (size_union a ms) e = refl

  nothing : validate_type (bundle_of s) i p.name (type_at 24 s p.at) ≡ [] → (m : Report) → Wrote (violations_at s places i) m m
  nothing e m = placed_wrote (subst (λ vs. Wrote vs m m) (sym e) (wrote_none m))

  pub placed_plain : {r : Shape} → r ≡ shape.Plain → ShapeOf 24 s p.at r → (m : Report) → Wrote (violations_at s places i) m m
  placed_plain e h m = nothing (plain_none (bundle_of s) p.name (type_at 24 s p.at) (subst (ShapeOf 24 s p.at) e h)) m

  pub placed_ref : {x : ℕ} {r : Shape} → r ≡ shape.TypeRef x → ShapeOf 24 s p.at r → (m : Report) → Wrote (violations_at s places i) m m
  placed_ref {x} e h m =
      let q : type_at 24 s p.at ≡ type_ref x = subst (ShapeOf 24 s p.at) e h in
      nothing (ap (validate_type (bundle_of s) i p.name) q) m

-- what is known of a shape that a `match` has found
pub shape_enum : (s : List ℕ) (at : ℕ) {r : Shape} → r ≡ shape.Enum → ShapeOf 24 s at r → EnumAt 24 s at
shape_enum s at e h = subst (ShapeOf 24 s at) e h

pub shape_array : (s : List ℕ) (at : ℕ) {r : Shape} → r ≡ shape.Array → ShapeOf 24 s at r → ArrayAt 24 s at
shape_array s at e h = subst (ShapeOf 24 s at) e h

-- the definitions from i on are still to be checked
abbrev from : List ℕ → ℕ → List Violation
from s i = flat_map (λ d. validate_type (bundle_of s) d.0 d.1.name d.1.type) (enumerate i (drop i (bundle_of s).definitions))

pub record Defining (s : List ℕ) (list₀ : List ℕ) (p₀ : Report) (list : List ℕ) (i : ℕ) (p : Report) : Type 0 where
  pub going : Going (violations (bundle_of s)) p₀ (from s i) p
  pub list_size : length list ≡ length list₀

pub defining_start : (s list : List ℕ) (p : Report) → Room p (violations (bundle_of s)) → Defining s list p list 0 p
unfolding violations
defining_start s list p r = record { going = going_start r; list_size = refl }

module _ {s places : List ℕ} {count : ℕ} (t : Table s count places) {list₀ : List ℕ} {p₀ : Report} {list : List ℕ} {i : ℕ} {p : Report}
    (c : Defining s list₀ p₀ list i p) where
  pub defining_end : count ≤ i → Wrote (violations (bundle_of s)) p₀ p
  defining_end h =
      going_end c.going
      (ap (λ ds. flat_map (λ d. validate_type (bundle_of s) d.0 d.1.name d.1.type) (enumerate i ds)) (drop_of_length-le (bundle_of s).definitions {i = i} (omega (arith, t.count))))

  module _ (h : i < count) where
    first_of : from s i ≡ violations_at s places i ++ from s (i + 1)
    unfolding definition_at
    first_of =
        let e : suc i ≡ i + 1 = omega arith in
        ap (λ ds. flat_map (λ d. validate_type (bundle_of s) d.0 d.1.name d.1.type) (enumerate i ds)) (from_place (bundle_of s).definitions i (placed_at t i h).is)
        ∙ ap (λ k. violations_at s places i ++ from s k) e

    pub defining_room : Room p (violations_at s places i)
    defining_room = going_room c.going (violations_at s places i) (from s (i + 1)) first_of

    pub defining_next : {list' : List ℕ} {q : Report} → length list' ≡ length list → Wrote (violations_at s places i) p q → Defining s list₀ p₀ list' (i + 1) q
    defining_next l w = record {
      going = going_next c.going (violations_at s places i) (from s (i + 1)) first_of w;
      list_size = l ∙ c.list_size;
    }

-- definition i is one of the bundle's
pub placed_among : {s : List ℕ} {n : ℕ} {places : List ℕ} → Table s n places → {i : ℕ} → i < n → {p : Place} → PlacedAt s places i p
    → Among s (record { number = i; place = p })
placed_among {s} t {i} l {p} g =
    let names = map (λ d. d.name) (bundle_of s).definitions in
    let long = length-map (bundle_of s).definitions (λ d. d.name) in
    let is : get_or names i 0 ≡ p.name = placed_name (bundle_of s).definitions i (placed_at t i l) ∙ sym g.name in
    record {
      number = omega (arith, t.count, t.placed.room);
      defined = omega (arith, ap (place names) is, has_get_d names i (omega (arith, long, t.count)), long);
    }
