-- What the search for a chain says of the checks, and the fields that a reference names.
use Rattle.std.specs.Prelude.{Some, None, Option as CodeOption}
use Prim.Native.Nat.{ℕ, ◌+◌}
use native.Mathlib.Omega.{arith}
use mathlib.Core.Bool.{true, false}
use mathlib.Core.Option.{Option, none}
use mathlib.Core.Path.{◌≡◌, sym, ap, subst, ◌∙◌}
use mathlib.Core.List.{List, [], ◌∷◌}
use lib.ListN.{length}
use Rattle.meaning.specs.Chain.{chain_of}
use Rattle.meaning.specs.Lists.{holds}
use Rattle.meaning.specs.Lookup.{parse_field_reference, find_type}
use Rattle.fields.specs.Shapes.{DefinitionIs}
use Rattle.meaning.specs.Reader.{little, names_from}
use Rattle.meaning.specs.Sizes.{named_size_depends}
use Rattle.meaning.specs.Violations.{find_layout_dependency_chain, is_enum_referencing_same_container_struct}
use Rattle.meaning.specs.Violations.{check_enum_forward_reference_in_same_struct, check_enum_tag_layout_cycle, check_array_size_layout_cycle}
use Rattle.bundle.specs.declared.Layout.{Layout}
use Rattle.bundle.specs.Definitions.{bundle_of}
use Rattle.bundle.specs.Opened.{LayoutOf}
use Rattle.chain.specs.Edges.{graph_at}
use Rattle.chain.specs.Found.{Stands, Answers}
use Rattle.chain.specs.Index.{named}
use Rattle.chain.proofs.Edges.{chain_read}
use Rattle.chain.proofs.Named.{prepared_chain}
use Rattle.sizes.specs.declared.Target as code
use Rattle.sizes.specs.Paths.{Fit, target_meant}
use Rattle.sizes.specs.Scan.{path_at}
use Rattle.sizes.proofs.PathLaws.{path_names}
use Rattle.checks.specs.declared.Finding.TheVariants.{EnumCycle, ArrayCycle}
use Rattle.sizes.specs.Tests.{definition_size_depends}
use Rattle.checks.specs.Checks.{target_at, type_part, PartOf, Checked, GraphOf, EdgesPrepared}

pub graph_of : {s : List ℕ} {l : Layout} {places : List ℕ} → LayoutOf s l places → GraphOf s l
graph_of o = record { edges = o.edges; few = o.few; from = o.from; current = o.current }

-- nothing is found
pub fine : (s : List ℕ) (n : ℕ) (list : List ℕ) {o : ℕ → Option _} → ((i : ℕ) → o i ≡ none) → Checked s n list None o
fine s n list h = record { means = λ i. sym (h i); fits = tt }

-- the search over the prepared edges is that over the bundle's
pub found_chain : {s : List ℕ} {l : Layout} {edges : List ℕ} → GraphOf s l → EdgesPrepared s l edges → (a c : ℕ) {list : List ℕ} {r : CodeOption ℕ}
    → Answers (chain_of (named l.edges edges) a c) list r → Answers (find_layout_dependency_chain (bundle_of s) a c) list r
unfolding find_layout_dependency_chain
found_chain {s} {l} g p a c {list} {r} h =
    subst (λ o. Answers o list r)
    (prepared_chain p a c ∙ ap (λ k. chain_of (graph_at s l.edges_at k) a c) g.edges ∙ sym (chain_read s (bundle_of s) l.edges_at g.from a c)) h

-- the type's name in a reference
pub type_part_lem : {s : List ℕ} {l : Layout} → GraphOf s l → (p : ℕ) (t : code.Target) → target_meant s t ≡ parse_field_reference l.current (path_at s p) → t.name ≡ type_part s p
type_part_lem {s} g p t e = ap (λ x. x.type) e ∙ ap (λ c. (parse_field_reference c (path_at s p)).type) g.current

-- type 3
module _ (s : List ℕ) (p x a : ℕ) (e : x ≡ type_part s p) where
  pub array_none : find_layout_dependency_chain (bundle_of s) x a ≡ none → (i : ℕ) → check_array_size_layout_cycle (bundle_of s) i a (path_at s p) ≡ none
  unfolding check_array_size_layout_cycle
  array_none h i = rw (← e, h)

  pub array_some : Fit s p → {list : List ℕ} {k : ℕ} → Stands (find_layout_dependency_chain (bundle_of s) x a) list k
      → Checked s a list (Some (ArrayCycle p k)) (λ i. check_array_size_layout_cycle (bundle_of s) i a (path_at s p))
  unfolding check_array_size_layout_cycle
  array_some f h = record { means = λ i. rw (← e, h.is); fits = record { fit = f; short = h.short; room = h.room } }

-- types 1 and 2
module _ (s : List ℕ) (p x n : ℕ) (e : x ≡ type_part s p) where
  pub enum_same : {list : List ℕ} {r : _} → true ≡ is_enum_referencing_same_container_struct (bundle_of s) n x
      → Checked s n list r (λ i. check_enum_forward_reference_in_same_struct (bundle_of s) i n (target_at s p))
      → Checked s n list r (λ i. check_enum_tag_layout_cycle (bundle_of s) i n (path_at s p))
  unfolding check_enum_tag_layout_cycle
  enum_same h c = record { means = λ i. c.means i ∙ rw (← e, ← h); fits = c.fits }

  module _ (h : false ≡ is_enum_referencing_same_container_struct (bundle_of s) n x) where
    pub enum_size : false ≡ holds (named_size_depends (bundle_of s)) (find_type (bundle_of s) n) → (i : ℕ) → check_enum_tag_layout_cycle (bundle_of s) i n (path_at s p) ≡ none
    unfolding check_enum_tag_layout_cycle
    enum_size d i = rw (← e, ← h, ← d)

    module _ (d : true ≡ holds (named_size_depends (bundle_of s)) (find_type (bundle_of s) n)) where
      pub enum_none : find_layout_dependency_chain (bundle_of s) x n ≡ none → (i : ℕ) → check_enum_tag_layout_cycle (bundle_of s) i n (path_at s p) ≡ none
      unfolding check_enum_tag_layout_cycle
      enum_none q i = rw (← e, ← h, ← d, q)

      pub enum_some : Fit s p → {list : List ℕ} {k : ℕ} → Stands (find_layout_dependency_chain (bundle_of s) x n) list k
          → Checked s n list (Some (EnumCycle p k)) (λ i. check_enum_tag_layout_cycle (bundle_of s) i n (path_at s p))
      unfolding check_enum_tag_layout_cycle
      enum_some f q = record { means = λ i. rw (← e, ← h, ← d, q.is); fits = record { fit = f; short = q.short; room = q.room } }

-- the field part of a reference with n names
module _ (s : List ℕ) (p n : ℕ) (e : n ≡ length (path_at s p)) where
  names_are : path_at s p ≡ names_from s (p + 1) n
  names_are = path_names s p ∙ ap (names_from s (p + 1)) (sym e)

  pub part_one : (f : ℕ) → n ≡ 1 → f ≡ little s (p + 1) 2 → PartOf (path_at s p) (Some f)
  unfolding names_from
  part_one f h q current = ap (λ path. (parse_field_reference current path).field) (names_are ∙ ap (names_from s (p + 1)) h) ∙ ap (◌∷ []) (sym q)

  pub part_two : (f : ℕ) → n ≡ 2 → f ≡ little s (p + 3) 2 → PartOf (path_at s p) (Some f)
  unfolding names_from
  part_two f h q current =
      ap (λ path. (parse_field_reference current path).field) (names_are ∙ ap (names_from s (p + 1)) h)
      ∙ ap (◌∷ []) (ap (λ at. little s at 2) (omega arith) ∙ sym q)

-- the size test of the first definition of a name
pub size_is : {s : List ℕ} {n x i at : ℕ} → DefinitionIs s n x i at → definition_size_depends (bundle_of s) i ≡ holds (named_size_depends (bundle_of s)) (find_type (bundle_of s) x)
unfolding find_type
size_is {s} g = ap (definition_size_depends (bundle_of s)) g.number

pub size_none : (s : List ℕ) (x : ℕ) → find_type (bundle_of s) x ≡ none → false ≡ holds (named_size_depends (bundle_of s)) (find_type (bundle_of s) x)
size_none s x e = rw e
