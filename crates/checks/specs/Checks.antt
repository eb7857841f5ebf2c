-- What the answers of the checks stand for.
use Rattle.std.specs.Prelude.{ℕ, ◌+◌, ◌≤◌, ◌<◌, List, [], ◌∷◌, ◌≡◌, length, take, Option, Some, None}
use Rattle.std.proofs.Math.Option as option
use Rattle.meaning.specs.Limits.{edge_limit}
use Rattle.meaning.specs.Lookup.{Target, parse_field_reference}
use Rattle.meaning.specs.Violations.{Violation, violation, enum_forward, enum_cycle, array_cycle, field_forward, variable_element, jagged_reference, jagged_inline, nested_jagged}
use Rattle.bundle.specs.declared.Layout.{Layout}
use Rattle.bundle.specs.Definitions.{bundle_of, EdgesFrom}
use Rattle.chain.specs.Edges.{graph_at}
use Rattle.chain.specs.Index.{Prepared}
use Rattle.sizes.specs.Paths.{Fit}
use Rattle.sizes.specs.Scan.{path_at, references_from, Fits}
use Rattle.checks.specs.declared.Finding.{Finding}
use Rattle.checks.specs.declared.Finding.TheVariants.{EnumForward, EnumCycle, ArrayCycle, FieldForward, VariableElement, JaggedReference, JaggedInline, NestedJagged}

-- the violation of definition i of the name n in the bytes s, with the chain in the first places of the list
abbrev pub violation_found : List ℕ → ℕ → ℕ → List ℕ → Finding → Violation
violation_found s i n list (EnumForward t f) = violation enum_forward i n (t ∷ f ∷ []) (take 3 list)
violation_found s i n list (EnumCycle p k) = violation enum_cycle i n (path_at s p) (take k list)
violation_found s i n list (ArrayCycle p k) = violation array_cycle i n (path_at s p) (take k list)
violation_found s i n list (FieldForward p) = violation field_forward i n (path_at s p) (take 3 list)
violation_found s i n list VariableElement = violation variable_element i n [] (take 1 list)
violation_found s i n list JaggedReference = violation jagged_reference i n [] (take 2 list)
violation_found s i n list JaggedInline = violation jagged_inline i n [] (take 1 list)
violation_found s i n list NestedJagged = violation nested_jagged i n [] (take 1 list)

-- it, where a check found one
abbrev pub violation_of : List ℕ → ℕ → ℕ → List ℕ → Option Finding → option.Option Violation
violation_of s i n list None = option.none
violation_of s i n list (Some f) = option.some (violation_found s i n list f)

-- a reference lies within the bytes, and a chain of k names within a list of so many places
pub record Holds (s : List ℕ) (places p k : ℕ) : Type 0 where
  pub fit : Fit s p
  pub short : k ≤ edge_limit + 1
  pub room : k ≤ places

-- the reference and the chain of what was found do
abbrev pub FindingFits : List ℕ → ℕ → Finding → Type 0
FindingFits s places (EnumForward t f) = 3 ≤ places
FindingFits s places (EnumCycle p k) = Holds s places p k
FindingFits s places (ArrayCycle p k) = Holds s places p k
FindingFits s places (FieldForward p) = Holds s places p 3
FindingFits s places VariableElement = 3 ≤ places
FindingFits s places JaggedReference = 3 ≤ places
FindingFits s places JaggedInline = 3 ≤ places
FindingFits s places NestedJagged = 3 ≤ places

-- they do, where something was found
abbrev pub Fitting : List ℕ → ℕ → Option Finding → Type 0
Fitting s places None = Unit {0}
Fitting s places (Some f) = FindingFits s places f

-- r is the answer where `o i` is what the check finds in definition i
pub record Checked (s : List ℕ) (n : ℕ) (list : List ℕ) (r : Option Finding) (o : ℕ → option.Option Violation) : Type 0 where
  pub means : (i : ℕ) → violation_of s i n list r ≡ o i
  pub fits : Fitting s (length list) r

-- what the reference at a position means in the bundle of the bytes
abbrev pub target_at : List ℕ → ℕ → Target
target_at s p = parse_field_reference (bundle_of s).current (path_at s p)

-- the type's name in it
abbrev pub type_part : List ℕ → ℕ → ℕ
type_part s p = (target_at s p).type

-- the field part of a path, whatever the current name is
abbrev pub PartOf : List ℕ → Option ℕ → Type 0
PartOf path (Some f) = (current : ℕ) → (parse_field_reference current path).field ≡ f ∷ []
PartOf path None = (current : ℕ) → length (parse_field_reference current path).field ≡ 1 → ⊥

-- the layout has the edges and the current name of the bundle
pub record GraphOf (s : List ℕ) (l : Layout) : Type 0 where
  pub edges : l.edges ≡ length (bundle_of s).edges
  pub few : l.edges ≤ edge_limit
  pub from : EdgesFrom s (bundle_of s).edges l.edges_at
  pub current : l.current ≡ (bundle_of s).current

-- the edges of the bundle are prepared for searches
abbrev pub EdgesPrepared : List ℕ → Layout → List ℕ → Type 0
EdgesPrepared s l edges = Prepared (graph_at s l.edges_at l.edges) l.edges edges

-- the first reference from `at` to `end` is at p, and those behind it start at `after`
pub record ReferenceIs (s : List ℕ) (at end p after : ℕ) : Type 0 where
  pub rest : references_from s at end ≡ p ∷ references_from s after end
  pub forward : at < after
  pub fit : Fit s p
  pub fits : Fits s (references_from s after end)

-- what is answered to a search for the first reference
abbrev pub Referred : List ℕ → ℕ → ℕ → Option (ℕ × ℕ) → Type 0
Referred s at end (Some r) = ReferenceIs s at end r.0 r.1
Referred s at end None = references_from s at end ≡ []
