-- What the validators write.
use Rattle.std.specs.Prelude.{Ok}
use Rattle.std.specs.Prelude.{ℕ, ◌+◌, ◌*◌, ◌-◌, ◌≤◌, ◌<◌, Bool, true, false, List, [], ◌∷◌, ◌≡◌, length, get_or, take}
use Rattle.std.proofs.Math.Option.{Option}
use Rattle.names.specs.Documents.{bytes}
use Rattle.meaning.specs.Limits.{definition_limit, edge_limit}
use Rattle.meaning.specs.Lists.{filter_map, flat_map}
use Rattle.meaning.specs.Report.{violation_items}
use Rattle.meaning.specs.Tree.{Bundle}
use Rattle.meaning.specs.Violations.{Violation, violation, check_enum_tag_layout_cycle, check_array_size_layout_cycle, validate_type}
use Rattle.violation.specs.declared.Path.{Path}
use Rattle.violation.specs.declared.Record.{Record}
use Rattle.violation.specs.declared.Kind.{Kind}
use Rattle.violation.specs.Kinds.{type_number}
use Rattle.violation.specs.Records.{Puts, padded}
use Rattle.checks.specs.declared.Finding.{Finding}
use Rattle.containers.specs.Containers.{Defined}
use Rattle.checks.specs.Checks.{violation_found, FindingFits}
use Rattle.meaning.specs.Reader.{little}
use Rattle.meaning.specs.ReadExpr.{read_expr}
use Rattle.bundle.specs.View.{step_of}
use Rattle.bundle.specs.Definitions.{bundle_of, type_at}
use Rattle.sizes.specs.Scan.{paths_from}
use Rattle.validate.specs.declared.Report.{Report}
use Rattle.validate.specs.declared.Subject.{Subject}
use Rattle.validate.specs.declared.References.{References}
use Rattle.validate.specs.declared.Site.{Site}
use Rattle.validate.specs.declared.Site.TheVariants.{Tag, Size}

-- r is the record of what was found, with a chain of k names
pub record Recorded (s : List ℕ) (f : Finding) (r : Record) (k : ℕ) : Type 0 where
  pub names : List ℕ
  pub few : length names ≤ 4
  pub path : r.path ≡ padded names
  pub is : (i n : ℕ) (list : List ℕ) → violation_found s i n list f ≡ violation (type_number r.kind) i n names (take k list)
  pub room : (m : ℕ) → FindingFits s m f → (k ≤ edge_limit + 1) × (k ≤ m)

-- a record of this type, with this path
abbrev pub record_with : Kind → Path → Record
record_with kind path = record { kind = kind; path = path }

-- a path of so many names, at most two
abbrev pub path_of_two : ℕ → ℕ → ℕ → Path
path_of_two count first second = record { count = count; names = first ∷ second ∷ 0 ∷ 0 ∷ [] }

-- the bytes of the records of violations
abbrev pub record_bytes : List Violation → List ℕ
record_bytes vs = bytes (flat_map violation_items vs)

-- the most bytes of a record, with a chain of 1,025 names
abbrev record_limit : ℕ
record_limit = 3091

-- the violations vs are written at the end of the report p, which is then q
pub record Wrote (vs : List Violation) (p q : Report) : Type 0 where
  pub same_bytes : q.out.ghost_name ≡ p.out.ghost_name
  pub puts : Puts (record_bytes vs) p.out.now p.at q.out.now q.at
  pub counts : q.count ≡ p.count + length vs
  pub short : length (record_bytes vs) ≤ record_limit * length vs

-- p is no longer than its count allows, and vs can be counted behind it
pub record Room (p : Report) (vs : List Violation) : Type 0 where
  pub far : p.at ≤ 3 + record_limit * p.count
  pub few : p.count + length vs ≤ 65535

-- the number is one that a definition can have, and the name is defined
pub record Among (s : List ℕ) (subject : Subject) : Type 0 where
  pub number : subject.number < definition_limit
  pub defined : Defined s subject.place.name

-- whether it is an enum's tag
abbrev pub is_tag : Site → Bool
is_tag Tag = true
is_tag Size = false

-- r spans the expression that was read at a position
pub record ReferencesAt (s : List ℕ) (at : ℕ) (site : Site) (r : References) : Type 0 where
  pub which : r.site ≡ site
  pub starts : r.at ≡ at
  pub ends : Ok r.end ≡ step_of (read_expr 23 s at)

-- the check of one reference: of an enum's tag, or of an array's size
abbrev pub check_reference : Bool → Bundle → ℕ → ℕ → List ℕ → Option Violation
check_reference true = check_enum_tag_layout_cycle
check_reference false = check_array_size_layout_cycle

-- what is found of a definition by its references
abbrev pub found_in : List ℕ → Subject → References → List Violation
found_in s d r = filter_map (check_reference (is_tag r.site) (bundle_of s) d.number d.place.name) (paths_from s r.at r.end)

-- the violations of a definition
abbrev pub violations_of : List ℕ → Subject → List Violation
violations_of s d = validate_type (bundle_of s) d.number d.place.name (type_at 24 s d.place.at)

-- those of definition i
abbrev pub violations_at : List ℕ → List ℕ → ℕ → List Violation
violations_at s places i = validate_type (bundle_of s) i (little s (get_or places i 0 - 2) 2) (type_at 24 s (get_or places i 0))
