-- What a struct's check finds in the definitions to which its fields lead: type 4.
use Rattle.std.specs.Prelude.{Option, Some, None, ℕ, zero, suc, ◌+◌, ◌≤◌, Bool, not, cond, ◌&&◌, ◌||◌, List, [], ◌∷◌, ◌≡◌, eqb, ltb, length, get_or}
use Rattle.std.proofs.Math.Option as option
use Rattle.meaning.specs.Limits.{definition_limit}
use Rattle.meaning.specs.Lists.{find_map}
use Rattle.meaning.specs.Lookup.{parse_field_reference}
use Rattle.meaning.specs.Sizes.{named_size_depends, is_enum_with_constant_size_variants}
use Rattle.meaning.specs.References.{collect_field_references_in_type_kind}
use Rattle.meaning.specs.Tree.{Ty, Bundle}
use Rattle.meaning.specs.Violations.{Violation, violation, field_forward, is_later_field, type_needs_field_ref_for_layout, check_forward_reference}
use Rattle.bundle.specs.Definitions.{bundle_of}
use Rattle.sizes.specs.Paths.{Fit}
use Rattle.sizes.specs.Scan.{path_at, Fits}
use Rattle.checks.specs.Checks.{target_at}
use Rattle.notes.specs.Notes.{needed_of, Lists, list_start}

-- the reference leads to a field behind index j of the struct n, and the type t needs it
abbrev pub is_forward : Bundle → ℕ → ℕ → Ty → List ℕ → Bool
is_forward b n j t path =
    is_later_field b n j (parse_field_reference b.current path)
    && (named_size_depends b t || type_needs_field_ref_for_layout t path)
    && not (is_enum_with_constant_size_variants t)

-- the first number that passes the test
abbrev pub find : (ℕ → Bool) → List ℕ → option.Option ℕ
find test [] = option.none
find test (p ∷ ps) = cond (test p) (option.some p) (find test ps)

-- how the code shows a position, and that the reference there lies within the bytes
abbrev pub position_shown : option.Option ℕ → Option ℕ
position_shown option.none = None
position_shown (option.some p) = Some p

abbrev pub FitIn : List ℕ → Option ℕ → Type 0
FitIn s None = Unit {0}
FitIn s (Some p) = Fit s p

-- r is the first forward reference among the positions ps
pub record Forwarded (s : List ℕ) (n j : ℕ) (t : Ty) (ps : List ℕ) (r : Option ℕ) : Type 0 where
  pub first : r ≡ position_shown (find (λ p. is_forward (bundle_of s) n j t (path_at s p)) ps)
  pub fit : FitIn s r

-- what is found of definition i of the name n, in its field f, by the reference at a position
abbrev pub forward_at : List ℕ → ℕ → ℕ → ℕ → Option ℕ → option.Option Violation
forward_at s i n f None = option.none
forward_at s i n f (Some p) = option.some (violation field_forward i n (path_at s p) (n ∷ f ∷ (target_at s p).field))

-- the field part of the reference at a position is one name
abbrev pub OneField : List ℕ → Option ℕ → Type 0
OneField s None = Unit {0}
OneField s (Some p) = length (target_at s p).field ≡ 1

-- r is the position of the first forward reference in the type t
pub record ForwardIn (s : List ℕ) (n j : ℕ) (t : Ty) (r : Option ℕ) : Type 0 where
  pub first : (i f : ℕ) → find_map (check_forward_reference (bundle_of s) i n j f t) (collect_field_references_in_type_kind t) ≡ forward_at s i n f r
  pub fit : FitIn s r
  pub one : OneField s r

-- the reference at a position leads to a field behind index k of the struct n
abbrev pub is_later : List ℕ → ℕ → ℕ → ℕ → Bool
is_later s n k p = is_later_field (bundle_of s) n k (target_at s p)

-- what is listed at a is a reference to a field of the struct n, behind index j
abbrev pub is_later_at : List ℕ → ℕ → ℕ → ℕ → Bool
is_later_at places n j a = eqb (get_or places a 0) n && ltb (j + 1) (get_or places (a + 1) 0)

-- where the first such of k references is listed from a on, and None if there is none
abbrev pub later_from : List ℕ → ℕ → ℕ → ℕ → ℕ → Option ℕ
later_from places n j zero a = None
later_from places n j (suc k) a = cond (is_later_at places n j a) (Some a) (later_from places n j k (a + 3))

-- of the references at ps, those listed from `next` to `end` have all that lead to a field of the struct n behind index j or a later one
pub record SeenTo (s places : List ℕ) (end n j : ℕ) (ps : List ℕ) (next : ℕ) : Type 0 where
  pub rest : List ℕ
  pub lists : Lists s places end next rest
  pub fits : Fits s rest
  pub same : (k : ℕ) → j ≤ k → find (is_later s n k) rest ≡ find (is_later s n k) ps

-- `seen` has for each definition to where its list is seen, if it is
pub record Seen (s places : List ℕ) (n j : ℕ) (seen : List (Option ℕ)) : Type 0 where
  pub size : length seen ≡ definition_limit
  pub each : (i at : ℕ) → get_or seen i None ≡ Some at → SeenTo s places (list_start places (i + 1)) n j (needed_of s places i) at
