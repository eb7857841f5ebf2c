-- What is kept of an enum and the names to which its tag refers.
use Rattle.std.specs.Prelude.{ℕ, ◌+◌, ◌-◌, ◌<◌, Bool, not, cond, ◌&&◌, List, [], ◌∷◌, ◌≡◌, eqb, length, get_or, Option, Some, None}
use Rattle.std.proofs.Math.Option as option
use Rattle.meaning.specs.Limits.{definition_limit}
use Rattle.meaning.specs.Lists.{any, last_index, holds}
use Rattle.meaning.specs.Lookup.{as_struct, definition_of, find_type, member_type, refers_to}
use Rattle.meaning.specs.Sizes.{is_enum_with_constant_size_variants}
use Rattle.meaning.specs.Tree.{Ty, Member, Bundle}
use Rattle.meaning.specs.Violations.{is_enum_referencing_same_container_struct, stands_before, struct_of}
use Rattle.meaning.specs.Reader.{little}
use Rattle.bundle.specs.Definitions.{type_at, bundle_of}
use Rattle.fields.specs.Sought.{refers}
use Rattle.containers.specs.declared.Container.{Container}
use Rattle.containers.specs.declared.Container.TheVariants.{Nowhere, Somewhere, At}
use Rattle.field_index.specs.Noted.{index_shown}

-- the name e is defined
abbrev pub Defined : List ℕ → ℕ → Type 0
Defined s e = definition_of (bundle_of s) e < length (bundle_of s).definitions

-- the name e is defined, and x is one more than the number of its first definition
pub record LeadFor (s : List ℕ) (e x : ℕ) : Type 0 where
  pub number : x ≡ definition_of (bundle_of s) e + 1
  pub defined : Defined s e

-- the type is a struct with a field that is a TypeRef to e
abbrev pub holds_ref : ℕ → Ty → Bool
holds_ref e t = holds (any (λ m. refers_to e (member_type m))) (as_struct t)

-- definition i has the name x and is such a struct
abbrev pub contains_at : List ℕ → List ℕ → ℕ → ℕ → ℕ → Bool
contains_at s places i e x = eqb (little s (get_or places i 0 - 2) 2) x && holds_ref e (type_at 24 s (get_or places i 0))

-- the index of the last of a struct's fields that is a TypeRef to e, as the code shows it
abbrev pub last_held : ℕ → option.Option (List Member) → Option ℕ
last_held e option.none = None
last_held e (option.some ms) = index_shown (last_index (refers e) ms)

-- the same of the first definition of the name x, if that is a struct, and None too where the variants of e are of constant size
abbrev pub held_in : Bundle → ℕ → ℕ → Option ℕ
held_in b e x = cond (holds is_enum_with_constant_size_variants (find_type b e)) None (last_held e (struct_of b x))

-- how the code shows that where some struct of the name x holds e
abbrev pub held_shown : Option ℕ → Container
held_shown None = Somewhere
held_shown (Some k) = At k

-- the same where none does too
abbrev pub container_shown : Bundle → ℕ → ℕ → Container
container_shown b e x = cond (is_enum_referencing_same_container_struct b e x) (held_shown (held_in b e x)) Nowhere

-- what type 1 asks of the enum e and a reference to the field f of the first definition of the name x, if that is a struct
abbrev pub is_before : Bundle → ℕ → ℕ → ℕ → Bool
is_before b e x f = holds (stands_before e (f ∷ [])) (struct_of b x) && not (holds is_enum_with_constant_size_variants (find_type b e))

-- the name e is defined; `known` has answers of the enum e, for names by their first definitions
pub record Known (s : List ℕ) (e : ℕ) (known : List (Option Container)) : Type 0 where
  pub size : length known ≡ definition_limit
  pub defined : Defined s e
  pub each : (i : ℕ) → i < definition_limit → (c : Container) → get_or known i None ≡ Some c → (x : ℕ) → definition_of (bundle_of s) x ≡ i → c ≡ container_shown (bundle_of s) e x
