-- The three demands, in their own words. The contracts of the functions of `demanded` cite them over the calls' arguments, answers and
-- lent places. `before` and `after` are what the lent places hold before and after the call, a what it answers.
use Rattle.std.specs.Prelude.{ℕ, ◌≤◌, ◌<◌, List, [], ◌↔◌, ◌⊎◌, ◌≡◌, length, take, drop}
use Rattle.names.specs.Names.{numbering, Exchange}
use Rattle.names.specs.Documents.{bytes, names, map_names}
use Rattle.meaning.specs.Tree.{Bundle}
use Rattle.meaning.specs.Encoding.{bundle_items, bundle_bytes}
use Rattle.meaning.specs.Chain.{IsWalk, Reaches, Earlier, names_on}
use Rattle.meaning.specs.Violations.{graph, violations}
use Rattle.meaning.specs.Report.{report_items}
use Rattle.meaning.specs.Calls.{Answer, accepted, refused_with}
use Rattle.refusals.specs.Numbers.{Keeps, Number}

-- Demand 1.

-- xs is given in full: its length is answered, it stands in the first places, and the others are as they were
pub record Given (xs before after : List ℕ) (a : Answer) : Type 0 where
  pub answer : a ≡ accepted (length xs)
  pub first : take (length xs) after ≡ xs
  pub others : drop (length xs) after ≡ drop (length xs) before

-- the call is refused with k, and every place is as it was
pub record Refused (k : ℕ) (before after : List ℕ) (a : Answer) : Type 0 where
  pub answer : a ≡ refused_with k
  pub all : after ≡ before

-- a call whose result is xs gets it in full where the lent places hold it, and else is refused with 9
pub record Gets (xs before after : List ℕ) (a : Answer) : Type 0 where
  pub full : length xs ≤ length before → Given xs before after a
  pub narrow : length before < length xs → Refused 9 before after a

-- The bytes are those of a bundle to be accepted, or of none: there is no third case. They are those of one bundle at most. There is one
-- number at most for which they are refused, and for a bundle to be accepted there is none.
pub record Cases (s : List ℕ) : Type 0 where
  pub either : ((b : Bundle) × Keeps s b) ⊎ ((b : Bundle) → Keeps s b → ⊥)
  pub one_bundle : (b c : Bundle) → Keeps s b → Keeps s c → b ≡ c
  pub one_number : (j k : ℕ) → Number s j → Number s k → j ≡ k
  pub no_number : (b : Bundle) → Keeps s b → (k : ℕ) → Number s k → ⊥

-- Every bundle that keeps the layout, with references that never circle, is accepted and its call gets the result; every other call is
-- refused with the one number (`Number`, the refusals' Numbers.antt). None of these calls is refused with another
-- number than 1 to 9 (the calls for fixed sizes and for values have demands of their own: crates/fixed_demand, crates/value_demand).
-- `Result b xs`: xs is the result for the bundle b.
pub record Demand1 (Result : Bundle → List ℕ → Type 0) (s before after : List ℕ) (a : Answer) : Type 0 where
  pub every : (b : Bundle) → Keeps s b → (xs : List ℕ) × Result b xs × Gets xs before after a
  pub other : ((b : Bundle) → Keeps s b → ⊥) → (k : ℕ) × Number s k × Refused k before after a
  pub cases : Cases s
  pub numbered : (k : ℕ) → a ≡ refused_with k → (1 ≤ k) × (k ≤ 9)

-- Demand 2: the result of each call.

-- nothing, where only acceptance is asked for
abbrev pub Nothing : Bundle → List ℕ → Type 0
Nothing b xs = xs ≡ []

-- the report: the violations that the checks find, in their order
abbrev pub ReportOf : Bundle → List ℕ → Type 0
ReportOf b xs = xs ≡ bytes (report_items (violations b))

-- the numbering of the names that stand in a bundle's records: the map from old names to new, 0 to 0 included
abbrev pub numbering_of : Bundle → ℕ → ℕ
numbering_of b = numbering (names (bundle_items b))

-- the bundle with each name in its records put through its numbering, and all else as it was
abbrev pub RenumberedOf : Bundle → List ℕ → Type 0
RenumberedOf b xs = xs ≡ bytes (map_names (numbering_of b) (bundle_items b))

-- the names on a path of fewest edges, the first of those by edge numbers
pub record FirstPath (b : Bundle) (from to : ℕ) (xs : List ℕ) : Type 0 where
  pub path : List ℕ
  pub leads : IsWalk (graph b) from path to
  pub on : xs ≡ names_on (graph b) from path
  pub fewest : (other : List ℕ) → IsWalk (graph b) from other to → length path ≤ length other
  pub first : (other : List ℕ) → IsWalk (graph b) from other to → length other ≡ length path → (path ≡ other) ⊎ Earlier path other

-- the chain: nothing where no path exists, and else the names on the first path
abbrev pub ChainOf : ℕ → ℕ → Bundle → List ℕ → Type 0
ChainOf from to b xs = ((Reaches (graph b) from to → ⊥) × (xs ≡ [])) ⊎ FirstPath b from to xs

-- there is one chain
pub record OneChain : Type 0 where
  pub one : (from to : ℕ) (b : Bundle) (xs ys : List ℕ) → ChainOf from to b xs → ChainOf from to b ys → xs ≡ ys

-- Demand 3.

-- two bundles are alike: some exchange of all names that sends 0 to 0 turns c into d, whose bytes are c's with each name in its records
-- put through the exchange, and all else as it was
pub record AlikeBundles (c d : Bundle) : Type 0 where
  pub by : Exchange
  pub zero_stays : by.to 0 ≡ 0
  pub turns : bytes (map_names by.to (bundle_items c)) ≡ bundle_bytes d

-- Two bundles are renumbered, the one into the places u and the other into v: both results are equal, length and bytes, exactly when
-- the bundles are alike.
pub record Demand3Alike (s t : List ℕ) (u u' : List ℕ) (a : Answer) (v v' : List ℕ) (b : Answer) : Type 0 where
  pub one : Demand1 RenumberedOf s u u' a
  pub another : Demand1 RenumberedOf t v v' b
  pub equal : (c d : Bundle) → Keeps s c → Keeps t d → (m n : ℕ) → a ≡ accepted m → b ≡ accepted n → ((m ≡ n) × (take m u' ≡ take n v')) ↔ AlikeBundles c d

-- A bundle is renumbered into the places u, and the report of those n bytes goes into v: the renumbered bundle is accepted too, and its
-- report is the original's with each name put through the numbering, and all else as it was. A refused bundle has no such report.
pub record Demand3Report (s u u' : List ℕ) (a : Answer) (v v' : List ℕ) (b : Answer) : Type 0 where
  pub renumbered : Demand1 RenumberedOf s u u' a
  pub reported : (n : ℕ) → a ≡ accepted n → Demand1 ReportOf (take n u') v v' b
  pub keeps_too : (n : ℕ) → a ≡ accepted n → (c : Bundle) × Keeps (take n u') c
  pub report : (c : Bundle) → Keeps s c → (n : ℕ) → a ≡ accepted n → Gets (bytes (map_names (numbering_of c) (report_items (violations c)))) v v' b
  pub none : (k : ℕ) → a ≡ refused_with k → Refused k v v' b
