-- The names whose edges the chain search follows, and their count (document 02, L3), said without the search.
use Rattle.std.specs.Prelude.{ℕ, zero, suc, Bool, true, false, cond, ◌&&◌, ◌||◌, List, [], ◌∷◌, ◌++◌, eqb, ltb, length}
use Rattle.std.proofs.Math.Option.{Option, none, some}
use Rattle.names.specs.Names.{inserts}
use Rattle.meaning.specs.Chain.{Graph, first_walk, chain_of}
use Rattle.meaning.specs.Violations.{graph}
use Rattle.meaning.specs.Calls.{Outcome, result, on_bundle}

-- the elements that pass the test
abbrev pub filter : {A : Type 0} → (A → Bool) → List A → List A
filter p [] = []
filter p (x ∷ xs) = cond (p x) (x ∷ filter p xs) (filter p xs)

-- the names of the first k edges, from before to
abbrev pub edge_names : Graph → ℕ → List ℕ
edge_names g zero = []
edge_names g (suc k) = edge_names g k ++ g.from k ∷ g.to k ∷ []

-- the start and the names of all edges, each once, by first mention
unfoldable pub mentioned : Graph → ℕ → List ℕ
mentioned g a = inserts (a ∷ []) (edge_names g g.count)

-- there is a walk
abbrev pub is_there : Option (List ℕ) → Bool
is_there none = false
is_there (some es) = true

-- the names reachable from a, a included, each once
unfoldable pub reachable : Graph → ℕ → List ℕ
reachable g a = filter (λ x. is_there (first_walk g a x)) (mentioned g a)

-- es is fs, or the first of the two in dictionary order
abbrev pub not_later : List ℕ → List ℕ → Bool
not_later [] fs = true
not_later (e ∷ es) [] = false
not_later (e ∷ es) (f ∷ fs) = ltb e f || (eqb e f && not_later es fs)

-- es has fewer edges than fs, or as many and is not later
abbrev pub up_to : List ℕ → List ℕ → Bool
up_to es fs = ltb (length es) (length fs) || (eqb (length es) (length fs) && not_later es fs)

-- both walks are there, and the first is up to the second
abbrev pub walk_up_to : Option (List ℕ) → Option (List ℕ) → Bool
walk_up_to none o = false
walk_up_to (some es) none = false
walk_up_to (some es) (some fs) = up_to es fs

-- the last name but one of a chain, where it has two
abbrev pub last_but_one : List ℕ → Option ℕ
last_but_one [] = none
last_but_one (x ∷ []) = none
last_but_one (x ∷ y ∷ []) = some x
last_but_one (x ∷ y ∷ z ∷ zs) = last_but_one (y ∷ z ∷ zs)

-- of the names reachable from a, those whose chain is up to that of p
abbrev pub names_up_to : Graph → ℕ → Option ℕ → List ℕ
names_up_to g a none = []
names_up_to g a (some p) = filter (λ x. walk_up_to (first_walk g a x) (first_walk g a p)) (reachable g a)

-- by the chain: the names up to its last but one, none where it has one name, and all where there is no chain
abbrev pub names_for : Graph → ℕ → Option (List ℕ) → List ℕ
names_for g a none = reachable g a
names_for g a (some names) = names_up_to g a (last_but_one names)

-- the names whose edges the search from a to b follows
unfoldable pub followed_names : Graph → ℕ → ℕ → List ℕ
followed_names g a b = names_for g a (chain_of g a b)

-- how many they are
unfoldable pub followed_count : Graph → ℕ → ℕ → ℕ
followed_count g a b = length (followed_names g a b)

-- the count that is due beside a chain (`chaining` of the meaning's Due.antt), or the refusal
unfoldable pub following : ℕ → ℕ → List ℕ → Outcome
following from to s = on_bundle (λ b. result (followed_count (graph b) from to ∷ [])) s
