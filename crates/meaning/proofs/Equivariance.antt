-- The checks commute with every exchange of names.
--     occurs                the names in a violation occur in the bundle
--     violations_exchange   the violations of the exchanged bundle are the exchanged violations
--     circles_exchange      an exchange keeps circles
--     report_exchange       the report of the exchanged bundle is the report with its names exchanged
--     violations_renumbered, circles_renumbered, report_renumbered    the same of the renumbering
use Prim.Native.Nat.{ℕ, zero, suc, ◌+◌, ◌-◌, ◌*◌, ◌≤◌, ◌<◌}
use mathlib.Core.Path.{◌≡◌, refl, sym, ap, ap₂, ◌∙◌}
use mathlib.Core.Logic.{◌⊎◌, inl, inr}
use mathlib.Core.List.Memᴰ
use mathlib.Core.List.{List, [], ◌∷◌, ◌++◌, map, Memᴰ, head-eq_of_cons-eq, tail-eq_of_cons-eq}
use mathlib.Core.Bool.{Bool, true, false, cond}
use native.Mathlib.Omega.{arith}
use lib.Dec.{ltb}
use lib.ListN.{length, length-map, replicate}
use borrow.Author.Tests.{ltb-true, ltb-false, lt-ltb}
use Rattle.names.specs.Names.{numbering, name_count, Names, Exchange}
use Rattle.names.specs.Documents.{byte, name, map_names}
use Rattle.names.proofs.Exchanged.{name_of, map_same}
use Rattle.names.proofs.Swap.{to_injective, swap, swap_left, swap_other, swap_swap}
use Rattle.names.proofs.Items.{map_names_append}
use Rattle.names.proofs.Laws.{Extension, extension}
use Rattle.meaning.proofs.Pigeonhole.{Absent}
use Rattle.meaning.specs.Tree.{Bundle}
use Rattle.meaning.specs.Lists.{flat_map}
use Rattle.meaning.specs.Circle.{circles}
use Rattle.meaning.specs.Violations.{Violation, violations}
use Rattle.meaning.specs.Report.{two_bytes, path_items, chain_items, violation_items, report_items}
use Rattle.meaning.specs.Renumbering.{bundle_names, map_bundle, map_violation, violation_names}
use Rattle.meaning.proofs.Lists.{find, map_append, flat_map_map}
use Rattle.meaning.proofs.Renaming.{bundle_same, map_bundle_id}
use Rattle.meaning.proofs.Injective.{Injective, circles_injective, violations_injective}

-- 1. The names in a violation occur in the bundle: a name that did not could be swapped with a new one, and nothing would change.

-- the names that stand in violations
abbrev all_names : List Violation → List ℕ
all_names vs = flat_map violation_names vs

violation_names_map : (f : ℕ → ℕ) (v : Violation) → violation_names (map_violation f v) ≡ map f (violation_names v)
violation_names_map f v = ap (f v.name ∷◌) (sym (map_append f v.path v.chain))

all_names_map : (f : ℕ → ℕ) (vs : List Violation) → all_names (map (map_violation f) vs) ≡ map f (all_names vs)
all_names_map f vs = flat_map_map (map_violation f) f violation_names violation_names (violation_names_map f) vs

total : List ℕ → ℕ
total [] = 0
total (x ∷ xs) = x + total xs

at_most_total : {x : ℕ} {xs : List ℕ} → Memᴰ x xs → x ≤ total xs
unfolding total
at_most_total (Memᴰ.head e) = omega arith
at_most_total (Memᴰ.tail m) = omega (arith, at_most_total m)

absent_not : (n : ℕ) {x : ℕ} {xs : List ℕ} → Absent n xs → Memᴰ x xs → x ≡ n → ⊥
absent_not n a (Memᴰ.head e) q = a.0 (sym q ∙ e)
absent_not n a (Memᴰ.tail m) q = absent_not n a.1 m q

-- what a map leaves as it is, it leaves number by number
fixed_at : (f : ℕ → ℕ) (xs : List ℕ) → map f xs ≡ xs → (x : ℕ) → Memᴰ x xs → f x ≡ x
fixed_at f [] e x x4 = elim x4 [ ]
fixed_at f (y ∷ ys) e x (Memᴰ.head q) = rw q (head-eq_of_cons-eq e)
fixed_at f (y ∷ ys) e x (Memᴰ.tail m) = fixed_at f ys (tail-eq_of_cons-eq e) x m

swap_injective : (a c : ℕ) → Injective (swap a c)
swap_injective a c m n e = sym (swap_swap a c m) ∙ ap (swap a c) e ∙ swap_swap a c n

-- where f is injective and leaves the bundle's names, it leaves the violations' names
violations_fixed : (b : Bundle) (f : ℕ → ℕ) → Injective f → ((n : ℕ) → Memᴰ n (bundle_names b) → f n ≡ n)
    → map f (all_names (violations b)) ≡ all_names (violations b)
violations_fixed b f inj leaves =
    sym (all_names_map f (violations b))
    ∙ ap all_names (sym (violations_injective f inj b) ∙ ap violations (bundle_same f (λ n. n) b leaves ∙ map_bundle_id b))

pub occurs : (b : Bundle) (n : ℕ) → Memᴰ n (all_names (violations b)) → Memᴰ n (bundle_names b)
occurs b n m = go (find n (bundle_names b))
  where
    new : ℕ
    new = suc (n + total (bundle_names b))

    leaves : Absent n (bundle_names b) → (x : ℕ) → Memᴰ x (bundle_names b) → swap n new x ≡ x
    leaves a x h = swap_other n new x (absent_not n a h) (λ e. omega (arith, at_most_total h))

    go : Memᴰ n (bundle_names b) ⊎ Absent n (bundle_names b) → Memᴰ n (bundle_names b)
    go (inl h) = h
    go (inr a) =
        let same = fixed_at (swap n new) (all_names (violations b)) (violations_fixed b (swap n new) (swap_injective n new) (leaves a)) n m in
        absurd (omega (arith, sym (swap_left n new) ∙ same))

-- 2. An exchange, as a map of all numbers.

abbrev pub extend : Exchange → ℕ → ℕ
extend f n = cond (ltb n name_count) (f.to n) n

pub extend_name : (f : Exchange) (n : ℕ) → n < name_count → extend f n ≡ f.to n
extend_name f n h = rw (lt-ltb n name_count h)

pub extend_injective : (f : Exchange) → Injective (extend f)
extend_injective f m n e = go (ltb m name_count) refl (ltb n name_count) refl e
  where
    go : (s : Bool) → ltb m name_count ≡ s → (t : Bool) → ltb n name_count ≡ t → cond s (f.to m) m ≡ cond t (f.to n) n → m ≡ n
    go true p true q e = f.injective m n (ltb-true _ _ p) (ltb-true _ _ q) e
    go true p false q e = absurd (omega (arith, f.below m (ltb-true m name_count p), ltb-false n name_count q, e))
    go false p true q e = absurd (omega (arith, f.below n (ltb-true n name_count q), ltb-false m name_count p, e))
    go false p false q e = e

-- 3. The laws.

violation_same : (f g : ℕ → ℕ) (v : Violation) → ((n : ℕ) → Memᴰ n (violation_names v) → f n ≡ g n) → map_violation f v ≡ map_violation g v
violation_same f g v h = λ i. record {
  definition = v.definition;
  type = v.type;
  name = h v.name (Memᴰ.head refl) i;
  path = map_same v.path (λ n m. h n (Memᴰ.tail (Memᴰ.append_left v.chain m))) i;
  chain = map_same v.chain (λ n m. h n (Memᴰ.tail (Memᴰ.append_right v.path m))) i;
}

violations_same : (f g : ℕ → ℕ) (vs : List Violation) → ((n : ℕ) → Memᴰ n (all_names vs) → f n ≡ g n) → map (map_violation f) vs ≡ map (map_violation g) vs
violations_same f g [] h = refl
violations_same f g (v ∷ vs) h =
    ap₂ ◌∷◌ (violation_same f g v (λ n m. h n (Memᴰ.append_left (all_names vs) m)))
    (violations_same f g vs (λ n m. h n (Memᴰ.append_right (violation_names v) m)))

-- a map g that agrees, on the names of the bundle, with a map that sends no two numbers to the same
module _ (g f : ℕ → ℕ) (inj : Injective f) (b : Bundle) (agree : (n : ℕ) → Memᴰ n (bundle_names b) → g n ≡ f n) where
  violations_agreeing : violations (map_bundle g b) ≡ map (map_violation g) (violations b)
  violations_agreeing =
      ap violations (bundle_same g f b agree)
      ∙ violations_injective f inj b
      ∙ violations_same f g (violations b) (λ n m. sym (agree n (occurs b n m)))

  circles_agreeing : circles (map_bundle g b) ≡ circles b
  circles_agreeing = ap circles (bundle_same g f b agree) ∙ circles_injective f inj b

module _ (f : Exchange) (b : Bundle) (ok : Names (bundle_names b)) where
  agrees : (n : ℕ) → Memᴰ n (bundle_names b) → f.to n ≡ extend f n
  agrees n m = sym (extend_name f n (name_of ok m))

  pub violations_exchange : violations (map_bundle f.to b) ≡ map (map_violation f.to) (violations b)
  violations_exchange = violations_agreeing f.to (extend f) (extend_injective f) b agrees

  pub circles_exchange : circles (map_bundle f.to b) ≡ circles b
  circles_exchange = circles_agreeing f.to (extend f) (extend_injective f) b agrees

  -- what every map leaves that sends no two numbers to the same, an exchange leaves too
  pub left_by_exchange : {A : Type 0} (g : Bundle → A) → ((h : ℕ → ℕ) → Injective h → (c : Bundle) → g (map_bundle h c) ≡ g c) → g (map_bundle f.to b) ≡ g b
  left_by_exchange g left = ap g (bundle_same f.to (extend f) b agrees) ∙ left (extend f) (extend_injective f) b

-- the renumbering, which is part of an exchange
module _ (b : Bundle) (ok : Names (bundle_names b)) where
  abbrev pub renumbering : ℕ → ℕ
  renumbering = numbering (bundle_names b)

  σ : Extension (bundle_names b)
  σ = extension (bundle_names b) ok

  pub violations_renumbered : violations (map_bundle renumbering b) ≡ map (map_violation renumbering) (violations b)
  violations_renumbered =
      violations_agreeing renumbering σ.by.to (λ m n e. to_injective σ.by e) b (λ n m. sym (σ.agrees n m))

  pub circles_renumbered : circles (map_bundle renumbering b) ≡ circles b
  circles_renumbered =
      circles_agreeing renumbering σ.by.to (λ m n e. to_injective σ.by e) b (λ n m. sym (σ.agrees n m))

-- 4. The report.

module _ (f : ℕ → ℕ) where
  map_names_names : (ns : List ℕ) → map_names f (map name ns) ≡ map name (map f ns)
  map_names_names [] = refl
  map_names_names (n ∷ ns) = ap (name (f n) ∷◌) (map_names_names ns)

  map_names_zeros : (k : ℕ) → map_names f (replicate k (byte 0)) ≡ replicate k (byte 0)
  map_names_zeros zero = refl
  map_names_zeros (suc k) = ap (byte 0 ∷◌) (map_names_zeros k)

  path_map : (path : List ℕ) → path_items (map f path) ≡ map_names f (path_items path)
  path_map path =
      ap (λ k. byte k ∷ map name (map f path) ++ replicate (2 * (4 - k)) (byte 0)) (length-map path f)
      ∙ ap (byte (length path) ∷◌) (ap₂ ◌++◌ (sym (map_names_names path)) (sym (map_names_zeros (2 * (4 - length path))))
      ∙ sym (map_names_append f (map name path) (replicate (2 * (4 - length path)) (byte 0))))

  links_map : (chain : List ℕ) → flat_map (λ n. byte 0x7F ∷ name n ∷ []) (map f chain) ≡ map_names f (flat_map (λ n. byte 0x7F ∷ name n ∷ []) chain)
  links_map [] = refl
  links_map (n ∷ ns) = ap (λ xs. byte 0x7F ∷ name (f n) ∷ xs) (links_map ns)

  chain_map : (chain : List ℕ) → chain_items (map f chain) ≡ map_names f (chain_items chain)
  chain_map chain = ap₂ (λ k xs. two_bytes k ++ xs) (length-map chain f) (links_map chain)

  violation_map : (v : Violation) → violation_items (map_violation f v) ≡ map_names f (violation_items v)
  violation_map v =
      ap (λ xs. byte (0x70 + v.type) ∷ two_bytes v.definition ++ name (f v.name) ∷ xs)
      (ap₂ ◌++◌ (path_map v.path) (chain_map v.chain) ∙ sym (map_names_append f (path_items v.path) (chain_items v.chain)))

  reports_map : (vs : List Violation) → flat_map violation_items (map (map_violation f) vs) ≡ map_names f (flat_map violation_items vs)
  reports_map [] = refl
  reports_map (v ∷ vs) = ap₂ ◌++◌ (violation_map v) (reports_map vs) ∙ sym (map_names_append f (violation_items v) (flat_map violation_items vs))

  -- a report of renamed violations is the report with its names put through f
  pub report_items_map : (vs : List Violation) → report_items (map (map_violation f) vs) ≡ map_names f (report_items vs)
  report_items_map vs = ap₂ (λ k xs. byte 0x70 ∷ two_bytes k ++ xs) (length-map vs (map_violation f)) (reports_map vs)

pub report_renumbered : (b : Bundle) → Names (bundle_names b)
    → report_items (violations (map_bundle (numbering (bundle_names b)) b)) ≡ map_names (numbering (bundle_names b)) (report_items (violations b))
report_renumbered b ok = ap report_items (violations_renumbered b ok) ∙ report_items_map (numbering (bundle_names b)) (violations b)

-- the report of the exchanged bundle is the report with its names exchanged
pub report_exchange : (f : Exchange) (b : Bundle) → Names (bundle_names b)
    → report_items (violations (map_bundle f.to b)) ≡ map_names f.to (report_items (violations b))
report_exchange f b ok = ap report_items (violations_exchange f b ok) ∙ report_items_map f.to (violations b)
