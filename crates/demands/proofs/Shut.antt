-- The idle versions are shut out, each by a small bundle.
use Prim.Native.Nat.{ℕ, ◌<◌}
use native.Mathlib.Omega.{arith}
use mathlib.Core.Bool.{false}
use mathlib.Core.Logic.{◌⊎◌, inl, inr}
use mathlib.Core.Path.{◌≡◌, refl, sym, ap, ◌∙◌}
use mathlib.Core.List.{List, [], ◌∷◌}
use lib.ListN.{length, get_or}
use Rattle.names.specs.Names.{name_count}
use Rattle.names.proofs.Swap.{exchange, swapping}
use Rattle.meaning.specs.Tree.{Bundle}
use Rattle.meaning.specs.Encoding.{number_items, expr_items, head_items, type_items, definition_items, bundle_items, bundle_bytes}
use Rattle.meaning.specs.Within.{BundleOk}
use Rattle.meaning.specs.Chain.{Reaches}
use Rattle.meaning.specs.Circle.{leads_to, settled, circles}
use Rattle.meaning.specs.Violations.{graph}
use Rattle.meaning.specs.Report.{report}
use Rattle.meaning.specs.Calls.{accepted, refused_with}
use Rattle.meaning.specs.Small.{edges, one, u8, sample_tree}
use Rattle.meaning.proofs.Examples.{jagged_report}
use Rattle.meaning.specs.Kinds.{lookup}
use Rattle.meaning.specs.Reader.{ok, refused, due, little, many}
use Rattle.meaning.specs.ReadBundle.{record_body, opening, read_definition, read_header, read_rest, read_records, read_bundle}
use Rattle.refusals.specs.Numbers.{Keeps}
use Rattle.refusals.proofs.Circles.{read_bundle_lem}
use Rattle.demands.specs.Demands.{Demand1, Nothing, FirstPath, ChainOf, AlikeBundles}
use Rattle.demands.specs.Idle.{Canonical, Idle}
use Rattle.demands.proofs.Kept.{accepted_kept}
use Rattle.demands.proofs.Canonical.{equal_results}

-- a bundle of a current name alone
abbrev bare : ℕ → Bundle
bare n = record { current = n; definitions = []; edges = [] }

kept : (b : Bundle) → BundleOk b → circles b ≡ false → Keeps (bundle_bytes b) b
kept b o c = accepted_kept (record { tree = b; within = o; no_circle = c; encoded = refl })

bare_kept : (n : ℕ) → n < name_count → Keeps (bundle_bytes (bare n)) (bare n)
unfolding bundle_bytes bundle_items number_items circles settled
bare_kept n h = kept (bare n) (record { definitions = (omega arith, tt); edges = (omega arith, tt); current = h; size = omega arith }) refl

one_kept : Keeps (bundle_bytes (one u8)) (one u8)
unfolding bundle_bytes bundle_items number_items definition_items type_items circles settled leads_to
one_kept =
    kept (one u8)
    (record { definitions = (omega arith, ((omega arith, (omega arith, omega arith), omega arith), tt)); edges = (omega arith, tt); current = omega arith; size = omega arith }) refl

sample_kept : Keeps (bundle_bytes sample_tree) sample_tree
unfolding bundle_bytes bundle_items number_items definition_items type_items head_items expr_items circles settled leads_to
sample_kept = kept sample_tree (record { definitions = (omega arith, ((omega arith, ((omega arith, omega arith), omega arith, ((omega arith, omega arith), omega arith), (omega arith, omega arith)), omega arith), tt)); edges = (omega arith, tt); current = omega arith; size = omega arith }) refl

turned : ((s : List ℕ) → (k : ℕ) × Demand1 Nothing s [] [] (refused_with k)) → ⊥
turned h =
    let d = h (bundle_bytes (bare 0)) in
    let g = d.1.every (bare 0) (bare_kept 0 (omega arith)) in
    let e = (g.2.full (omega (arith, ap length g.1))).answer in
    let z : ◌≡◌ {A = ℕ} 0 1 = cc in omega arith

-- a header that counts one definition, and the end
cut : read_bundle (0x60 ∷ 1 ∷ 0 ∷ 0 ∷ 0 ∷ 0 ∷ 0 ∷ []) ≡ refused 2
unfolding read_bundle read_records read_header opening record_body due little many read_definition read_rest lookup
cut = refl

short : (b : Bundle) → Keeps (0x60 ∷ 1 ∷ 0 ∷ 0 ∷ 0 ∷ 0 ∷ 0 ∷ []) b → ⊥
short b k = none b _ (sym cut ∙ read_bundle_lem _ b k.bundle)
  where
    none : (b : Bundle) (n : ℕ) → refused 2 ≡ ok b n → ⊥
    none b n e = let z : ◌≡◌ {A = ℕ} 0 1 = cc in omega arith

counted : (n : ℕ) → Demand1 Nothing (0x60 ∷ 1 ∷ 0 ∷ 0 ∷ 0 ∷ 0 ∷ 0 ∷ []) [] [] (accepted n) → ⊥
counted n d = let e = (d.other short).2.answer in let z : ◌≡◌ {A = ℕ} 0 1 = cc in omega arith

silent : ((from to : ℕ) (s : List ℕ) (b : Bundle) → Keeps s b → ChainOf from to b []) → ⊥
silent h = go (h 5 5 (bundle_bytes (bare 0)) (bare 0) (bare_kept 0 (omega arith)))
  where
    go : ((Reaches (graph (bare 0)) 5 5 → ⊥) × (◌≡◌ {A = List ℕ} [] [])) ⊎ FirstPath (bare 0) 5 5 [] → ⊥
    go (inl p) = p.0 Reaches.here
    go (inr p) = let e = ap length p.on in omega (arith, e)

alike : AlikeBundles (bare 1) (bare 2)
unfolding bundle_bytes bundle_items number_items
alike = record { by = exchange (swapping 1 2 (omega arith) (omega arith)); zero_stays = refl; turns = refl }

copied : Canonical bundle_bytes → ⊥
unfolding bundle_bytes bundle_items number_items
copied h =
    let e = (h (bundle_bytes (bare 1)) (bundle_bytes (bare 2)) (bare 1) (bare 2) (bare_kept 1 (omega arith)) (bare_kept 2 (omega arith))).1 alike in
    let z : ◌≡◌ {A = ℕ} 1 2 = ap (λ s. get_or s 5 0) e in omega (arith, z)

fixed : (xs : List ℕ) → Canonical (λ b. xs) → ⊥
unfolding bundle_bytes bundle_items number_items definition_items type_items
fixed xs h =
    let a = (h (bundle_bytes (bare 0)) (bundle_bytes (one u8)) (bare 0) (one u8) (bare_kept 0 (omega arith)) one_kept).0 refl in
    let z : ◌≡◌ {A = ℕ} 0 1 = ap (λ s. get_or s 1 0) a.turns in omega (arith, z)

pub idle : Idle
unfolding report
idle = record {
  all_turned_down = turned;
  count_unlike = counted;
  empty_report = λ h. let z : ◌≡◌ {A = ℕ} 0 1 = ap (λ s. get_or s 1 0) (h (bundle_bytes sample_tree) sample_tree sample_kept ∙ jagged_report) in omega (arith, z);
  no_chain = silent;
  copy = copied;
  one_for_all = fixed;
  renumbering = λ s t c d k l. equal_results k l _ _ refl refl;
}
