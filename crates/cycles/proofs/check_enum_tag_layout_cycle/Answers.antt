use Prim.Native.Nat.{ℕ}
use mathlib.Core.Bool.{Bool}
use mathlib.Core.List.{List}
use mathlib.Core.Path.{◌≡◌, refl, sym, ap, ◌∙◌}
use Rattle.meaning.specs.Lists.{holds}
use Rattle.meaning.specs.Lookup.{find_type}
use Rattle.meaning.specs.Sizes.{named_size_depends}
use Rattle.bundle.specs.Definitions.{bundle_of}
use Rattle.chain.proofs.Called.{answer_none, answer_stands}
use Rattle.search.proofs.Lists.{list_room, list_back}
use Rattle.search.proofs.Reading.{lent_kept}
use Rattle.search.proofs.Wanted.{wanted_is, wanted_on}
use Rattle.containers.proofs.Held.{shown_yes, shown_no}
use Rattle.checks.proofs.ChainChecks.{graph_of, fine, type_part_lem, enum_same, enum_size, enum_none, enum_some}
use Rattle.cycles.specs.Shared.{bytes_of}
use Rattle.cycles.specs.declared.shared.Checks.{Checks}
use Rattle.cycles.proofs.Sharing.{unchanged}
use Rattle.cycles.proofs.check_enum_tag_layout_cycle.Goals as goal

-- whether the size of the first definition of n depends on field references
abbrev sized : List ℕ → ℕ → Bool
sized s n = holds (named_size_depends (bundle_of s)) (find_type (bundle_of s) n)

-- the answers are of the same bundle
size_is_same : (c : Checks) (n : ℕ) {b : Bool} → b ≡ sized c.answers.definitions.bytes.now n → b ≡ sized (bytes_of c) n
size_is_same c n e = e ∙ ap (λ s. sized s n) c.same

pub check_enum_forward_reference_in_same_struct-requires : goal.check_enum_forward_reference_in_same_struct-requires
check_enum_forward_reference_in_same_struct-requires c =
    let r = c.requires in
    let g = c.args.checks.now in
    record { noted = g.noted; held = (type_part_lem (graph_of g.opened.layout_of) _ _ c.parse_field_reference-target.ensures, (shown_yes _ _ _ c.container_of-held.ensures.0 c.in_default.not-Nowhere).1); fit = (r.fit.0, list_room c.args.checks.now.opened.layout.edges c.args.work.now r.lent.room) }

pub returns-in_default : goal.returns-in_default
returns-in_default c =
    let r = c.requires in
    let g = c.args.checks.now in
    let b = list_back c.args.checks.now.opened.layout.edges c.args.work.now r.lent.room c.check_enum_forward_reference_in_same_struct.new.list c.check_enum_forward_reference_in_same_struct.auto.list in
    (wanted_is (enum_same _ _ _ _ (type_part_lem (graph_of g.opened.layout_of) _ _ c.parse_field_reference-target.ensures) (shown_yes _ _ _ c.container_of-held.ensures.0 c.in_default.not-Nowhere).0 (rw b.0 c.check_enum_forward_reference_in_same_struct.ensures)), lent_kept g.prepared.index r.lent b.1, c.container_of-held.ensures.1, unchanged)

pub returns-then-not-size_depends : goal.returns-then-not-size_depends
returns-then-not-size_depends c =
    let r = c.requires in
    let g = c.args.checks.now in
    (wanted_is (fine _ _ _ (enum_size _ _ _ _ (type_part_lem (graph_of g.opened.layout_of) _ _ c.parse_field_reference-target.ensures) (shown_no _ _ _ (sym c.in-Nowhere.is ∙ c.container_of-held.ensures.0)) (sym c.if-not-size_depends.true ∙ size_is_same g c.args.asked.name c.size_depends.ensures.0))), r.lent, c.container_of-held.ensures.1, record { opened = refl; edges = refl; definitions = c.size_depends.ensures.1 })

pub returns-in_err-n : goal.returns-in_err-n
returns-in_err-n c =
    let r = c.requires in
    let g = c.args.checks.now in
    let f = c.find_layout_dependency_chain.ensures in
    rw c.from_residual.ensures (wanted_is (fine _ _ _ (enum_none _ _ _ _ (type_part_lem (graph_of g.opened.layout_of) _ _ c.parse_field_reference-target.ensures) (shown_no _ _ _ (sym c.in-Nowhere.is ∙ c.container_of-held.ensures.0)) (sym c.if-not-size_depends.false ∙ size_is_same g c.args.asked.name c.size_depends.ensures.0) (answer_none f.0.holds c.in_err-n.was))), f.1, c.container_of-held.ensures.1, record { opened = refl; edges = refl; definitions = c.size_depends.ensures.1 })

pub returns : goal.returns
returns c =
    let r = c.requires in
    let g = c.args.checks.now in
    let f = c.find_layout_dependency_chain.ensures in
    (wanted_on f.0 (λ l h. enum_some _ _ _ _ (type_part_lem (graph_of g.opened.layout_of) _ _ c.parse_field_reference-target.ensures) (shown_no _ _ _ (sym c.in-Nowhere.is ∙ c.container_of-held.ensures.0)) (sym c.if-not-size_depends.false ∙ size_is_same g c.args.asked.name c.size_depends.ensures.0) r.fit.0 (answer_stands h c.in_ok-n.was)), f.1, c.container_of-held.ensures.1, record { opened = refl; edges = refl; definitions = c.size_depends.ensures.1 })
