-- `validators::validate_array_size_constraints` meets its contract.
use Prim.Native.Nat.{ℕ, ◌+◌, ◌-◌, ◌*◌, ◌≤◌}
use native.Mathlib.Omega.{arith}
use mathlib.Core.Option.{Option}
use mathlib.Core.List.{List, ◌++◌}
use mathlib.Core.Path.{◌≡◌, sym, subst, ◌∙◌}
use lib.ListN.{length, take, drop}
use Rattle.meaning.specs.Violations.{Violation, check_array_element_type_size}
use Rattle.bundle.specs.Definitions.{bundle_of, type_at}
use Rattle.cycles.specs.declared.shared.Checks.{Checks}
use Rattle.cycles.specs.Shared.{bytes_of}
use Rattle.chain.proofs.Parts.{whole_part}
use Rattle.search.proofs.Lists.{list_room, list_back}
use Rattle.std.specs.Prelude as prelude
use Rattle.checks.specs.declared.Finding.{Finding}
use Rattle.checks.specs.Checks.{Checked}
use Rattle.validate.proofs.Validators.{references_inside, size_reads, element_reads, array_violations, front_room, rest_room, rest_wrote}
use Rattle.validators.proofs.validate_array_size_constraints.Goals as goal

-- the answers are of the same bundle
of_bundle : (c : Checks) (n jagged at : ℕ) (list : List ℕ) (r : prelude.Option Finding)
    → Checked c.answers.definitions.bytes.now n list r (λ i. check_array_element_type_size (bundle_of c.answers.definitions.bytes.now) i n jagged (type_at 23 c.answers.definitions.bytes.now at))
    → Checked (bytes_of c) n list r (λ i. check_array_element_type_size (bundle_of (bytes_of c)) i n jagged (type_at 23 (bytes_of c) at))
of_bundle c n jagged at list r = subst (λ s. Checked s n list r (λ i. check_array_element_type_size (bundle_of s) i n jagged (type_at 23 s at))) c.same

-- the workspace, where its list came back as ys
abbrev after : ℕ → List ℕ → List ℕ → List ℕ
after count work ys = take (6 * count + 3) work ++ (ys ++ drop (length work - (6 * count + 3)) (drop (6 * count + 3) work))

-- what was checked stands in the list as it is lent again
again : {s : List ℕ} {n : ℕ} {r : prelude.Option Finding} {o : ℕ → Option Violation} (count : ℕ) (work : List ℕ) → 7 * count + 7 ≤ length work → (ys : List ℕ)
    → length ys ≡ length (take (length work - (6 * count + 3)) (drop (6 * count + 3) work)) → Checked s n ys r o
    → Checked s n (take (length (after count work ys) - (6 * count + 3)) (drop (6 * count + 3) (after count work ys))) r o
again {s} {n} {r} {o} count work room ys e c =
    subst (λ (xs : List ℕ). Checked s n xs r o) (sym (whole_part (6 * count + 3) (after count work ys) ∙ (list_back count work room ys e).0)) c

pub references_of-references-requires : goal.references_of-references-requires
references_of-references-requires c = size_reads c.requires.array_at.0

pub check_array_element_type_size-check-requires : goal.check_array_element_type_size-check-requires
check_array_element_type_size-check-requires c = (rw c.args.checks.now.same (element_reads c.args.subject c.requires.array_at.0 c.references_of-references.ensures), list_room c.args.checks.now.opened.layout.edges c.args.work.now c.requires.room)

pub put_check-requires : goal.put_check-requires
put_check-requires c = let p = again c.args.checks.now.opened.layout.edges c.args.work.now c.requires.room c.check_array_element_type_size-check.new.list c.check_array_element_type_size-check.auto.list (of_bundle c.args.checks.now _ _ _ c.check_array_element_type_size-check.new.list _ c.check_array_element_type_size-check.ensures.0) in record { i_lt_definition_limit = (c.requires.among.number, p.fits); room = front_room _ _ _ (array_violations c.args.subject c.requires.array_at.0 c.references_of-references.ensures) (p.means _) c.requires.array_at.1 }

pub validate_references-requires : goal.validate_references-requires
validate_references-requires c = let p = again c.args.checks.now.opened.layout.edges c.args.work.now c.requires.room c.check_array_element_type_size-check.new.list c.check_array_element_type_size-check.auto.list (of_bundle c.args.checks.now _ _ _ c.check_array_element_type_size-check.new.list _ c.check_array_element_type_size-check.ensures.0) in
    let g = references_inside c.references_of-references.ensures in record { room = omega (arith, (list_back c.args.checks.now.opened.layout.edges c.args.work.now c.requires.room c.check_array_element_type_size-check.new.list c.check_array_element_type_size-check.auto.list).1.size, c.requires.room); among = c.requires.among; end_in_bounds = (g.0, g.1, rest_room _ _ _ (array_violations c.args.subject c.requires.array_at.0 c.references_of-references.ensures) (p.means _) c.requires.array_at.1 c.put_check.ensures) }

pub shape_of-work : goal.shape_of-work
shape_of-work c = c.validate_references.auto.work ∙ (list_back c.args.checks.now.opened.layout.edges c.args.work.now c.requires.room c.check_array_element_type_size-check.new.list c.check_array_element_type_size-check.auto.list).1.size

pub returns : goal.returns
returns c = let p = again c.args.checks.now.opened.layout.edges c.args.work.now c.requires.room c.check_array_element_type_size-check.new.list c.check_array_element_type_size-check.auto.list (of_bundle c.args.checks.now _ _ _ c.check_array_element_type_size-check.new.list _ c.check_array_element_type_size-check.ensures.0) in
    (rest_wrote _ _ _ (array_violations c.args.subject c.requires.array_at.0 c.references_of-references.ensures) (p.means _) c.requires.array_at.1 c.put_check.ensures c.validate_references.ensures.0, record { opened = c.validate_references.ensures.1.opened; edges = c.validate_references.ensures.1.edges; definitions = c.validate_references.ensures.1.definitions ∙ c.check_array_element_type_size-check.ensures.1 })
