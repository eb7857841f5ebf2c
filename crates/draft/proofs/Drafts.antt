-- Records that stand in a draft, copied to their places in the report.
use Prim.Native.Nat.{ℕ, ◌+◌, ◌-◌, ◌≤◌}
use native.Mathlib.Omega.{arith}
use mathlib.Core.Path.{◌≡◌, ap, subst, ◌∙◌}
use mathlib.Core.List.{List, ◌++◌, append_assoc}
use lib.ListN.{length, take, drop}
use lib.Seq.{sets-eq, length-take-le, take_at, drop_at}
use Rattle.violation.specs.Records.{Puts}
use Rattle.meaning.specs.Violations.{Violation}
use Rattle.validate.specs.declared.Report.{Report}
use Rattle.validate.specs.Validating.{record_bytes, Wrote}

-- what is written of a report that starts behind its head
pub records : {vs : List Violation} {p q : Report} → p.at ≡ 3 → Wrote vs p q → Puts (record_bytes vs) p.out.now 3 q.out.now q.at
records {vs} {p} {q} e w = subst (λ k. Puts (record_bytes vs) p.out.now k q.out.now q.at) e w.puts

-- what fits into a draft, copied from there
pub drafted : {xs ys draft draft' out out' : List ℕ} {m r : ℕ} → Puts xs draft 3 draft' m → m ≤ length draft
    → Puts ys out 3 out' r → ys ≡ take (m - 3) (drop 3 draft') → Puts xs out 3 out' m
drafted {xs} {ys} {draft} {draft'} {out} {out'} {m} {r} w fits copied part = subst (λ k. Puts xs out 3 out' k) behind (subst (λ zs. Puts zs out 3 out' r) inside copied)
  where
    whole : draft' ≡ take 3 draft ++ (xs ++ drop (3 + length xs) draft)
    whole = w.written ∙ sets-eq xs draft 3 (omega (arith, w.behind)) ∙ append_assoc (take 3 draft) xs (drop (3 + length xs) draft)

    inside : ys ≡ xs
    inside =
        part
        ∙ ap (λ d. take (m - 3) (drop 3 d)) whole
        ∙ ap (take (m - 3)) (drop_at (take 3 draft) (xs ++ drop (3 + length xs) draft) 3 (length-take-le 3 draft (omega (arith, w.behind))))
        ∙ take_at xs (drop (3 + length xs) draft) (m - 3) (omega (arith, w.behind))

    behind : r ≡ m
    behind = omega (arith, copied.behind, ap length inside, w.behind)
