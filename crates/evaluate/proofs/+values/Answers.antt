use native.Mathlib.Omega.{arith}
use mathlib.Core.Path.{refl, sym, ap, ◌∙◌}
use Rattle.values.specs.Meant.{value_meant}
use Rattle.bundle.specs.declared.Form.TheVariants.{OfExpr}
use Rattle.bundle.proofs.Forms.{literal_meant, binary_meant}
use Rattle.bundle.proofs.Trees.{expr_deep, expr_there, tree_other, left_reads}
use Rattle.evaluate.proofs.ValueLaws.{not_expr, expr_opened, refused, literal_there, literal_most, literal_valued, literal_end, other_refused, kind_refused, left_refused, right_refused, right_there, both_valued, both_end, returned}
use Rattle.evaluate.proofs.+values.Goals as goal

pub binary_at-bounds-s-at : goal.binary_at-bounds-s-at
binary_at-bounds-s-at t c = expr_there _ _ _ c.requires.0

pub binary_at-returns-in_default : goal.binary_at-returns-in_default
binary_at-returns-in_default t c = kind_refused (expr_opened _ _ _ _ c.requires.0 (sym c.requires.1)) c.requires.0 refl c.in_default.ensures

pub binary_at-overflow_add-at : goal.binary_at-overflow_add-at
binary_at-overflow_add-at t c = omega (arith, expr_there _ _ _ c.requires.0)

pub binary_at-overflow_sub-depth : goal.binary_at-overflow_sub-depth
binary_at-overflow_sub-depth t c = omega (arith, expr_deep _ _ _ c.requires.0)

pub binary_at-value_at-requires : goal.binary_at-value_at-requires
binary_at-value_at-requires t c = (omega (arith, c.decreases, expr_deep _ _ _ c.requires.0), left_reads (expr_opened _ _ _ _ c.requires.0 (sym c.requires.1)) c.requires.0 refl)

pub binary_at-returns-in_err-l : goal.binary_at-returns-in_err-l
binary_at-returns-in_err-l t c = refused _ _ _ _ _ c.from_residual.ensures.1 (left_refused (expr_opened _ _ _ _ c.requires.0 (sym c.requires.1)) c.requires.0 refl _ c.in-Some.ensures _ c.in_err-l.ensures)

pub binary_at-overflow_sub-depth-2 : goal.binary_at-overflow_sub-depth-2
binary_at-overflow_sub-depth-2 t c = omega (arith, expr_deep _ _ _ c.requires.0)

pub binary_at-value_at-requires-2 : goal.binary_at-value_at-requires-2
binary_at-value_at-requires-2 t c = (omega (arith, c.decreases, expr_deep _ _ _ c.requires.0), right_there (expr_opened _ _ _ _ c.requires.0 (sym c.requires.1)) c.requires.0 refl _ _ c.in_ok-l.ensures)

pub binary_at-returns-in_err-r : goal.binary_at-returns-in_err-r
binary_at-returns-in_err-r t c = refused _ _ _ _ _ c.from_residual-in_err-r.ensures.1 (right_refused (expr_opened _ _ _ _ c.requires.0 (sym c.requires.1)) c.requires.0 refl _ c.in-Some.ensures _ _ _ c.in_ok-l.ensures c.in_err-r.ensures)

pub binary_at-returns-in_err-value : goal.binary_at-returns-in_err-value
unfolding value_meant
binary_at-returns-in_err-value t c = refused _ _ _ _ _ c.from_residual-in_err-value.ensures.1 (c.in_err-value.ensures ∙ both_valued (expr_opened _ _ _ _ c.requires.0 (sym c.requires.1)) c.requires.0 refl _ _ _ _ (record { sfits = omega arith }) (record { sfits = omega arith }) c.in_ok-l.ensures c.in_ok-r.ensures _ c.in-Some.ensures)

pub binary_at-returns : goal.binary_at-returns
binary_at-returns t c = (returned _ _ (record { sfits = omega arith }) (c.in_ok-value.ensures ∙ both_valued (expr_opened _ _ _ _ c.requires.0 (sym c.requires.1)) c.requires.0 refl _ _ _ _ (record { sfits = omega arith }) (record { sfits = omega arith }) c.in_ok-l.ensures c.in_ok-r.ensures _ c.in-Some.ensures), both_end (expr_opened _ _ _ _ c.requires.0 (sym c.requires.1)) c.requires.0 refl _ _ _ _ (record { sfits = omega arith }) (record { sfits = omega arith }) c.in_ok-l.ensures c.in_ok-r.ensures)

pub value_at-bounds-s-at : goal.value_at-bounds-s-at
value_at-bounds-s-at t c = expr_there _ _ _ c.requires

pub value_at-overflow_add-at : goal.value_at-overflow_add-at
value_at-overflow_add-at t c = omega (arith, literal_there (expr_opened _ _ _ _ c.requires c.form_of.ensures.form) c.requires _ (literal_meant (c.in-OfExpr.is ∙ ap OfExpr c.in-Literal.is)))

pub value_at-number_at-requires : goal.value_at-number_at-requires
value_at-number_at-requires t c = (rw c.from-width.ensures (literal_there (expr_opened _ _ _ _ c.requires c.form_of.ensures.form) c.requires _ (literal_meant (c.in-OfExpr.is ∙ ap OfExpr c.in-Literal.is))), rw c.from-width.ensures (literal_most (expr_opened _ _ _ _ c.requires c.form_of.ensures.form) c.requires _ (literal_meant (c.in-OfExpr.is ∙ ap OfExpr c.in-Literal.is)) (omega (arith, c.type_inv.s c.args.at))))

pub value_at-returns-in_err-value-in-Literal : goal.value_at-returns-in_err-value-in-Literal
unfolding value_meant
value_at-returns-in_err-value-in-Literal t c = refused _ _ _ _ _ c.from_residual.ensures.1 (literal_valued (expr_opened _ _ _ _ c.requires c.form_of.ensures.form) c.requires _ (literal_meant (c.in-OfExpr.is ∙ ap OfExpr c.in-Literal.is)) _ (c.number_at.ensures ∙ rw c.from-width.ensures) _ c.in_err-value-in-Literal.ensures)

pub value_at-overflow_add-result : goal.value_at-overflow_add-result
value_at-overflow_add-result t c = omega (arith, literal_there (expr_opened _ _ _ _ c.requires c.form_of.ensures.form) c.requires _ (literal_meant (c.in-OfExpr.is ∙ ap OfExpr c.in-Literal.is)))

pub value_at-overflow_add-result-in-Literal : goal.value_at-overflow_add-result-in-Literal
value_at-overflow_add-result-in-Literal t c = omega (arith, c.from-width.ensures, literal_there (expr_opened _ _ _ _ c.requires c.form_of.ensures.form) c.requires _ (literal_meant (c.in-OfExpr.is ∙ ap OfExpr c.in-Literal.is)))

pub value_at-binary_at-requires : goal.value_at-binary_at-requires
value_at-binary_at-requires t c = (omega (arith, c.decreases), (c.requires, sym c.form_of.ensures.form ∙ binary_meant (c.in-OfExpr.is ∙ ap OfExpr c.in-Binary.is)))

pub value_at-returns-in_ok-value-in-Literal : goal.value_at-returns-in_ok-value-in-Literal
value_at-returns-in_ok-value-in-Literal t c = (returned _ _ (record { sfits = omega arith }) (literal_valued (expr_opened _ _ _ _ c.requires c.form_of.ensures.form) c.requires _ (literal_meant (c.in-OfExpr.is ∙ ap OfExpr c.in-Literal.is)) _ (c.number_at.ensures ∙ rw c.from-width.ensures) _ c.in_ok-value-in-Literal.ensures), rw c.from-width.ensures (literal_end (expr_opened _ _ _ _ c.requires c.form_of.ensures.form) c.requires _ (literal_meant (c.in-OfExpr.is ∙ ap OfExpr c.in-Literal.is))))

pub value_at-returns-in_default-form : goal.value_at-returns-in_default-form
value_at-returns-in_default-form t c = other_refused c.requires _ _ c.in-OfExpr.is (expr_opened _ _ _ _ c.requires c.form_of.ensures.form) c.in_default-form.not-Literal c.in_default-form.not-Binary

pub value_at-returns-in_default : goal.value_at-returns-in_default
value_at-returns-in_default t c = absurd (tree_other (expr_opened _ _ _ _ c.requires c.form_of.ensures.form) c.requires (not_expr _ c.in_default.not-OfExpr))
