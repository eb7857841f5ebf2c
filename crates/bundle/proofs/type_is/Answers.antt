-- `bundle::type_is` meets its contract.
use denote.Enum.Bare.{same_true, true_same}
use mathlib.Core.Bool.{false≢true}
use mathlib.Core.Path.{sym, ap, ◌∙◌}
use Rattle.std.proofs.Common.{rules}
use Rattle.meaning.specs.Kinds.{OfType}
use Rattle.bundle.specs.View.{type_form_meant}
use Rattle.bundle.specs.contracts.TypeForm.{the_type}
use Rattle.bundle.proofs.Forms.{not_type, same_type}
use Rattle.bundle.proofs.Parts.{type_meant}
use Rattle.bundle.proofs.type_is.Goals as goal

pub returns-in_default : goal.returns-in_default
returns-in_default c = (λ e. absurd (false≢true e), λ p. absurd (not_type _ c.in_default.not-OfType _ (c.form_of.ensures.form ∙ p)))

pub returns : goal.returns
returns c =
    let own = sym (type_meant c.in-OfType.is) ∙ c.form_of.ensures.form in (
      λ e. sym own ∙ ap (λ t. OfType (type_form_meant t)) (same_true the_type (search rules) _ _ (sym c.eq.ensures ∙ e)),
      λ p. c.eq.ensures ∙ true_same the_type _ _ (same_type _ _ (own ∙ p)),
    )
