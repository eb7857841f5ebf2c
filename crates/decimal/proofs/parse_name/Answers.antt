use mathlib.Core.Bool.{true≢false}
use mathlib.Core.Path.{sym, ◌∙◌}
use Rattle.decimal.proofs.Reading.{no_text, starts_plus, parsed}
use Rattle.decimal.proofs.parse_name.Goals as goal

pub returns-in_default : goal.returns-in_default
returns-in_default c = no_text _ (c.in_default.ensures.cases.0)

pub returns : goal.returns
returns c = rw c.ok.ensures.value (parsed _ _ (rw c.in-Ok.ensures.cases.0 at c.parse.ensures.value.0) (λ e. true≢false (sym (starts_plus c.args.word.now e) ∙ sym c.starts_with.ensures.value ∙ c.if-starts_with.false)))
