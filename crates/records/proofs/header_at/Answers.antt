-- `records::header_at` meets its contract: its tests are those of `read_header`.
use mathlib.Core.Path.{sym, ◌∙◌}
use Rattle.refusal.proofs.NumberLaws.{handed_on}
use Rattle.records.proofs.RecordLaws.{header_definitions, header_edges, header_ends, header_refused}
use Rattle.records.proofs.header_at.Goals as goal

pub returns-then-definitions-gt-DEFINITION_LIMIT : goal.returns-then-definitions-gt-DEFINITION_LIMIT
returns-then-definitions-gt-DEFINITION_LIMIT c = sym (header_definitions _ _ _ _ _ (sym c.in_ok-body.was ∙ c.opening_at.ensures) c.u16_at-definitions.ensures c.u16_at-edges.ensures c.if-definitions-gt-DEFINITION_LIMIT.true)

pub returns-then-edges-gt-EDGE_LIMIT : goal.returns-then-edges-gt-EDGE_LIMIT
returns-then-edges-gt-EDGE_LIMIT c = sym (header_edges _ _ _ _ _ (sym c.in_ok-body.was ∙ c.opening_at.ensures) c.u16_at-definitions.ensures c.u16_at-edges.ensures c.if-definitions-gt-DEFINITION_LIMIT.false c.if-edges-gt-EDGE_LIMIT.true)

pub returns : goal.returns
returns c = rw (c.from.ensures, c.from-2.ensures) (sym (header_ends _ _ _ _ _ (sym c.in_ok-body.was ∙ c.opening_at.ensures) c.u16_at-definitions.ensures c.u16_at-edges.ensures c.if-definitions-gt-DEFINITION_LIMIT.false c.if-edges-gt-EDGE_LIMIT.false))

pub returns-in_err-body : goal.returns-in_err-body
returns-in_err-body c = handed_on _ c.from_residual.ensures.1 ∙ sym (header_refused _ _ _ (sym c.in_err-body.was ∙ c.opening_at.ensures))
