use native.Mathlib.Omega.{arith}
use mathlib.Core.Path.{refl}
use Rattle.refusal.proofs.NumberLaws.{handed_on}
use Rattle.records.proofs.LayoutLaws.{header_read, definitions_refused, rest_not, definitions_placed, layout_of}
use Rattle.acceptance.proofs.rest_at.Goals as goal

pub definitions_at-requires : goal.definitions_at-requires
definitions_at-requires c = let h = header_read _ _ c.requires.2 in (c.requires.0, h.definitions, omega (arith, c.requires.1), omega (arith, h.next, h.there))

pub returns-in_err-next : goal.returns-in_err-next
returns-in_err-next c = rw (handed_on _ c.from_residual.ensures.1) (definitions_refused _ _ c.requires.0 c.requires.2 _ c.in_err-next.ensures.step)

pub returns-in_err-edges_end : goal.returns-in_err-edges_end
returns-in_err-edges_end c = rw (handed_on _ c.from_residual-in_err-edges_end.ensures.1) (rest_not _ _ c.requires.0 c.requires.2 _ c.in_ok-next.ensures.step _ c.in_err-edges_end.ensures)

pub note_names-requires : goal.note_names-requires
note_names-requires c =
    let p = definitions_placed _ _ c.requires.0 c.requires.2 _ c.in_ok-next.ensures.step _ c.in_ok-edges_end.ensures _ c.in_ok-next.ensures.placed in
    (p.0, p.1, omega (arith, c.definitions_at.auto.places, c.requires.1))

pub u16_at-requires : goal.u16_at-requires
u16_at-requires c = (header_read _ _ c.requires.2).there

pub returns : goal.returns
returns c = layout_of _ _ c.requires.0 c.requires.2 _ c.in_ok-next.ensures.step _ c.in_ok-edges_end.ensures _ _ refl refl c.u16_at.ensures c.note_names.ensures
