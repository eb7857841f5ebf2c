-- `renumber::scan` meets its contract: `Scan` holds after each item.
use native.Mathlib.Omega.{arith}
use mathlib.Core.Path.{refl, sym, ◌∙◌}
use Rattle.renumber.proofs.ScanLaws.{scan_start, scan_length, scan_members, scan_byte, scan_there, scan_name, scan_end}
use Rattle.renumber.proofs.scan.Goals as goal

pub enter-requires : goal.enter-requires
enter-requires c = let m = c.empty.ensures in
    (m.0, omega (arith, m.1.size, c.requires.whole.1), omega arith)

pub loop-at-init : goal.loop-at-init
loop-at-init c = let p = c.requires in
    (refl, scan_start _ _ p.whole.0 p.s_len_bound.1 c.empty.ensures.0 c.enter.ensures)

pub put_name-next-requires : goal.put_name-next-requires
put_name-next-requires c = let l = c.loop-at.invariant in
    let p = c.requires in
    let there = scan_there l.1 (sym c.name_due-named.ensures ∙ c.if-named.true) in record { at_in_bounds = (there, omega (arith, scan_length l.1, p.s_len_bound.1)); members = (scan_members l.1, omega (arith, l.0, c.enter.ensures.only.size, c.empty.ensures.1.size, p.whole.1, l.1.few, there), omega (arith, p.s_len_bound.0, l.1.few, there)) }

pub loop-at-preserved-then-named : goal.loop-at-preserved-then-named
loop-at-preserved-then-named c = let l = c.loop-at.invariant in
    let put = c.put_name-next.ensures in
    (put.long ∙ l.0, scan_name l.1 (sym c.name_due-named.ensures ∙ c.if-named.true) _ _ c.behind_next-left.ensures put)

pub bounds-out-at : goal.bounds-out-at
bounds-out-at c = let l = c.loop-at.invariant.1 in
    omega (arith, scan_length l, l.room)

pub loop-at-preserved : goal.loop-at-preserved
loop-at-preserved c = let l = c.loop-at.invariant in
    (l.0, scan_byte l.1 (sym c.name_due-named.ensures ∙ c.if-named.false) c.loop-at-test.true _ c.behind_next-left.ensures)

pub shape_of-out : goal.shape_of-out
shape_of-out c = scan_length c.loop-at.invariant.1

pub shape_of-table : goal.shape_of-table
shape_of-table c = c.loop-at.invariant.0 ∙ c.enter.ensures.only.size ∙ c.empty.ensures.1.size

pub returns : goal.returns
returns c = scan_end c.loop-at.invariant.1 c.loop-at-test.false
