-- `acceptance::note_names` meets its contract. The invariant: the names of the definitions passed are noted.
use native.Mathlib.Omega.{arith}
use mathlib.Core.Path.{refl, ◌∙◌}
use lib.ListN.{length-set}
use Rattle.bundle.proofs.NameLaws.{back_length, noting_start, noting_there, noting_behind, noting_few, noting_few_all, noting_part, noting_room, noting_length, noting_new, noting_old, noting_end}
use Rattle.acceptance.proofs.note_names.Goals as goal
use Rattle.acceptance.proofs.note_names.Goals.{then-r-names, else-r-names}

pub loop-i-init : goal.loop-i-init
loop-i-init c = (refl, noting_start c.requires.0 c.requires.1 c.requires.2 (c.empty.ensures.0, c.empty.ensures.1.size))

pub bounds-places-i : goal.bounds-places-i
bounds-places-i c = omega (arith, noting_few_all c.loop-i.invariant.1, c.loop-i.invariant.1.size)

pub overflow_cast-at : goal.overflow_cast-at
overflow_cast-at c = omega (arith, c.type_inv.places c.loop-i.i)

pub overflow_sub-at : goal.overflow_sub-at
overflow_sub-at c = omega (arith, noting_behind c.loop-i.invariant.1 c.loop-i-test.true)

pub u16_at-name-requires : goal.u16_at-name-requires
u16_at-name-requires c = omega (arith, noting_there c.loop-i.invariant.1 c.loop-i-test.true, noting_behind c.loop-i.invariant.1 c.loop-i-test.true)

pub enter-r-requires : goal.enter-r-requires
enter-r-requires c = let l = c.loop-i.invariant.1 in
    (noting_part l, omega (arith, noting_few l, noting_room l), omega (arith, noting_few l, l.count, l.placed.room))

pub bounds-places-names : goal.bounds-places-names
bounds-places-names c = omega (arith, noting_few c.loop-i.invariant.1, noting_few_all c.loop-i.invariant.1, c.loop-i.invariant.1.size, noting_length c.loop-i.invariant.1 c.loop-i-test.true c.u16_at-name.ensures (c.enter-r.ensures, c.enter-r.ensures.only.size))

pub loop-i-preserved : goal.loop-i-preserved
loop-i-preserved c =
    let l = c.loop-i.invariant in
    let h = c.loop-i-test.true in
    let n = c.enter-r.ensures.only.size in (
      noting_length l.1 h c.u16_at-name.ensures (c.enter-r.ensures, n) ∙ l.0,
      elim c.if-r-names.branch [
        | then-r-names w ↦ rw w.names-is (noting_new l.1 h c.u16_at-name.ensures (c.enter-r.ensures, n) w.if-r-names.true)
        | else-r-names w ↦ rw w.names-is (noting_old l.1 h c.u16_at-name.ensures (c.enter-r.ensures, n) w.if-r-names.false)
      ],
    )

pub overflow_cast-places-2 : goal.overflow_cast-places-2
overflow_cast-places-2 c = record { fits = omega (arith, noting_few c.loop-i.invariant.1, noting_few_all c.loop-i.invariant.1) }

pub shape_of-places : goal.shape_of-places
shape_of-places c = let a = c in
    let l = c.loop-i in
    length-set l.places 257 l.names ∙ l.invariant.0 ∙ back_length a.args.places.now c.empty.new.t (omega (arith, a.requires.2)) c.empty.ensures.1.size

pub returns : goal.returns
returns c = noting_end c.loop-i.invariant.1 c.loop-i-test.false
