-- What a read gave stands behind what was read before it.
use Rattle.std.proofs.Common.{◌≡◌, ℕ, ◌+◌, ◌≤◌, List, ◌++◌, length, take, drop, arith, ap, ap₂, sym, subst, ◌∙◌, length-take-le}
use Rattle.std.proofs.KnownBytes.{Consumes-trans}
use Rattle.std.specs.Io.KnownBytes.{Consumes}
use lib.Seq.{take-add, take-append-le, drop-append_seam}
use borrow.Rule.Slice.PartMut.{put_mid, post_of, take_put}
use Rattle.input.proofs.read_full.Goals as goal

front_grows : (done n k : ℕ) (old new : List ℕ) → done ≤ length old → n ≤ length new → take done old ++ take n new ≡ take (done + n) (put_mid done k old new)
front_grows done n k old new h m =
    let behind : drop done (put_mid done k old new) ≡ new ++ post_of done k old =
    subst (λ j. drop j (put_mid done k old new) ≡ new ++ post_of done k old) (length-take-le done old h) (drop-append_seam (take done old) (new ++ post_of done k old)) in
    sym (take-add done n (put_mid done k old new) ∙ ap₂ (λ xs ys. xs ++ ys) (take_put done k old new h) (ap (take n) behind ∙ take-append-le n new (post_of done k old) m))

pub loop-done-preserved : goal.loop-done-preserved
loop-done-preserved g c =
    let gave = c.in_ok-n.ensures in
    record {
      within = omega (arith, c.read.auto);
      reads = subst (Consumes _ _) (front_grows c.loop-done.done c.in_ok-n.n _ c.loop-done.buf c.read.new.buf c.loop-done.invariant.within gave.bound.0) (Consumes-trans _ _ _ _ _ c.loop-done.invariant.reads gave.bytes.0);
    }
