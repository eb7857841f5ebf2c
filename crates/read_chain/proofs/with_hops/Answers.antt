use mathlib.Core.Path.{◌∙◌}
use native.Mathlib.Omega.{arith}
use Rattle.search.proofs.Turns.{kept_hops, hopped_far}
use Rattle.search.proofs.Reading.{far_kept, measured_kept, measured_small, sought, lent_sought}
use Rattle.read_chain.proofs.with_hops.Goals as goal

pub set_hops-requires-clause-by_index : goal.set_hops-requires-clause-by_index
set_hops-requires-clause-by_index c = let p = c.requires in measured_small p.0 (p.1.1.sought p.2).0

pub returns : goal.returns
returns c =
    let p = c.requires in
    let h = c.set_hops.ensures in
    let w = c.set_hops.new.work in
    (λ to l. lent_sought p.0 w (omega (arith, h.size, l.room)) (measured_kept p.0 (l.sought p.2).0 (kept_hops h)) (sought p.0 (λ i. (c.type_inv.edges i).fits) h (l.sought p.2).0), λ x. far_kept w 2 x ∙ hopped_far h x)
