-- Where nothing is said, the answer to the input was written.
use Rattle.std.proofs.Common.{rules, arith}
use Rattle.layout.proofs.Answered.{answered}
use Rattle.layout.proofs.run.Goals as goal

pub returns-clause-answered : goal.returns-clause-answered
returns-clause-answered g c =
    let read = c.read_for-read in
    rw c.in-Some.is (answered c.in-Some.order read.result c.is_ok.result c.message_of-2.result c.output-size.result read.new.buf c.output-size.new.out _ _ _ _ (omega (arith, c.input_buffer-places.ensures)) read.ensures.into read.ensures.reads c.output-size.ensures (λ h ok. let all = c.write-written.ensures.all h in search rules) c.message_of-2.ensures)
