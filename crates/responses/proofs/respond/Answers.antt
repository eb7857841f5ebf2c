use Rattle.std.proofs.Common.{arith, sym, length-take-le}
use Rattle.responses.proofs.Responding.{gives}
use Rattle.responses.proofs.respond.Goals as goal

pub returns-in-Report : goal.returns-in-Report
returns-in-Report c = rw c.in-Report.is (gives _ c.args.out.now (omega (arith, c.requires)) _ _ c.report.ensures)

pub returns-in-Renumber : goal.returns-in-Renumber
returns-in-Renumber c = rw c.in-Renumber.is (gives _ c.args.out.now (omega (arith, c.requires)) _ _ c.renumber.ensures)

pub returns-in-Chain : goal.returns-in-Chain
returns-in-Chain c = rw c.in-Chain.is c.respond_chain.ensures

pub returns-in-Followed : goal.returns-in-Followed
returns-in-Followed c = rw c.in-Followed.is c.respond_followed.ensures

pub returns-in-Size : goal.returns-in-Size
returns-in-Size c = rw c.in-Size.is c.respond_size.ensures

pub returns-in-Value : goal.returns-in-Value
returns-in-Value c = rw c.in-Value.is c.respond_value.ensures

pub slice_bounds-report-end-in-Report : goal.slice_bounds-report-end-in-Report
slice_bounds-report-end-in-Report c = sym (length-take-le 65536 c.args.out.now (omega (arith, c.requires)))

pub slice_bounds-renumber-end-in-Renumber : goal.slice_bounds-renumber-end-in-Renumber
slice_bounds-renumber-end-in-Renumber c = sym (length-take-le 65536 c.args.out.now (omega (arith, c.requires)))
