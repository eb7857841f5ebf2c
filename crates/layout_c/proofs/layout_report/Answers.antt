use Rattle.layout_c.proofs.CallLaws.{report_in_c}
use Rattle.layout_c.proofs.layout_report.Goals as goal

pub returns : goal.returns
returns c = report_in_c _ c.report.ensures c.give.ensures.length_out c.give.ensures.code
