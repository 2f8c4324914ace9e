use Rattle.check_command.proofs.OneReport.{one_report_law}
use Rattle.check_command.proofs.laws.one_report.Goals as goal

pub returns : goal.returns
returns c = one_report_law
