use Rattle.script_reports.proofs.DumpsRead.{answers_as_chip}
use Rattle.script_reports.proofs.dumps.dump_report.Goals as goal

pub returns-clause-law : goal.returns-clause-law
returns-clause-law c = answers_as_chip
