use Rattle.std.proofs.Common.{rules}
use Rattle.script_reports.specs.Visits.{on_chip}
use Rattle.script_reports.proofs.Parked.{goes}
use Rattle.script_reports.proofs.chip_report.Goals as goal

pub returns-in-Ok-clause-visit : goal.returns-in-Ok-clause-visit
returns-in-Ok-clause-visit c = goes on_chip c.in-Ok.parked.sheet c.in-Ok.parked.stored.bits c.in-Ok.ensures.0 c.in-Ok.ensures.1 c.in-Ok.ensures.2 (search rules)
