use Rattle.std.proofs.Common.{rules}
use Rattle.chip.specs.Views.{chip_of}
use Rattle.script_reports.proofs.OnBoard.{begins, ends}
use Rattle.script_reports.proofs.board_visit.Goals as goal

pub returns-clause-memory : goal.returns-clause-memory
returns-clause-memory c =
    let begun = begins c.power-chip.ensures.state c.requires.fits in
    let ended = ends (chip_of c.run_stepped-result.new.chip) c.args.parked.sheet c.args.memory.now c.args.parked.stored.bits _ c.args.script.now c.args.answers.now c.requires.fits begun c.run_stepped-result.ensures.came.left in
    search rules
