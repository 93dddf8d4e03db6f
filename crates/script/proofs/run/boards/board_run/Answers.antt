use Rattle.std.proofs.Common.{rules}
use Rattle.script.proofs.Below.{came_by_image, keeps_beneath}
use Rattle.script.proofs.run.boards.board_run.Goals as goal

pub returns-clause-outcome : goal.returns-clause-outcome
returns-clause-outcome g c =
    let came = came_by_image g.B.ReadBoard.standing c.args.script.now c.args.buffer.now (g.B.ReadBoard.shown _) (g.B.ReadBoard.shown _) c.run.ensures.outcome in
    search rules

pub returns-clause-unaltered : goal.returns-clause-unaltered
returns-clause-unaltered g c = keeps_beneath g.B.ReadBoard
