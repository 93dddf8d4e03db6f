use Rattle.std.proofs.Common.{◌∙◌}
use Rattle.board_model.proofs.Windows.{win_filled}
use Rattle.board_window.proofs.WindowReadBoard.read.Goals as goal

pub returns-clause-filled : goal.returns-clause-filled
returns-clause-filled g c =
    let w = c.args.self.now in
    c.read.ensures.filled ∙ win_filled w.offset w.count c.args.start (g.B.ReadBoard.image w.below) c.args.buffer.now c.in_ok-base.ensures.base c.in_ok-base.ensures.below
