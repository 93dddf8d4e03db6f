use Rattle.std.proofs.Common.{ap, ◌∙◌}
use Rattle.board_model.specs.Layers.{windowed}
use Rattle.board_model.proofs.Standing.{image_written}
use Rattle.board_model.proofs.Windows.{win_answer}
use Rattle.board_model.proofs.WindowBeneath.{window_standing, win_put}
use Rattle.board_window.proofs.WindowBoard.write.Goals as goal

pub returns-clause-answer : goal.returns-clause-answer
returns-clause-answer g c =
    let w = c.args.self.now in
    c.write.ensures.answer ∙ win_answer w.offset w.count c.args.start (g.B.ReadBoard.image w.below) c.args.bytes.now c.in_ok-base.ensures.base c.in_ok-base.ensures.below

pub returns-clause-beneath : goal.returns-clause-beneath
returns-clause-beneath g c =
    let w = c.args.self.now in
    let told = c.in_ok-base.ensures in
    let left = win_put w.offset w.count c.args.start (g.B.ReadBoard.image w.below) c.args.bytes.now told.base told.below g.B.ReadBoard.shows g.B.ReadBoard.put told.beneath (g.B.ReadBoard.shown w.below) c.write.ensures.beneath in
    cc (left, told.offset, told.count)

pub returns-clause-after : goal.returns-clause-after
returns-clause-after g c =
    let w = c.args.self.now in
    image_written (window_standing g.B.ReadBoard.standing) c.args.start c.args.bytes.now (ap (windowed w.offset w.count) (g.B.ReadBoard.shown w.below)) (ap (windowed _ _) (g.B.ReadBoard.shown _)) (returns-clause-beneath g c)
