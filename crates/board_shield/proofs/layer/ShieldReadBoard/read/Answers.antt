use Rattle.std.proofs.Common.{length, ◌∙◌}
use Rattle.board_shield.specs.Tables.{ranges_of}
use Rattle.board_shield.proofs.Covers.{read_same, into_same}
use Rattle.board_shield.proofs.layer.ShieldReadBoard.read.Goals as goal

pub returns-clause-answer : goal.returns-clause-answer
returns-clause-answer g c =
    let s = c.args.self.now in
    c.read.ensures.answer ∙ read_same (ranges_of s.ranges) (g.B.ReadBoard.image s.below) c.args.start (length c.args.buffer.now)

pub returns-clause-filled : goal.returns-clause-filled
returns-clause-filled g c =
    let s = c.args.self.now in
    c.read.ensures.filled ∙ into_same (ranges_of s.ranges) (g.B.ReadBoard.image s.below) c.args.start c.args.buffer.now
