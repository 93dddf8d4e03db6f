use Rattle.std.proofs.Common.{◌∙◌}
use Rattle.board_shield.specs.Tables.{ranges_of}
use Rattle.board_shield.proofs.Covers.{size_same}
use Rattle.board_shield.proofs.layer.ShieldReadBoard.size.Goals as goal

pub returns-clause-answer : goal.returns-clause-answer
returns-clause-answer g c = c.size.ensures.answer ∙ size_same (ranges_of c.args.self.now.ranges) (g.B.ReadBoard.image c.args.self.now.below)
