use Rattle.std.proofs.Common.{arith}
use Rattle.board_model.proofs.Joins.{length_joined}
use Rattle.board_join.proofs.JoinReadBoard.size.Goals as goal

pub returns-clause-answer : goal.returns-clause-answer
returns-clause-answer g c =
    let w = c.args.self.now in
    let e = length_joined (g.A.ReadBoard.image w.first) (g.B.ReadBoard.image w.second) in
    omega arith
