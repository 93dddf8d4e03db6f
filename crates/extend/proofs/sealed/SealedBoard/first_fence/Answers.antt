use Rattle.std.proofs.Common.{arith}
use Rattle.extend.proofs.Sealing.{some_fence}
use Rattle.extend.proofs.sealed.SealedBoard.first_fence.Goals as goal

pub returns-then-count-gt0-clause-answer : goal.returns-then-count-gt0-clause-answer
returns-then-count-gt0-clause-answer g c =
    some_fence (g.B.ReadBoard.image c.args.self.now.below) _ c.args.start c.args.count c.size.ensures.answer c.in_ok-check_range.ensures (omega arith)
