use Rattle.board.proofs.Bare.{fence_none}
use Rattle.board.proofs.plain.PlainBoard.first_fence.Goals as goal

pub returns-clause-answer : goal.returns-clause-answer
returns-clause-answer c = fence_none c.args.self.now.memory.now c.args.start c.args.count c.cells.ensures c.in_ok-check_range.ensures
