use Rattle.std.proofs.Common.{length, ◌∙◌}
use Rattle.board_model.specs.Layers.{plain, dumped}
use Rattle.board_model.proofs.Dumps.{dump_bytes}
use Rattle.board_model.proofs.SizesAndReads.{same_result, same_into}
use Rattle.board.proofs.dump.DumpReadBoard.read.Goals as goal

pub returns-clause-answer : goal.returns-clause-answer
returns-clause-answer c =
    let m = c.args.self.now.memory.now in
    c.read_cells.ensures.answer ∙ rw c.cells.ensures (same_result (plain m) (dumped m) (dump_bytes m) c.args.start (length c.args.buffer.now))

pub returns-clause-filled : goal.returns-clause-filled
returns-clause-filled c =
    let m = c.args.self.now.memory.now in
    c.read_cells.ensures.filled ∙ rw c.cells.ensures (same_into (plain m) (dumped m) (dump_bytes m) c.args.start c.args.buffer.now)
