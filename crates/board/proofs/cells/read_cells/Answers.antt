use Rattle.board.proofs.Bare.{read_filled}
use Rattle.board.proofs.cells.read_cells.Goals as goal

pub returns-clause-filled : goal.returns-clause-filled
returns-clause-filled c = read_filled c.args.cells.now c.args.start c.args.buffer.now c.in_ok-check_range.ensures c.copy_from_slice.ensures.after
