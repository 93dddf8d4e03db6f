use Rattle.board_model.specs.Images.{most}
use Rattle.board_model.proofs.Cells.{take_min}
use Rattle.board.proofs.cells.cells.Goals as goal

pub returns : goal.returns
returns c = cc (take_min most c.args.memory.now)
