use Rattle.std.proofs.Common.{arith}
use Rattle.std.proofs.lemmas.List.{length-take}
use Rattle.board.proofs.dump.DumpReadBoard.size.Goals as goal

pub returns-clause-few : goal.returns-clause-few
returns-clause-few c = rw c.cells.ensures (simp length-take (omega arith))
