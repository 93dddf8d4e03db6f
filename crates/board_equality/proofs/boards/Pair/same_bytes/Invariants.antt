use Rattle.std.proofs.Common.{◌≡◌, take}
use Rattle.board_model.specs.Images.{bytes_of}
use Rattle.board_equality.specs.Pairs.{Untouched}
use Rattle.board_equality.proofs.boards.Pair.same_bytes.Given as goal

abbrev pub invariant-loop-start : goal.invariant-loop-start
invariant-loop-start g l = record {
  kept : Untouched l.fn.self l.self;
  whole : l.start-end ≡ l.self.size;
  so_far : take l.start (bytes_of (g.P.ReadBoard.image l.fn.self.left)) ≡ take l.start (bytes_of (g.Q.ReadBoard.image l.fn.self.right));
}
