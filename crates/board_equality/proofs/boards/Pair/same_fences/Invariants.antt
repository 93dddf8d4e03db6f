use Rattle.std.proofs.Common.{◌≡◌, take}
use Rattle.board_equality.specs.Sides.{fences_of, Kept}
use Rattle.board_equality.proofs.boards.Pair.same_fences.Given as goal

abbrev pub invariant-loop-place : goal.invariant-loop-place
invariant-loop-place g l = record {
  can : (goal.iterator-loop-place g).can_next l.place-iterator;
  finite : (goal.iterator-loop-place g).is_finite l.place-iterator;
  left : Kept g.P.ReadBoard l.fn.self.left l.place-iterator.board.now;
  right : Kept g.Q.ReadBoard l.fn.self.right l.right.board.now;
  left_same : l.place-iterator.board.ghost_name ≡ l.initial.place-iterator.board.ghost_name;
  right_same : l.right.board.ghost_name ≡ l.initial.right.board.ghost_name;
  paired : l.right.start ≡ l.place-iterator.start;
  so_far : take l.right.start (fences_of (g.P.ReadBoard.image l.fn.self.left)) ≡ take l.right.start (fences_of (g.Q.ReadBoard.image l.fn.self.right));
}
