-- What a comparison leaves of two boards.
use Rattle.board.specs.declared.ReadBoard.{Ghosts}
use Rattle.board_equality.specs.Sides.{Kept}
use Rattle.board_equality.specs.declared.boards.Pair.{Pair}

-- both boards of a pair are kept
pub record Untouched {P Q : Type 0} {p : Ghosts P} {q : Ghosts Q} (before after : Pair P Q p q) : Type 0 where
  pub left : Kept p before.left after.left
  pub right : Kept q before.right after.right
