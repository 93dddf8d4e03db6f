-- The fences of a board, one after the other.
use Rattle.std.specs.Prelude.{◌≡◌, ℕ, ◌+◌, ◌-◌, Option, IfSome}
use Rattle.board.specs.declared.ReadBoard.{Ghosts}
use Rattle.board_model.specs.Images.{fence_in}
use Rattle.board_equality.specs.Sides.{Kept}
use Rattle.board_equality.specs.declared.boards.Fences.{Fences}

-- what is found is the first fence from the start on; the search goes on behind it, and keeps the board
pub record NextFence {B : Type 0} {b : Ghosts B}
    (before : Fences B b) (found : Option ℕ) (after : Fences B b) : Type 0 where
  pub first : found ≡ fence_in (b.image before.board) before.start (before.size - before.start)
  pub behind : IfSome found (λ place. after.start ≡ place + 1)
  pub board : Kept b before.board after.board
  pub size : after.size ≡ before.size
