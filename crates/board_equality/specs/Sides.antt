-- The fences of an image, and what a comparison leaves of a board.
use Rattle.std.specs.Prelude.{◌≡◌, Bool, List, map}
use Rattle.board.specs.declared.ReadBoard.{Ghosts}
use Rattle.board_model.specs.declared.Cell.{Cell}

-- the fences of some cells: of each, whether it is fenced
abbrev pub fences_of : List Cell → List Bool
fences_of cs = map (λ c. c.fenced) cs

-- a board that is kept: before and after, it means the same image, the same stands below it, and it has what it was
-- lent; `build` says of a board of this build what these are
pub record Kept {B : Type 0} (build : Ghosts B) (before after : B) : Type 0 where
  pub image : build.image after ≡ build.image before
  pub beneath : build.beneath after ≡ build.beneath before
  pub lent : build.lent after ≡ build.lent before
