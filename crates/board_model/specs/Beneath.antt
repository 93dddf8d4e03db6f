-- What stands below a board: whatever its cells are kept in, and what is kept beside them.
use Rattle.std.specs.Prelude.{◌≡◌, ℕ, ◌+◌, ◌<◌, List, length, Some, Ok, Option, slice_get}
use Rattle.board_model.specs.Images.{Image, bytes_of, overwritten}
use Rattle.board_model.specs.Results.{write_result}

-- the byte of the cell at this place of an image, if there is one
abbrev pub byte_of : Image → ℕ → Option ℕ
byte_of i place = slice_get (bytes_of i) place

-- What holds of all that stands below a board. `shows` is the image that the board has of it, `put` what an
-- accepted write from a start on makes of it, `byte_at` the byte at a place of it, if there is one, and
-- `stands` the place at which the byte of a cell stands, the cell told by its number.
pub record Standing {G P : Type 0} (shows : G → Image) (put : G → ℕ → List ℕ → G)
    (byte_at : G → P → Option ℕ) (stands : G → ℕ → P) : Type 0 where
  -- the byte of a cell stands at its place
  pub holds : (g : G) (cell byte : ℕ) →
      byte_of (shows g) cell ≡ Some byte → byte_at g (stands g cell) ≡ Some byte
  -- an accepted write puts its bytes into the image
  pub puts : (g : G) (start : ℕ) (bytes : List ℕ) → write_result (shows g) start bytes ≡ Ok tt →
      shows (put g start bytes) ≡ overwritten (shows g) start bytes
  -- it alters no byte but those of the cells in its range
  pub only : (g : G) (start : ℕ) (bytes : List ℕ) (place : P) →
      write_result (shows g) start bytes ≡ Ok tt →
      ((k : ℕ) → k < length bytes → place ≡ stands g (start + k) → ⊥) →
      byte_at (put g start bytes) place ≡ byte_at g place
  -- and the cells stand where they stood
  pub stays : (g : G) (start : ℕ) (bytes : List ℕ) (cell : ℕ) →
      write_result (shows g) start bytes ≡ Ok tt →
      stands (put g start bytes) cell ≡ stands g cell
