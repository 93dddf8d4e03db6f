-- The law of the run over a reading board.
use Rattle.std.specs.Prelude.{◌≡◌, ◌↔◌, ℕ, true, List, All}
use Rattle.board_model.specs.Images.{Image, bytes_of}
use Rattle.board_model.specs.Calls.{BoardCall, reads_only}
use Rattle.script.specs.Steps.{read_kinds, board_kinds}
use Rattle.script.specs.Reading.{reads, read_script}
use Rattle.script.specs.Runs.{board_outcome, read_outcome}

pub record RunsAsBoard : Type 0 where
  -- It reads exactly the scripts that the board run reads as sizes and reads.
  pub known : (script : List ℕ) (calls : List BoardCall) →
      (read_script read_kinds script ≡ reads calls)
      ↔ ((read_script board_kinds script ≡ reads calls) × All (λ (c : BoardCall). reads_only c ≡ true) calls)
  -- Whatever the script is, the image is left.
  pub leaves : (i : Image) (script buffer : List ℕ) → (read_outcome i script buffer).left ≡ i
  -- A script of sizes and reads comes to the same on a reading board as on any board of the same bytes, whatever is
  -- fenced on either: a dump answers as the board that it was read off. And it leaves that board as it was.
  pub as_board : (i j : Image) (script buffer : List ℕ) (calls : List BoardCall) →
      bytes_of i ≡ bytes_of j → read_script read_kinds script ≡ reads calls →
      ((read_outcome i script buffer).result ≡ (board_outcome j script buffer).result)
      × ((read_outcome i script buffer).buffer ≡ (board_outcome j script buffer).buffer)
      × ((board_outcome j script buffer).left ≡ j)
