-- A reading: a byte that was written into a cell.
use Rattle.std.specs.Prelude.{ℕ, List, [], ◌∷◌, Ok, Err, Result, if◌then◌else◌, ◌==◌}
use Rattle.datasheet.specs.Refusals.{refusal_number}
use Rattle.datasheet.specs.declared.refusal.Refusal.TheVariants.{OutOfRange}
use Rattle.board_model.specs.declared.Cell.{Cell}
use Rattle.board_model.specs.Images.{Image, part}
use Rattle.extend.specs.declared.reading.ReadingRefusal.{ReadingRefusal}
use Rattle.extend.specs.declared.reading.ReadingRefusal.TheVariants.{Board, Unwritten}

-- the number by which a refusal is known: that of the board's, or 200
abbrev pub reading_number : ReadingRefusal → ℕ
reading_number (Board refusal) = refusal_number refusal
reading_number Unwritten = 200

-- a cell that holds FFh was not written
abbrev pub reading_of : List Cell → Result ℕ ReadingRefusal
reading_of [] = Err (Board OutOfRange)
reading_of (c ∷ cs) = if c.byte == 0xFF then Err Unwritten else Ok c.byte

-- the reading at a place; there is none behind the last cell
abbrev pub reading_result : Image → ℕ → Result ℕ ReadingRefusal
reading_result i place = reading_of (part i place 1)
