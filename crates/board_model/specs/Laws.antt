-- The law of boards.
use Rattle.std.specs.Prelude.{◌≡◌, ◌≤◌, ◌↔◌, length}
use Rattle.datasheet.specs.Alike.{Alike}
use Rattle.board_model.specs.Images.{Image, most}
use Rattle.board_model.specs.Calls.{Sendable, answers}

-- Any two boards, of at most 1,048,576 cells as every board is, have equal images exactly when no list of sizes, fence
-- questions, reads and writes tells them apart; a refusal is an answer.
abbrev pub ToldApart : Type 0
ToldApart =
    (i j : Image) → length i ≤ most → length j ≤ most →
    (i ≡ j) ↔ Alike Sendable answers answers i j
