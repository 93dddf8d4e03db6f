-- The laws of equality. The first, whole: two chips, or two boards, are equal exactly when nothing that can be sent to them tells
-- them apart: every list of calls that can be sent gets equal answers from both. A refusal is an answer.
use Rattle.std.specs.Prelude.{◌≡◌, Bool, ◌↔◌, List}
use Rattle.datasheet.specs.declared.registers.Registers.{Registers}
use Rattle.datasheet.specs.declared.sheet.Sheet.{Sheet}
use Rattle.datasheet.specs.Alike.{Alike}
use Rattle.datasheet.specs.Chips.{deselected, whole}
use Rattle.datasheet.specs.Calls.{ChipState, Sendable as ChipSendable, answers as chip_answers}
use Rattle.datasheet.specs.Pasts.{Past, chip_now}
use Rattle.datasheet.specs.Kept.{bounded}
use Rattle.board.specs.declared.ReadBoard.{Ghosts}
use Rattle.board_model.specs.Images.{bytes_of}
use Rattle.board_model.specs.Calls.{Sendable as BoardSendable, Readable}
use Rattle.board_equality.specs.Builds.{answers_of}

-- `left` and `right` are any two builds of boards, of like build or unlike
pub record Equality {P Q : Type 0} (left : Ghosts P) (right : Ghosts Q) : Type 0 where
  -- Take any two fitted chips of one sheet, each over a memory of its own, whatever was sent before, that are now
  -- deselected. Their records are equal exactly when every list of samples and power cycles gets equal answers from
  -- both. This is by the rules over the full list of a session's bits.
  pub chips : (s : Sheet) (a b : Past s) →
      let c : ChipState (List Bool) = chip_now whole a in
      let d : ChipState (List Bool) = chip_now whole b in
      c.pins ≡ deselected → d.pins ≡ deselected →
      (c.rec ≡ d.rec) ↔ Alike ChipSendable (chip_answers whole) (chip_answers whole) c d
  -- The same of chips that keep no more of a session than they need.
  pub kept-chips : (s : Sheet) (a b : Past s) →
      let c : ChipState Registers = chip_now bounded a in
      let d : ChipState Registers = chip_now bounded b in
      c.pins ≡ deselected → d.pins ≡ deselected →
      (c.rec ≡ d.rec) ↔ Alike ChipSendable (chip_answers bounded) (chip_answers bounded) c d
  -- Take any two boards, alike or not. Their images are equal exactly when every list of sizes, fence questions, reads
  -- and writes gets equal answers from both.
  pub boards : (a : P) (b : Q) →
      (left.image a ≡ right.image b) ↔ Alike BoardSendable (answers_of left) (answers_of right) a b

-- The law of agreement: `left` and `right` are any two builds of reading boards, full boards or not, of like build or
-- unlike. Two of them agree in size and bytes, whatever is fenced, exactly when every list of sizes and reads gets equal
-- answers from both.
abbrev pub Agreement : {P Q : Type 0} → Ghosts P → Ghosts Q → Type 0
Agreement {P} {Q} left right =
    (a : P) (b : Q) →
    (bytes_of (left.image a) ≡ bytes_of (right.image b))
    ↔ Alike Readable (answers_of left) (answers_of right) a b
