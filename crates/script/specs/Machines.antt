-- What the calls of a script are made on, and the bytes of what they are answered.
use Rattle.std.specs.Prelude.{ℕ, List}
use Rattle.std.specs.List.{flat_map}
use Rattle.datasheet.specs.Machines.{answered_by}
use Rattle.datasheet.specs.Chips.{Keeping}
use Rattle.datasheet.specs.Calls.{ChipState, ChipCall, ChipAnswer, after, answer}
use Rattle.board_model.specs.Images.{Image}
use Rattle.board_model.specs.Calls.{BoardCall, BoardAnswer, after as board_after, answer as board_answer, after_below, answer_below}
use Rattle.script.specs.Replies.{answer_bytes, board_answer_bytes}

-- what a call leaves, what it is answered, and the bytes of an answer
pub record Machine (X C A : Type 0) : Type 0 where
  pub after : X → C → X
  pub answer : X → C → A
  pub bytes : A → List ℕ

module _ {X C A : Type 0} (m : Machine X C A) where
  -- the bytes that a call is answered
  abbrev pub reply : X → C → List ℕ
  reply x call = m.bytes (m.answer x call)

  -- the bytes that a list of calls is answered, one answer behind the other
  abbrev pub replies : X → List C → List ℕ
  replies x calls = flat_map m.bytes (answered_by m.after m.answer x calls)

-- a chip, by the rules over what is kept of a session
abbrev pub chip_machine : (K : Keeping) → Machine (ChipState K.Kept) ChipCall ChipAnswer
chip_machine K = record { after = after K; answer = answer K; bytes = answer_bytes }

-- a board, by its image
abbrev pub board_machine : Machine Image BoardCall BoardAnswer
board_machine = record { after = board_after; answer = board_answer; bytes = board_answer_bytes }

-- a board, by what stands below it
abbrev pub machine_below : {G : Type 0} → (G → Image) → (G → ℕ → List ℕ → G) → Machine G BoardCall BoardAnswer
machine_below shows put =
    record { after = after_below shows put; answer = answer_below shows put; bytes = board_answer_bytes }
