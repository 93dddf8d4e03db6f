-- Answers as bytes. Numbers go highest byte first.
use Rattle.std.specs.Prelude.{ℕ, ◌/◌, ◌%◌, List, [], ◌∷◌, Some, None, Option}
use Rattle.datasheet.specs.Levels.{level_number}
use Rattle.datasheet.specs.Calls.{ChipAnswer, shows, done, refused}
use Rattle.board_model.specs.Calls.{BoardAnswer, cells, place, bytes, done as board_done, refused as board_refused}

-- 7Fh and the number of a refusal
abbrev pub refusal_bytes : ℕ → List ℕ
refusal_bytes number = 0x7F ∷ number ∷ []

-- ## The chip run

-- 81h and SO for a sample, 82h for a power cycle
abbrev pub answer_bytes : ChipAnswer → List ℕ
answer_bytes (shows level) = 0x81 ∷ level_number level ∷ []
answer_bytes done = 0x82 ∷ []
answer_bytes (refused number) = refusal_bytes number

-- ## The board run

-- a number in three bytes
abbrev pub three_bytes : ℕ → List ℕ
three_bytes n = n / 65536 % 256 ∷ n / 256 % 256 ∷ n % 256 ∷ []

-- a place, or FFFFFFh for none
abbrev pub place_bytes : Option ℕ → List ℕ
place_bytes (Some p) = three_bytes p
place_bytes None = 0xFF ∷ 0xFF ∷ 0xFF ∷ []

-- 83h and the size, 84h and the first fenced place, 85h and the bytes that were read, 86h for a write
abbrev pub board_answer_bytes : BoardAnswer → List ℕ
board_answer_bytes (cells n) = 0x83 ∷ three_bytes n
board_answer_bytes (place p) = 0x84 ∷ place_bytes p
board_answer_bytes (bytes bs) = 0x85 ∷ bs
board_answer_bytes board_done = 0x86 ∷ []
board_answer_bytes (board_refused number) = refusal_bytes number
