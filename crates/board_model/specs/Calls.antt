-- Lists of calls on a board, and what they are answered.
use Rattle.std.specs.Prelude.{◌≡◌, ℕ, Bool, true, false, List, length, All, Ok, Err, Option, Result}
use Rattle.datasheet.specs.declared.refusal.Refusal.{Refusal}
use Rattle.datasheet.specs.Numbers.{Byte, MachineNumber}
use Rattle.datasheet.specs.Refusals.{refusal_number}
use Rattle.datasheet.specs.Machines.{left_by, answered_by}
use Rattle.board_model.specs.Images.{Image, part, bytes_of}
use Rattle.board_model.specs.Results.{fence_result, read_result, write_result, if_accepted, written}

-- size; fence question and read, by a start and a count; write, by a start and its bytes
pub data BoardCall : Type 0 where
  size : BoardCall
  fence : ℕ → ℕ → BoardCall
  read : ℕ → ℕ → BoardCall
  write : ℕ → List ℕ → BoardCall

-- what can be sent: starts, counts and the number of a write's bytes are machine numbers, and its bytes are bytes
abbrev pub Sendable : BoardCall → Type 0
Sendable size = Unit {0}
Sendable (fence start count) = MachineNumber start × MachineNumber count
Sendable (read start count) = MachineNumber start × MachineNumber count
Sendable (write start bs) = MachineNumber start × MachineNumber (length bs) × All Byte bs

-- a call that a reading board takes too: a size or a read
abbrev pub reads_only : BoardCall → Bool
reads_only size = true
reads_only (fence start count) = false
reads_only (read start count) = true
reads_only (write start bs) = false

-- what can be sent to a reading board: sizes and reads
abbrev pub Readable : BoardCall → Type 0
Readable call = (reads_only call ≡ true) × Sendable call

-- the number of cells; the first fenced place or none; the bytes that a read put into a buffer of its own;
-- done; or a refusal's number
pub data BoardAnswer : Type 0 where
  cells : ℕ → BoardAnswer
  place : Option ℕ → BoardAnswer
  bytes : List ℕ → BoardAnswer
  done : BoardAnswer
  refused : ℕ → BoardAnswer

-- the answer of a call that was accepted or refused
abbrev pub answer_of : {A : Type 0} → (A → BoardAnswer) → Result A Refusal → BoardAnswer
answer_of accepted (Ok x) = accepted x
answer_of accepted (Err e) = refused (refusal_number e)

abbrev pub answer : Image → BoardCall → BoardAnswer
answer i size = cells (length i)
answer i (fence start count) = answer_of place (fence_result i start count)
answer i (read start count) =
    answer_of (λ _. bytes (bytes_of (part i start count))) (read_result i start count)
answer i (write start bs) = answer_of (λ _. done) (write_result i start bs)

-- what a call leaves
abbrev pub after : Image → BoardCall → Image
after i size = i
after i (fence start count) = i
after i (read start count) = i
after i (write start bs) = written i start bs

-- what a list of calls leaves, made one after the other, and what it is answered
abbrev pub run : Image → List BoardCall → Image
run = left_by after

abbrev pub answers : Image → List BoardCall → List BoardAnswer
answers = answered_by after answer

-- a board by what stands below it: it answers by the image that it shows of that, and an accepted write puts its bytes
-- there
module _ {G : Type 0} (shows : G → Image) (put : G → ℕ → List ℕ → G) where
  abbrev pub after_below : G → BoardCall → G
  after_below g size = g
  after_below g (fence start count) = g
  after_below g (read start count) = g
  after_below g (write start bs) = if_accepted (write_result (shows g) start bs) (put g start bs) g

  abbrev pub answer_below : G → BoardCall → BoardAnswer
  answer_below g call = answer (shows g) call

  abbrev pub run_below : G → List BoardCall → G
  run_below = left_by after_below

  abbrev pub answers_below : G → List BoardCall → List BoardAnswer
  answers_below = answered_by after_below answer_below
