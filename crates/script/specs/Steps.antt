-- Steps. A script is a row of steps, each one byte of kind, then a body whose length the kind fixes. Numbers
-- go highest byte first.
use Rattle.std.specs.Prelude.{ℕ, ◌+◌, ◌*◌, ◌||◌, if◌then◌else◌, List, length, take, drop, Some, None, Option, ◌==◌, nat_le, slice_index}
use Rattle.datasheet.specs.Calls.{ChipCall, ChipCall.sample, cycle}
use Rattle.board_model.specs.Calls.{BoardCall, size, fence, read, write}

-- the steps that a run knows, which stand for calls of type C
pub record Kinds (C : Type 0) : Type 0 where
  -- the number of bytes of the body, by the kind; none for a kind that the run does not know
  pub body : ℕ → Option ℕ
  -- the call that a whole step stands for, by its bytes
  pub call : List ℕ → C

-- what stands at the beginning of a script
pub data First (C : Type 0) : Type 0 where
  -- a whole step, by its call, and the rest of the script behind it
  step : C → List ℕ → First C
  -- a kind that the run does not know
  unknown : First C
  -- a kind that the run knows, with less than its body behind it
  short : First C

-- a step whose body has so many bytes, if the script has as many
abbrev pub step_of : {C : Type 0} → Option ℕ → (List ℕ → C) → List ℕ → First C
step_of None call script = unknown
step_of (Some body) call script =
    if nat_le (1 + body) (length script)
    then step (call (take (1 + body) script)) (drop (1 + body) script)
    else short

-- the first step of a script
abbrev pub first : {C : Type 0} → Kinds C → List ℕ → First C
first kinds script = step_of (kinds.body (slice_index script 0)) kinds.call script

-- ## The chip run

-- the length of a step's body, by its kind
abbrev pub chip_body : ℕ → Option ℕ
chip_body kind =
    -- a sample: its byte
    if kind == 1 then Some 1
    -- a power cycle
    else if kind == 2 then Some 0
    else None

abbrev pub chip_call : List ℕ → ChipCall
chip_call bytes = if slice_index bytes 0 == 1 then sample (slice_index bytes 1) else cycle

abbrev pub chip_kinds : Kinds ChipCall
chip_kinds = record { body = chip_body; call = chip_call }

-- ## The board run

-- the length of a step's body, by its kind
abbrev pub board_body : ℕ → Option ℕ
board_body kind =
    -- size
    if kind == 3 then Some 0
    -- the fence question on eight cells: a start
    else if kind == 4 then Some 3
    -- the read of eight cells: a start
    else if kind == 5 then Some 3
    -- the write of eight cells: a start and eight bytes
    else if kind == 6 then Some 11
    -- the write of one cell: a start and a byte
    else if kind == 7 then Some 4
    else None

-- a start is the three bytes behind the kind
abbrev pub start_in : List ℕ → ℕ
start_in bytes = 65536 * slice_index bytes 1 + (256 * slice_index bytes 2 + slice_index bytes 3)

-- what a write puts is the bytes behind its start
abbrev pub board_call : List ℕ → BoardCall
board_call bytes =
    let kind : ℕ = slice_index bytes 0 in
    let start : ℕ = start_in bytes in
    if kind == 3 then size
    else if kind == 4 then fence start 8
    else if kind == 5 then read start 8
    else write start (drop 4 bytes)

abbrev pub board_kinds : Kinds BoardCall
board_kinds = record { body = board_body; call = board_call }

-- ## The run over a reading board

-- of the kinds of the board run size and the read of eight cells alone
abbrev pub read_body : ℕ → Option ℕ
read_body kind = if kind == 3 || kind == 5 then board_body kind else None

abbrev pub read_kinds : Kinds BoardCall
read_kinds = record { body = read_body; call = board_call }
