-- The outcome of a run.
use Rattle.std.specs.Prelude.{◌≡◌, ℕ, ◌*◌, if◌then◌else◌, List, ◌++◌, length, drop, Ok, Err, Result, nat_le}
use Rattle.datasheet.specs.declared.refusal.Refusal.{Refusal}
use Rattle.datasheet.specs.declared.refusal.Refusal.TheVariants.{ShortBuffer}
use Rattle.datasheet.specs.Chips.{Keeping}
use Rattle.datasheet.specs.Machines.{left_by}
use Rattle.datasheet.specs.Calls.{ChipState}
use Rattle.board_model.specs.Images.{Image}
use Rattle.script.specs.declared.run.Counts.{Counts}
use Rattle.script.specs.Steps.{Kinds, chip_kinds, board_kinds, read_kinds}
use Rattle.script.specs.Reading.{Reading, reads, stops, read_script}
use Rattle.script.specs.Machines.{Machine, replies, chip_machine, board_machine, machine_below}

-- what a run answers, what it leaves of what it was carried out on, and of the answer buffer
pub record Outcome (X : Type 0) : Type 0 where
  pub result : Result Counts Refusal
  pub left : X
  pub buffer : List ℕ

-- a run came to this outcome: it answered r, and left x and a buffer of these bytes
pub record CameTo {X : Type 0} (o : Outcome X) (r : Result Counts Refusal) (x : X) (bytes : List ℕ) : Type 0 where
  pub result : r ≡ o.result
  pub left : x ≡ o.left
  pub buffer : bytes ≡ o.buffer

-- a refused run leaves everything
abbrev pub refusing : {X : Type 0} → Refusal → X → List ℕ → Outcome X
refusing e x buffer = record { result = Err e; left = x; buffer = buffer }

-- a run on anything, by what a script is read as, and what its calls are made on
module _ {X C A : Type 0} (kinds : Kinds C) (m : Machine X C A) where
  -- all steps were carried out: the answers stand at the front of the buffer, which keeps what it held past
  -- them
  abbrev pub playing : X → List C → List ℕ → List ℕ → Outcome X
  playing x calls bytes buffer =
      record {
        result = Ok (record { steps = length calls; bytes = length bytes });
        left = left_by m.after x calls;
        buffer = bytes ++ drop (length bytes) buffer;
      }

  -- a script that was read: first the buffer is checked, which needs nine bytes for each step, then all steps
  -- run
  abbrev pub outcome_of : Reading C → X → List ℕ → Outcome X
  outcome_of (stops e) x buffer = refusing e x buffer
  outcome_of (reads calls) x buffer =
      if nat_le (9 * length calls) (length buffer)
      then playing x calls (replies m x calls) buffer
      else refusing ShortBuffer x buffer

  abbrev pub outcome_by : X → List ℕ → List ℕ → Outcome X
  outcome_by x script buffer = outcome_of (read_script kinds script) x buffer

-- the chip run, by the rules over what is kept of a session
abbrev pub outcome : (K : Keeping) → ChipState K.Kept → List ℕ → List ℕ → Outcome (ChipState K.Kept)
outcome K = outcome_by chip_kinds (chip_machine K)

-- the board run
abbrev pub board_outcome : Image → List ℕ → List ℕ → Outcome Image
board_outcome = outcome_by board_kinds board_machine

-- the run over a reading board: the board run of sizes and reads
abbrev pub read_outcome : Image → List ℕ → List ℕ → Outcome Image
read_outcome = outcome_by read_kinds board_machine

-- the board run, by what stands below the board
abbrev pub outcome_below : {G : Type 0} → (G → Image) → (G → ℕ → List ℕ → G) → G → List ℕ → List ℕ → Outcome G
outcome_below shows put = outcome_by board_kinds (machine_below shows put)
