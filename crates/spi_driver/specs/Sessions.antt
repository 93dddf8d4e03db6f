-- What a driver exchanges, as lists of bus calls.
use Rattle.std.specs.Prelude.{◌≡◌, ℕ, zero, suc, ◌/◌, ◌%◌, if◌then◌else◌, List, [], ◌∷◌, ◌++◌, length, replicate, Some, Ok, Err, Result}
use Rattle.datasheet.specs.declared.sheet.Sheet.{Sheet}
use Rattle.datasheet.specs.declared.command.Command.{Command}
use Rattle.datasheet.specs.declared.command.Command.TheVariants.{Wren, Wrdi, Rdsr, Wrsr, Read, Write, Rdid, Fstrd, Sleep}
use Rattle.datasheet.specs.declared.refusal.Refusal.{Refusal}
use Rattle.datasheet.specs.Commands.{command_of}
use Rattle.spi_model.specs.declared.bus_call.BusCall.{BusCall}
use Rattle.spi_model.specs.declared.bus_call.BusCall.TheVariants.{Deselect}
use Rattle.spi_model.specs.Buses.{Bus, session_calls}
use Rattle.board_model.specs.Results.{read_result, write_result}
use Rattle.spi_driver.specs.Drives.{image_of}

-- ## Sessions

-- the op-code of a command
abbrev pub op_code : Command → ℕ
op_code Wren = 0x06
op_code Wrdi = 0x04
op_code Rdsr = 0x05
op_code Wrsr = 0x01
op_code Read = 0x03
op_code Write = 0x02
op_code Rdid = 0x9F
op_code Fstrd = 0x0B
op_code Sleep = 0xB9

-- The op-codes that a driver sends are those of the table, on every sheet.
abbrev pub SentByTable : Type 0
SentByTable =
    (s : Sheet) →
    (command_of s (op_code Wren) ≡ Some Wren)
    × (command_of s (op_code Wrdi) ≡ Some Wrdi)
    × (command_of s (op_code Rdsr) ≡ Some Rdsr)
    × (command_of s (op_code Read) ≡ Some Read)
    × (command_of s (op_code Write) ≡ Some Write)
    × (command_of s (op_code Rdid) ≡ Some Rdid)

-- the session of a command: its op-code, then these bytes
abbrev pub session_of : Command → List ℕ → List BusCall
session_of c bytes = session_calls (op_code c ∷ bytes)

-- where bytes are read, a zero is sent for each
abbrev pub zeros : ℕ → List ℕ
zeros n = replicate n 0

-- the place of a cell as two bytes, the higher first
abbrev pub address_of : ℕ → List ℕ
address_of place = place / 256 ∷ place % 256 ∷ []

-- any session ends; then comes one of no byte, which wakes the chip
abbrev pub waking : List BusCall
waking = Deselect ∷ session_calls []

-- the four bytes of the ID are read
abbrev pub asking_id : List BusCall
asking_id = session_of Rdid (zeros 4)

-- the status byte is read
abbrev pub asking_status : List BusCall
asking_status = session_of Rdsr (zeros 1)

-- so many cells are read from place start on, in one session
abbrev pub reading : ℕ → ℕ → List BusCall
reading start count = session_of Read (address_of start ++ zeros count)

-- the latch is set, these bytes are put into the cells from place start on, in one session, and the latch is
-- cleared
abbrev pub writing : ℕ → List ℕ → List BusCall
writing start bytes = session_of Wren [] ++ (session_of Write (address_of start ++ bytes) ++ session_of Wrdi [])

-- ## The calls of a driver

-- when it is made, and anew in every call: any session ends, the chip is woken, its latch is cleared, and its
-- ID is read. A probe question exchanges no more
abbrev pub probing : List BusCall
probing = waking ++ (session_of Wrdi [] ++ asking_id)

-- the sessions of a call that is accepted and has so many cells; with none there is no session
abbrev pub if_done : Result (Unit {0}) Refusal → ℕ → List BusCall → List BusCall
if_done (Err e) count calls = []
if_done (Ok u) zero calls = []
if_done (Ok u) (suc n) calls = calls

module _ {S : Type 0} (b : Bus S) where
  -- in every call of a board: where the ID is known, which is where the chip is fitted, the status byte is
  -- read too. Size and fence question exchange no more
  abbrev pub surveying : List BusCall
  surveying = probing ++ (if b.fitted then asking_status else [])

  -- a read of so many cells
  abbrev pub read_calls : ℕ → ℕ → List BusCall
  read_calls start count =
      surveying ++ if_done (read_result (image_of b) start count) count (reading start count)

  -- a write of these bytes
  abbrev pub write_calls : ℕ → List ℕ → List BusCall
  write_calls start bytes =
      surveying ++ if_done (write_result (image_of b) start bytes) (length bytes) (writing start bytes)
