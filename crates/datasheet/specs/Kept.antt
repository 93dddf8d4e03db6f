-- What a chip of bounded size keeps of a session: a bit counter, the op-code, an address counter and a shift
-- register.
use Rattle.std.specs.Prelude.{ℕ, ◌+◌, ◌*◌, ◌%◌, Bool, if◌then◌else◌, ◌&&◌, List, length, ◌==◌, nat_le, nat_lt, Option}
use Rattle.datasheet.specs.declared.registers.Registers.{Registers}
use Rattle.datasheet.specs.declared.sheet.Sheet.{Sheet}
use Rattle.datasheet.specs.declared.command.Command.{Command}
use Rattle.datasheet.specs.declared.level.Level.{Level}
use Rattle.datasheet.specs.Bits.{bit, number, byte_after}
use Rattle.datasheet.specs.Sheets.{cells}
use Rattle.datasheet.specs.Records.{Record}
use Rattle.datasheet.specs.Commands.{command_at, first_data}
use Rattle.datasheet.specs.Places.{next_place}
use Rattle.datasheet.specs.Sessions.{command, cell_at}
use Rattle.datasheet.specs.Rises.{effect}
use Rattle.datasheet.specs.Falls.{shown}
use Rattle.datasheet.specs.Ends.{ended}
use Rattle.datasheet.specs.Chips.{Keeping, PinState, deselected, selected}
use Rattle.datasheet.specs.Calls.{ChipState}

-- ## What is kept

-- the bit counter: it counts to 47, and from there goes on at 40
abbrev pub counted : ℕ → ℕ
counted n = if nat_lt n 48 then n else 40 + n % 8

-- what is kept of these bits
abbrev pub kept : Sheet → List Bool → Registers
kept s bits =
    record {
      count = counted (length bits);
      code = byte_after 0 bits;
      place = cell_at s (first_data (command s bits)) bits;
      shift = number bits % 256;
    }

-- a chip that keeps this of its session
abbrev pub kept_pins : Sheet → PinState (List Bool) → PinState Registers
kept_pins s deselected = deselected
kept_pins s (selected o) = selected (record { sck = o.sck; course = o.course; kept = kept s o.kept; so = o.so })

abbrev pub kept_chip : ChipState (List Bool) → ChipState Registers
kept_chip c = record { sheet = c.sheet; fitted = c.fitted; rec = c.rec; pins = kept_pins c.sheet c.pins }

-- ## How it is kept, bit by bit

-- no bit taken
abbrev pub cleared : Registers
cleared = record { count = 0; code = 0; place = 0; shift = 0 }

-- after n bits, where the data begin after `first`, the next bit completes a data byte
abbrev pub turns : ℕ → ℕ → Bool
turns first n = nat_le (first + 7) n && (n + 1) % 8 == 0

-- the command of a session of which this is kept
abbrev pub command_in : Sheet → Registers → Option Command
command_in s k = command_at s k.count k.code

-- the address counter after one bit more
abbrev pub moved : Sheet → Registers → Bool → ℕ
moved s k b =
    -- the op-code leaves it
    if nat_lt k.count 8 then k.place
    -- bits 9 to 24 are shifted in
    else if nat_lt k.count 24 then (2 * k.place + bit b) % cells s
    -- each whole data byte moves it to the place one byte on
    else if turns (first_data (command_in s k)) k.count then next_place s k.place
    else k.place

-- one bit more
abbrev pub taken : Sheet → Registers → Bool → Registers
taken s k b =
    record {
      count = if nat_le 47 k.count then 40 else k.count + 1;
      code = if nat_lt k.count 8 then (2 * k.code + bit b) % 256 else k.code;
      place = moved s k b;
      shift = (2 * k.shift + bit b) % 256;
    }

-- ## The rules, read from what is kept

abbrev pub rise_kept : Sheet → Bool → Record → Registers → Bool → Record
rise_kept s wp r k b =
    let next : Registers = taken s k b in
    effect s (command_in s next) wp r next.count k.place next.shift

abbrev pub fall_kept : Sheet → Record → Registers → Level
fall_kept s r k = shown s (command_in s k) r k.count k.place

abbrev pub end_kept : Sheet → Record → Registers → Record
end_kept s r k = ended s (command_in s k) r k.count

abbrev pub bounded : Keeping
bounded =
    record {
      Kept = Registers;
      begin = cleared;
      more = taken;
      rises = rise_kept;
      shows = fall_kept;
      ends = end_kept;
    }
