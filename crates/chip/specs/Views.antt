-- What the chip of the code is, in the terms of the rules.
use Rattle.std.specs.Prelude.{◌≡◌, true, length, Some, None, Option}
use Rattle.datasheet.specs.declared.registers.Registers.{Registers}
use Rattle.datasheet.specs.declared.level.Level.{Level}
use Rattle.datasheet.specs.Sheets.{fits}
use Rattle.datasheet.specs.Records.{Record}
use Rattle.datasheet.specs.Chips.{PinState, deselected, selected}
use Rattle.datasheet.specs.Calls.{ChipState}
use Rattle.spi_model.specs.Moments.{Moment}
use Rattle.chip.specs.declared.session.Session.{Session}
use Rattle.chip.specs.declared.chip.Chip.{Chip}
use Rattle.chip.specs.Held.{held}

-- its record; of a blank chip the lent memory and the stored bits
abbrev pub record_of : Chip → Record
record_of c = held c.memory.now c.status

-- its pins
abbrev pub pins_of : Option Session → PinState Registers
pins_of None = deselected
pins_of (Some x) = selected (record { sck = x.sck; course = x.course; kept = x.kept; so = x.so })

-- the whole chip
abbrev pub chip_of : Chip → ChipState Registers
chip_of c =
    record {
      sheet = c.sheet;
      fitted = fits c.sheet c.memory.now;
      rec = record_of c;
      pins = pins_of c.session;
    }

-- the moment that it is at in a session of which this is kept, while SO shows so
abbrev pub moment_of : Chip → Registers → Level → Moment Registers
moment_of c k so = record { rec = record_of c; kept = k; so = so }

-- a resting chip is fitted and deselected
abbrev pub Resting : Chip → Type 0
Resting c = (fits c.sheet c.memory.now ≡ true) × (c.session ≡ None)

-- all but the record is the same: the chip is the same one, over the same lent memory, and its pins are as
-- they were
pub record SameButRecord (c d : Chip) : Type 0 where
  pub sheet : d.sheet ≡ c.sheet
  pub session : d.session ≡ c.session
  pub lent : d.memory.ghost_name ≡ c.memory.ghost_name
  pub cells : length d.memory.now ≡ length c.memory.now
