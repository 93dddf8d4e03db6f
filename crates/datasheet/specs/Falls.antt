-- What SO shows after a fall of SCK.
use Rattle.std.specs.Prelude.{ℕ, ◌-◌, ◌%◌, min, Bool, if◌then◌else◌, List, length, nat_le, slice_index, Some, Option}
use Rattle.datasheet.specs.declared.sheet.Sheet.{Sheet}
use Rattle.datasheet.specs.declared.level.Level.{Level}
use Rattle.datasheet.specs.declared.level.Level.TheVariants.{HighZ}
use Rattle.datasheet.specs.declared.command.Command.{Command}
use Rattle.datasheet.specs.declared.command.Command.TheVariants.{Rdsr, Read, Rdid, Fstrd}
use Rattle.datasheet.specs.Bits.{bit_at}
use Rattle.datasheet.specs.Levels.{driven}
use Rattle.datasheet.specs.Sheets.{identity}
use Rattle.datasheet.specs.Records.{Record, status}
use Rattle.datasheet.specs.Commands.{first_data}
use Rattle.datasheet.specs.Sessions.{command, cell_at}

-- SO after n bits where the data begin after `first` bits, in a byte of cell a, its highest bit first; before
-- the data SO is not driven
abbrev pub data_shown : ℕ → Record → ℕ → ℕ → Level
data_shown first r n a =
    if nat_le first n then driven (bit_at (7 - (n - first) % 8) (slice_index r.memory a)) else HighZ

-- SO after n bits, by command; a is the cell that the session has come to
abbrev pub shown : Sheet → Option Command → Record → ℕ → ℕ → Level
-- the status, its highest bit first; it repeats
shown s (Some Rdsr) r n a = driven (bit_at (7 - (n - 8) % 8) (status r))
-- the ID, its highest bit first; its last bit holds
shown s (Some Rdid) r n a = driven (bit_at (31 - min (n - 8) 31) (identity s))
-- the cells
shown s (Some Read) r n a = data_shown 24 r n a
shown s (Some Fstrd) r n a = data_shown 32 r n a
-- no other command drives SO
shown s _ r n a = HighZ

-- SO after a fall in a session of these bits
abbrev pub after_fall : Sheet → Record → List Bool → Level
after_fall s r bits = shown s (command s bits) r (length bits) (cell_at s (first_data (command s bits)) bits)
