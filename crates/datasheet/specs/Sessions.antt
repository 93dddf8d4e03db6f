-- A session is the list of the bits taken so far, the first bit first. It has no limit.
use Rattle.std.specs.Prelude.{ℕ, ◌-◌, ◌/◌, ◌%◌, Bool, List, length, take, drop, Option}
use Rattle.datasheet.specs.declared.sheet.Sheet.{Sheet}
use Rattle.datasheet.specs.declared.command.Command.{Command}
use Rattle.datasheet.specs.Bits.{number, byte_after}
use Rattle.datasheet.specs.Sheets.{cells}
use Rattle.datasheet.specs.Commands.{command_at}
use Rattle.datasheet.specs.Places.{places_on}

-- bits 1 to 8 are the op-code
abbrev pub command : Sheet → List Bool → Option Command
command s bits = command_at s (length bits) (byte_after 0 bits)

-- the address is bits 9 to 24, modulo the number of cells
abbrev pub address : Sheet → List Bool → ℕ
address s bits = number (take 16 (drop 8 bits)) % cells s

-- the whole data bytes taken, where data byte 0 begins after `from` bits
abbrev pub data_bytes : ℕ → List Bool → ℕ
data_bytes from bits = (length bits - from) / 8

-- the cell that the session has come to: the address, then for each of them the place one byte on
abbrev pub cell_at : Sheet → ℕ → List Bool → ℕ
cell_at s from bits = places_on s (address s bits) (data_bytes from bits)
